-- The errors for a line that gets no entry in the history, and for running out of memory. The first four codes are those of
-- JSON-RPC 2.0, the others are this project's own.
use Rattle.std.specs.Prelude.{ℕ, ℤ, List, pos, negsuc, codes}
use Rattle.serde_json.specs.Data.{Data, object, string, member, no_members}
use Rattle.rpc_lines.specs.Json.{whole}
use Rattle.rpc_lines.specs.Reply.{Content, with_error}

-- an error without data, and an error with one member
abbrev pub bare_error : ℤ → List ℕ → Content
bare_error code message = with_error code message (object no_members)

abbrev pub error_with : ℤ → List ℕ → List ℕ → Data → Content
error_with code message key value = with_error code message (object (member key value no_members))

-- the line is not a JSON text: -32700
unfoldable pub parse_error : Content
parse_error = bare_error (negsuc 32699) (codes "parse error")

-- the line is not a request: -32600
unfoldable pub invalid_request : Content
invalid_request = bare_error (negsuc 32599) (codes "invalid request")

-- the method does not exist: -32601
unfoldable pub method_not_found : List ℕ → Content
method_not_found method = error_with (negsuc 32600) (codes "method not found") (codes "method") (string method)

-- a parameter is missing or bad: -32602
unfoldable pub invalid_params : List ℕ → Content
invalid_params name = error_with (negsuc 32601) (codes "invalid params") (codes "name") (string name)

unfoldable pub line_too_long : Content
line_too_long = bare_error (pos 310) (codes "line too long")

-- the journal has its maximum number of entries, `length`
unfoldable pub journal_full : ℕ → Content
journal_full length = error_with (pos 306) (codes "journal full") (codes "length") (whole length)

-- out of memory before the command got an entry
unfoldable pub out_of_memory : Content
out_of_memory = bare_error (pos 399) (codes "out of memory")

-- out of memory for the reply to the entry at a position
unfoldable pub out_of_memory_at : ℕ → Content
out_of_memory_at at = error_with (pos 399) (codes "out of memory") (codes "at") (whole at)
