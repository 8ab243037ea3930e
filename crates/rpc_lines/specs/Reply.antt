-- The line of a reply.
use Rattle.std.specs.Prelude.{List, ℕ, ℤ, [], ◌∷◌, ◌++◌, codes}
use Rattle.serde_json.specs.Data.{Data, null, number, string, object, unsigned, no_members, member}
use Rattle.serde_json.specs.Find.{of_integer}
use Rattle.serde_json.specs.Written.{compact_text}
use Rattle.rpc_lines.specs.declared.request.Id.{Id}
use Rattle.rpc_lines.specs.declared.request.Id.TheVariants.{Null, Unsigned, Signed, Text}

-- The JSON value of an id.
abbrev pub id_data : Id → Data
id_data Null = null
id_data (Unsigned n) = number (unsigned n)
id_data (Signed z) = number (of_integer z)
id_data (Text text) = string text

-- What a reply contains: its result, or the code, the message and the data of its error.
pub data Content : Type 0 where
  with_result : Data → Content
  with_error : ℤ → List ℕ → Data → Content

-- the result that contains only the position of an entry
abbrev pub place_data : ℕ → Data
place_data at = object (member (codes "at") (number (unsigned at)) no_members)

-- the JSON value of a content: the result, or the data of the error
abbrev pub value_in : Content → Data
value_in (with_result value) = value
value_in (with_error code message value) = value

abbrev pub error_data : ℤ → List ℕ → Data → Data
error_data code message value =
    object (member (codes "code") (number (of_integer code)) (member (codes "data") value (member (codes "message") (string message) no_members)))

-- The JSON value of a reply, its keys in ascending order.
abbrev pub reply_data : Data → Content → Data
reply_data id (with_result value) =
    object (member (codes "id") id (member (codes "jsonrpc") (string (codes "2.0")) (member (codes "result") value no_members)))
reply_data id (with_error code message value) =
    object (member (codes "error") (error_data code message value) (member (codes "id") id (member (codes "jsonrpc") (string (codes "2.0")) no_members)))

-- The line of a reply: its JSON text without spaces, and LF.
unfoldable pub reply_line : Data → Content → List ℕ
reply_line id content = compact_text (reply_data id content) ++ 10 ∷ []
