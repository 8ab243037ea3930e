-- What a line of the input means: nothing, an error without an entry, or a command.
use Rattle.std.specs.Prelude.{ℕ, ◌==◌, ◌||◌, List, Bool, Result, Ok, Err, Option, Some, None, if◌then◌else◌}
use Rattle.std.specs.List.{list_all}
use Rattle.rpc_lines.specs.declared.request.Id.{Id}
use Rattle.rpc_lines.specs.declared.request.Id.TheVariants.{Null}
use Rattle.rpc_lines.specs.Reply.{Content}
use Rattle.rpc_lines.specs.Request.{LineReading, request, not_json, not_request, request_of}
use Rattle.askrene_command.specs.declared.command.Command.{Command}
use Rattle.params.specs.Methods.{command_in}
use Rattle.plan_answer.specs.Errors.{parse_error, invalid_request, method_not_found, invalid_params}

-- a space, a tab or a CR
abbrev pub is_blank_byte : ℕ → Bool
is_blank_byte byte = byte == 32 || (byte == 9 || byte == 13)

abbrev pub is_blank : List ℕ → Bool
is_blank line = list_all is_blank_byte line

pub data LineMeaning : Type 0 where
  -- the line is skipped
  blank : LineMeaning
  -- the line gets an error without an entry: its id and the content of the reply
  wrong : Id → Content → LineMeaning
  -- the line is a command: its id and the command
  command : Id → Command → LineMeaning

-- the meaning of a request, by the method and the parameters
abbrev pub meaning_of_method : Id → List ℕ → Option (Result Command (List ℕ)) → LineMeaning
meaning_of_method id method None = wrong id (method_not_found method)
meaning_of_method id method (Some (Err name)) = wrong id (invalid_params name)
meaning_of_method id method (Some (Ok asked)) = command id asked

abbrev pub meaning_of_reading : LineReading → LineMeaning
meaning_of_reading not_json = wrong Null parse_error
meaning_of_reading (not_request id) = wrong id invalid_request
meaning_of_reading (request id method params) = meaning_of_method id method (command_in method params)

unfoldable pub meaning_of : List ℕ → LineMeaning
meaning_of line = if is_blank line then blank else meaning_of_reading (request_of line)
