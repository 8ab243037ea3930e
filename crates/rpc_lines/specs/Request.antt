-- What a line is read as. The JSON crate defines the value of a text: of repeated keys the last value counts, at most 127
-- arrays and objects are open at once, and a number with a point or an exponent, `-0`, and a whole number that fits
-- neither u64 nor i64 are floats.
use Rattle.std.specs.Prelude.{ℕ, List, codes, Option, Some, None, option_and_then, if◌then◌else◌}
use Rattle.std.specs.Str.{is_utf8}
use Rattle.serde_json.specs.Data.{unsigned, negative, Data, null, number, string, array, object, Members, no_members}
use Rattle.serde_json.specs.Find.{get_member, as_str}
use Rattle.serde_json.specs.Read.{read}
use Rattle.rpc_lines.specs.declared.request.Id.{Id}
use Rattle.rpc_lines.specs.declared.request.Id.TheVariants.{Null, Unsigned, Signed, Text}

-- The JSON value of a line, if it has one.
unfoldable pub value_of : List ℕ → Option Data
value_of line = if is_utf8 line then read line else None

-- The id that the member `id` gives, if it is of a valid kind. An absent id is null.
abbrev pub id_of : Option Data → Option Id
id_of None = Some Null
id_of (Some null) = Some Null
id_of (Some (string text)) = Some (Text text)
id_of (Some (number (unsigned n))) = Some (Unsigned n)
id_of (Some (number (negative z))) = Some (Signed z)
id_of (Some _) = None

-- The parameters that the member `params` gives, if it is of a valid kind. Absent or null, they are an empty object.
abbrev pub params_of : Option Data → Option Data
params_of None = Some (object no_members)
params_of (Some null) = Some (object no_members)
params_of (Some (array items)) = Some (array items)
params_of (Some (object entries)) = Some (object entries)
params_of (Some _) = None

-- What a line is read as.
pub data LineReading : Type 0 where
  -- not a JSON text
  not_json : LineReading
  -- a JSON text and not a request; the id is the line's own if it is of a valid kind, else null
  not_request : Id → LineReading
  -- a request: its id, its method and its parameters
  request : Id → List ℕ → Data → LineReading

-- A request needs all three parts.
abbrev pub request_from : Option Id → Option (List ℕ) → Option Data → LineReading
request_from (Some id) (Some method) (Some params) = request id method params
request_from (Some id) (Some method) None = not_request id
request_from (Some id) None params = not_request id
request_from None method params = not_request Null

abbrev pub request_in : Members → LineReading
request_in entries =
    request_from (id_of (get_member (codes "id") entries)) (option_and_then as_str (get_member (codes "method") entries)) (params_of (get_member (codes "params") entries))

abbrev pub reading_of : Option Data → LineReading
reading_of None = not_json
reading_of (Some (object entries)) = request_in entries
reading_of (Some _) = not_request Null

-- The reading of a line.
unfoldable pub request_of : List ℕ → LineReading
request_of line = reading_of (value_of line)
