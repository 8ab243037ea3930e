-- The value at the front of a reader's tokens, as `serde_json` reads it.
use Rattle.std.specs.Prelude.{ℕ, List, Bool, true, false, Option}
use Rattle.json.specs.Token.{Token}
use Rattle.json.specs.Json.{parse_map, value}
use Rattle.serde_json.specs.Data.{Data, null, boolean, number, string, array, object, no_items, no_members}
use Rattle.serde_json.specs.Read.{of_json, converted}

-- a value without what is inside it: an array and an object as if empty
abbrev pub outline : Data → Data
outline null = null
outline (boolean b) = boolean b
outline (number n) = number n
outline (string s) = string s
outline (array ds) = array no_items
outline (object ms) = object no_members

-- the function f of the value at the front of the tokens, and the tokens after that value; `depth` is the greatest number
-- of arrays and objects that may be open at a place
abbrev pub value_as : {A : Type 0} → (Data → A) → ℕ → List Token → Option (A × List Token)
value_as f depth ts = parse_map f (converted of_json (value depth ts))

abbrev pub value_outline : ℕ → List Token → Option (Data × List Token)
value_outline = value_as outline

-- whether a token opens an object
abbrev pub opens_object : Token → Bool
opens_object Token.begin_object = true
opens_object Token.end_object = false
opens_object Token.begin_array = false
opens_object Token.end_array = false
opens_object (Token.key s) = false
opens_object (Token.string s) = false
opens_object (Token.number s) = false
opens_object (Token.boolean b) = false
opens_object Token.null = false
opens_object Token.bad = false

-- whether a token opens an array
abbrev pub opens_array : Token → Bool
opens_array Token.begin_object = false
opens_array Token.end_object = false
opens_array Token.begin_array = true
opens_array Token.end_array = false
opens_array (Token.key s) = false
opens_array (Token.string s) = false
opens_array (Token.number s) = false
opens_array (Token.boolean b) = false
opens_array Token.null = false
opens_array Token.bad = false
