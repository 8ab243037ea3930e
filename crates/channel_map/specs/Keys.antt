-- Which JSON value is good under a key of a map's entry. Null is never good: it is not the same as an absent key.
use Rattle.std.specs.Prelude.{ℕ, nat_le, ◌==◌, List, bytes_eq, Bool, true, Option, Some, None, option_and_then, if◌then◌else◌}
use Rattle.plan_base.specs.Amount.{at_most_max, msat_of}
use Rattle.plan_base.specs.NodeId.{node_id_of}
use Rattle.plan_base.specs.Scid.{scid_of}
use Rattle.serde_json.specs.Data as json
use Rattle.serde_json.specs.Data.{Data, boolean, number, string, array, object}
use Rattle.serde_json.specs.Find.{as_str, as_bool, as_number, as_u64}

-- the text of a node id
abbrev pub node_value : Option Data → Option (List ℕ)
node_value value = option_and_then node_id_of (option_and_then as_str value)

-- the node, if it is not the source
abbrev pub other_than : List ℕ → List ℕ → Option (List ℕ)
other_than source node = if bytes_eq node source then None else Some node

-- the text of a node id other than the source
abbrev pub other_node_value : List ℕ → Option Data → Option (List ℕ)
other_node_value source value = option_and_then (other_than source) (node_value value)

-- the text of a short channel id
abbrev pub scid_value : Option Data → Option ℕ
scid_value value = option_and_then scid_of (option_and_then as_str value)

-- the number, if it is at most the limit
abbrev pub at_most : ℕ → ℕ → Option ℕ
at_most limit n = if nat_le n limit then Some n else None

-- a whole number; `1.0`, `1e3` and `-0` are none
abbrev pub whole_number : Data → Option ℕ
whole_number value = option_and_then as_u64 (as_number value)

-- a whole number of at most the limit
abbrev pub whole_value : ℕ → Option Data → Option ℕ
whole_value limit value = option_and_then (at_most limit) (option_and_then whole_number value)

-- the side, if the number is that
abbrev pub same_side : ℕ → ℕ → Option ℕ
same_side side n = if n == side then Some side else None

-- the side as a whole number; it may be absent
abbrev pub side_value : ℕ → Option Data → Option ℕ
side_value side None = Some side
side_value side (Some value) = option_and_then (same_side side) (whole_number value)

-- an amount as a whole number or as a text
abbrev pub amount_of : Data → Option ℕ
amount_of json.null = None
amount_of (boolean b) = None
amount_of (number n) = option_and_then at_most_max (as_u64 n)
amount_of (string s) = msat_of s
amount_of (array ds) = None
amount_of (object ms) = None

-- an amount
abbrev pub amount_value : Option Data → Option ℕ
amount_value value = option_and_then amount_of value

-- an amount, or the default if it is absent
abbrev pub amount_or : ℕ → Option Data → Option ℕ
amount_or default None = Some default
amount_or default (Some value) = amount_of value

-- true or false, or true if it is absent
abbrev pub active_value : Option Data → Option Bool
active_value None = Some true
active_value (Some value) = as_bool value
