-- The wanted members of an object.
use Rattle.std.specs.Prelude.{ℕ, List, [], ◌∷◌, map, length, Bool, true, not, ◌&&◌, Option, option_map}
use Rattle.std.specs.Borrow.{Bor}
use Rattle.std.specs.List.{list_any}
use Rattle.std.specs.Str.{bytes_eq}
use Rattle.json.specs.Token.{Token}
use Rattle.json.specs.Json.{parse_map, members, value}
use Rattle.serde_json.specs.Data.{Data, Members, no_members}
use Rattle.serde_json.specs.Find.{as_object, get_member}
use Rattle.serde_json.specs.Read.{of_members, converted}
use Rattle.json_pass.specs.Value.{outline}
use Rattle.json_pass.specs.Leaf.{leaf_data}
use Rattle.json_pass.specs.declared.leaf.Leaf.{Leaf}

-- the bytes of each name
abbrev pub texts : List (Bor (List ℕ)) → List (List ℕ)
texts names = map (λ name. name.now) names

-- the outline in a slot
abbrev pub slot_data : Option Leaf → Option Data
slot_data slot = option_map leaf_data slot

-- no name occurs twice
abbrev pub are_distinct : List (List ℕ) → Bool
are_distinct [] = true
are_distinct (name ∷ names) = not (list_any (bytes_eq name) names) && are_distinct names

-- for each name, the outline of the value under it
abbrev pub last_values : List (List ℕ) → Members → List (Option Data)
last_values names ms = map (λ name. option_map outline (get_member name ms)) names

-- the same of a value that is an object
abbrev pub wanted_values : List (List ℕ) → Data → Option (List (Option Data))
wanted_values names d = option_map (last_values names) (as_object d)

-- the function f of the members of an object whose brace has been taken, and the tokens after that object
abbrev pub members_as : {A : Type 0} → (Members → A) → ℕ → List Token → Option (A × List Token)
members_as f depth ts = parse_map f (converted (λ ms. of_members ms no_members) (members (value depth) (length ts) ts))
