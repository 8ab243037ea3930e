-- The parameters of a method, by name or in the order of its table, and which of them is refused first.
use Rattle.std.specs.Prelude.{ℕ, List, [], Bool, false, nat_lt, length, get_or, codes, bytes_eq, Option, Some, None, Result, Ok, Err, is_some, unwrap_or, option_map, option_and_then, if◌then◌else◌}
use Rattle.std.specs.Cmp.Lexicographic.{slice_cmp}
use Rattle.std.specs.List.{list_any}
use Rattle.std.specs.Ordering.{nat_cmp, match_ordering}
use Rattle.serde_json.specs.Data.{Data, array, object, Members, no_members, member}
use Rattle.serde_json.specs.Events.{items_len}
use Rattle.serde_json.specs.Find.{get_item, get_member, as_null, as_array, as_object}

-- the value given for a parameter: the item at its place, or the member with its name
unfoldable pub given : Data → ℕ → List ℕ → Option Data
given (array items) place name = get_item place items
given (object entries) place name = get_member name entries
given _ place name = None

-- a parameter that must be present and good
unfoldable pub required : {T : Type 0} → (Data → Option T) → Option Data → Option T
required reads value = option_and_then reads value

-- a parameter that must be absent, null or good
unfoldable pub optional : {T : Type 0} → (Data → Option T) → Option Data → Option (Option T)
optional reads None = Some None
optional reads (Some value) = if is_some (as_null value) then Some None else option_map Some (reads value)

-- the same for the parameter at a place of a table
abbrev pub needed : {T : Type 0} → (Data → Option T) → List (List ℕ) → Data → ℕ → Option T
needed reads table params place = required reads (given params place (get_or table place []))

abbrev pub given_for : {T : Type 0} → (Data → Option T) → List (List ℕ) → Data → ℕ → Option (Option T)
given_for reads table params place = optional reads (given params place (get_or table place []))

-- continues with a good value, or refuses the parameter by its name
abbrev pub need : {A B : Type 0} → List ℕ → Option A → (A → Result B (List ℕ)) → Result B (List ℕ)
need name None next = Err name
need name (Some good) next = next good

-- the parameter at a place of the table is required
abbrev pub needs : {A B : Type 0} → List (List ℕ) → Data → ℕ → (Data → Option A) → (A → Result B (List ℕ)) → Result B (List ℕ)
needs table params place reads next = need (get_or table place []) (needed reads table params place) next

-- the parameter at a place of the table is optional
abbrev pub may_have : {A B : Type 0} → List (List ℕ) → Data → ℕ → (Data → Option A) → (Option A → Result B (List ℕ)) → Result B (List ℕ)
may_have table params place reads next = need (get_or table place []) (given_for reads table params place) next

-- an array has more items than there are parameters
unfoldable pub is_too_long : ℕ → Data → Bool
is_too_long count params = unwrap_or (option_map (λ items. nat_lt count (items_len items)) (as_array params)) false

abbrev pub unless_long : {T : Type 0} → List (List ℕ) → Data → Result T (List ℕ) → Result T (List ℕ)
unless_long table params rest = if is_too_long (length table) params then Err (codes "params") else rest

-- a rule between parameters that refuses one of them
abbrev pub refused_if : {T : Type 0} → Bool → List ℕ → Result T (List ℕ) → Result T (List ℕ)
refused_if broken name rest = if broken then Err name else rest

-- the lesser, in byte order, of a name and another one, if there is one
abbrev pub lesser : List ℕ → Option (List ℕ) → List ℕ
lesser name None = name
lesser name (Some other) = match_ordering (slice_cmp nat_cmp name other) name name other

-- the least name that is not in the table
abbrev pub unknown_member : List (List ℕ) → Members → Option (List ℕ)
unknown_member table no_members = None
unknown_member table (member name value entries) =
    if list_any (bytes_eq name) table then unknown_member table entries else Some (lesser name (unknown_member table entries))

unfoldable pub unknown_name : List (List ℕ) → Data → Option (List ℕ)
unknown_name table params = option_and_then (unknown_member table) (as_object params)

abbrev pub none_unknown : {T : Type 0} → Option (List ℕ) → T → Result T (List ℕ)
none_unknown None good = Ok good
none_unknown (Some name) good = Err name

-- the command, unless an unknown parameter is given
abbrev pub if_known : {T : Type 0} → List (List ℕ) → Data → T → Result T (List ℕ)
if_known table params good = none_unknown (unknown_name table params) good
