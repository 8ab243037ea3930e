-- The members of an object that is written from a table of names and a list of values.
use Rattle.std.proofs.Common.{◌≡◌, ℕ, Bool, true, false, List, [], ◌∷◌, Option, Some, None, refl, ap, ◌∙◌}
use Rattle.std.specs.Prelude.{◌&&◌, ◌||◌, not, bytes_eq, is_some, if◌then◌else◌}
use Rattle.std.specs.Ordering.{match_ordering}
use Rattle.std.specs.Cmp.Lexicographic.{slice_cmp}
use Rattle.std.specs.List.{list_any, list_all}
use Rattle.std.proofs.Common.{Ordering, Less, Equal, Greater, nat_cmp}
use Rattle.std.proofs.lemmas.Bool.{true≢false, both_ways, not-true, and_parts}
use Rattle.std.proofs.lemmas.Slice.Eq.{bytes_eq-Decides}
use Rattle.serde_json.specs.Data.{Data, Members, no_members, member, put}
use Rattle.serde_json.specs.Find.{get_member}
use Rattle.serde_json.proofs.Views.{get_member-put, get_member-put_other}
use Rattle.params.specs.Parameters.{lesser, unknown_member}
use Rattle.params.specs.Printed.{put_given, put_all}

-- no name occurs twice
abbrev pub are_distinct : List (List ℕ) → Bool
are_distinct [] = true
are_distinct (name ∷ names) = not (list_any (bytes_eq name) names) && are_distinct names

-- the value that is given for a name
abbrev pub value_at : List ℕ → List (List ℕ) → List (Option Data) → Option Data
value_at q [] values = None
value_at q (name ∷ names) [] = None
value_at q (name ∷ names) (value ∷ values) = if bytes_eq q name then value else value_at q names values

abbrev or_else : Option Data → Option Data → Option Data
or_else None other = other
or_else (Some value) other = Some value

or_else_none : (value : Option Data) → or_else value None ≡ value
or_else_none None = refl
or_else_none (Some value) = refl

-- with one more member
given_here : (k : List ℕ) (value : Option Data) (ms : Members) → get_member k (put_given k value ms) ≡ or_else value (get_member k ms)
given_here k None ms = refl
given_here k (Some d) ms = get_member-put k d ms

given_other : (q k : List ℕ) (value : Option Data) (ms : Members) → (q ≡ k → ⊥) → get_member q (put_given k value ms) ≡ get_member q ms
given_other q k None ms other = refl
given_other q k (Some d) ms other = get_member-put_other q k d ms other

-- the equations of `put_all`
put_no_names : (values : List (Option Data)) (ms : Members) → put_all [] values ms ≡ ms
unfolding put_all
put_no_names values ms = refl

put_no_values : (name : List ℕ) (names : List (List ℕ)) (ms : Members) → put_all (name ∷ names) [] ms ≡ ms
unfolding put_all
put_no_values name names ms = refl

put_more : (name : List ℕ) (names : List (List ℕ)) (value : Option Data) (values : List (Option Data)) (ms : Members)
    → put_all (name ∷ names) (value ∷ values) ms ≡ put_all names values (put_given name value ms)
unfolding put_all
put_more name names value values ms = refl

none_step : (a b : Bool) (value rest : Option Data) → (a || b) ≡ false → (b ≡ false → rest ≡ None) → (if a then value else rest) ≡ None
none_step true b value rest is more = absurd (true≢false is)
none_step false b value rest is more = more is

none_at : (q : List ℕ) (names : List (List ℕ)) (values : List (Option Data)) → list_any (bytes_eq q) names ≡ false → value_at q names values ≡ None
none_at q [] values is = refl
none_at q (name ∷ names) [] is = refl
none_at q (name ∷ names) (value ∷ values) is =
    none_step (bytes_eq q name) (list_any (bytes_eq q) names) value (value_at q names values) is (λ none. none_at q names values none)

found_step : (q name : List ℕ) (names : List (List ℕ)) (value : Option Data) (values : List (Option Data)) (ms : Members) (b : Bool)
    → bytes_eq q name ≡ b → not (list_any (bytes_eq name) names) ≡ true
    → get_member q (put_all names values (put_given name value ms)) ≡ or_else (value_at q names values) (get_member q (put_given name value ms))
    → get_member q (put_all names values (put_given name value ms)) ≡ or_else (if b then value else value_at q names values) (get_member q ms)
found_step q name names value values ms true is apart found =
    let same : q ≡ name = (bytes_eq-Decides q name).0 is in
    let none : value_at name names values ≡ None = none_at name names values (not-true _ apart) in
    found ∙ rw (same, none) (given_here name value ms)
found_step q name names value values ms false is apart found =
    let other : q ≡ name → ⊥ = λ e. both_ways (bytes_eq q name) is ((bytes_eq-Decides q name).1 e) in
    found ∙ ap (or_else (value_at q names values)) (given_other q name value ms other)

found_onto : (q : List ℕ) (names : List (List ℕ)) (values : List (Option Data)) (ms : Members) → are_distinct names ≡ true
    → get_member q (put_all names values ms) ≡ or_else (value_at q names values) (get_member q ms)
found_onto q [] values ms distinct = rw (put_no_names values ms) refl
found_onto q (name ∷ names) [] ms distinct = rw (put_no_values name names ms) refl
found_onto q (name ∷ names) (value ∷ values) ms distinct =
    let parts = and_parts (not (list_any (bytes_eq name) names)) (are_distinct names) distinct in
    let more = found_onto q names values (put_given name value ms) parts.1 in
    rw (put_more name names value values ms) (found_step q name names value values ms (bytes_eq q name) refl parts.0 more)

-- a parameter of the table has the value that is given for it
pub found : (q : List ℕ) (names : List (List ℕ)) (values : List (Option Data)) → are_distinct names ≡ true
    → get_member q (put_all names values no_members) ≡ value_at q names values
found q names values distinct = found_onto q names values no_members distinct ∙ or_else_none (value_at q names values)

-- no other parameter exists
unknown_step : (b : Bool) (name : List ℕ) (x y : Option (List ℕ)) → (if b then x else Some (lesser name x)) ≡ None → (x ≡ None → y ≡ None)
    → (if b then y else Some (lesser name y)) ≡ None
unknown_step true name x y is more = more is
unknown_step false name x y is more = absurd (true≢false (ap is_some is))

unknown_put_at : (o : Ordering) (table : List (List ℕ)) (k l : List ℕ) (d e : Data) (ms : Members) → list_any (bytes_eq k) table ≡ true
    → unknown_member table (member l e ms) ≡ None → (unknown_member table ms ≡ None → unknown_member table (put k d ms) ≡ None)
    → unknown_member table (match_ordering o (member k d (member l e ms)) (member l d ms) (member l e (put k d ms))) ≡ None
unknown_put_at Less table k l d e ms listed none more = rw listed none
unknown_put_at Equal table k l d e ms listed none more = none
unknown_put_at Greater table k l d e ms listed none more =
    unknown_step (list_any (bytes_eq l) table) l (unknown_member table ms) (unknown_member table (put k d ms)) none more

unknown_put : (table : List (List ℕ)) (k : List ℕ) (d : Data) (ms : Members) → list_any (bytes_eq k) table ≡ true
    → unknown_member table ms ≡ None → unknown_member table (put k d ms) ≡ None
unknown_put table k d no_members listed none = rw listed refl
unknown_put table k d (member l e ms) listed none =
    unknown_put_at (slice_cmp nat_cmp k l) table k l d e ms listed none (λ more. unknown_put table k d ms listed more)

unknown_given : (table : List (List ℕ)) (k : List ℕ) (value : Option Data) (ms : Members) → list_any (bytes_eq k) table ≡ true
    → unknown_member table ms ≡ None → unknown_member table (put_given k value ms) ≡ None
unknown_given table k None ms listed none = none
unknown_given table k (Some d) ms listed none = unknown_put table k d ms listed none

unknown_onto : (table names : List (List ℕ)) (values : List (Option Data)) (ms : Members)
    → list_all (λ name. list_any (bytes_eq name) table) names ≡ true
    → unknown_member table ms ≡ None → unknown_member table (put_all names values ms) ≡ None
unknown_onto table [] values ms listed none = rw (put_no_names values ms) none
unknown_onto table (name ∷ names) [] ms listed none = rw (put_no_values name names ms) none
unknown_onto table (name ∷ names) (value ∷ values) ms listed none =
    let parts = and_parts (list_any (bytes_eq name) table) (list_all (λ other. list_any (bytes_eq other) table) names) listed in
    let one = unknown_given table name value ms parts.0 none in
    rw (put_more name names value values ms) (unknown_onto table names values (put_given name value ms) parts.1 one)

pub none_unknown_in : (table : List (List ℕ)) (values : List (Option Data)) → list_all (λ name. list_any (bytes_eq name) table) table ≡ true
    → unknown_member table (put_all table values no_members) ≡ None
none_unknown_in table values listed = unknown_onto table table values no_members listed refl
