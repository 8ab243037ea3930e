-- In an object, whose names ascend, the first name that a table lacks is the least.
use Rattle.std.proofs.Common.{◌≡◌, ℕ, Bool, true, false, List, [], ◌∷◌, Option, Some, None, String, Global, string_bytes, string_cmp, Ordering, Less, Equal, Greater, nat_cmp, refl, sym, ap, ◌∙◌}
use Rattle.std.specs.Prelude.{bytes_eq, if◌then◌else◌}
use Rattle.std.specs.Cmp.Lexicographic.{slice_cmp}
use Rattle.std.specs.List.{list_any, AllByRecursion}
use Rattle.std.specs.List.Sorted.{IsStrictlySortedBy}
use Rattle.std.specs.Map.{keys_of}
use Rattle.std.specs.Ordering.{match_ordering}
use Rattle.serde_json.specs.View.{members_view}
use Rattle.serde_json.proofs.Views.{Entry}
use Rattle.params.specs.Parameters.{lesser, unknown_member}

-- a name stands before another, if there is one
abbrev IsBefore : List ℕ → Option (List ℕ) → Type 0
IsBefore name None = Unit {0}
IsBefore name (Some other) = slice_cmp nat_cmp name other ≡ Less

before_at : (o : Ordering) (name key other : List ℕ) → slice_cmp nat_cmp name key ≡ Less → slice_cmp nat_cmp name other ≡ Less
    → slice_cmp nat_cmp name (match_ordering o key key other) ≡ Less
before_at Less name key other first second = first
before_at Equal name key other first second = first
before_at Greater name key other first second = second

before_lesser : (name key : List ℕ) (rest : Option (List ℕ)) → slice_cmp nat_cmp name key ≡ Less → IsBefore name rest
    → IsBefore name (Some (lesser key rest))
before_lesser name key None first second = first
before_lesser name key (Some other) first second = before_at (slice_cmp nat_cmp key other) name key other first second

before_step : (b : Bool) (name key : List ℕ) (rest : Option (List ℕ)) → slice_cmp nat_cmp name key ≡ Less → IsBefore name rest
    → IsBefore name (if b then rest else Some (lesser key rest))
before_step true name key rest first second = second
before_step false name key rest first second = before_lesser name key rest first second

before_unknown : (table : List (List ℕ)) (name : String Global) (es : List Entry) → AllByRecursion (λ key. string_cmp name key ≡ Less) (keys_of es)
    → IsBefore (string_bytes name) (unknown_member table (members_view es))
before_unknown table name [] above = tt
before_unknown table name (e ∷ es) above =
    before_step (list_any (bytes_eq (string_bytes e.0)) table) (string_bytes name) (string_bytes e.0) (unknown_member table (members_view es)) above.0 (before_unknown table name es above.1)

lesser_before : (name : List ℕ) (rest : Option (List ℕ)) → IsBefore name rest → lesser name rest ≡ name
lesser_before name None before = refl
lesser_before name (Some other) before = rw before refl

first_unknown : (table : List (List ℕ)) (e : Entry) (es : List Entry) → IsStrictlySortedBy string_cmp (keys_of (e ∷ es))
    → list_any (bytes_eq (string_bytes e.0)) table ≡ false
    → unknown_member table (members_view (e ∷ es)) ≡ Some (string_bytes e.0)
unfolding IsStrictlySortedBy
first_unknown table e es sorted unlisted =
    rw unlisted (ap Some (lesser_before (string_bytes e.0) (unknown_member table (members_view es)) (before_unknown table e.0 es sorted.0)))

first_known : (table : List (List ℕ)) (e : Entry) (es : List Entry) → list_any (bytes_eq (string_bytes e.0)) table ≡ true
    → unknown_member table (members_view (e ∷ es)) ≡ unknown_member table (members_view es)
first_known table e es listed = rw listed refl

sorted_rest : (e : Entry) (es : List Entry) → IsStrictlySortedBy string_cmp (keys_of (e ∷ es)) → IsStrictlySortedBy string_cmp (keys_of es)
unfolding IsStrictlySortedBy
sorted_rest e es sorted = sorted.1

-- what the walk over an object keeps: the least unknown name is that of the entries that are left, which ascend
abbrev pub IsLeft : List (List ℕ) → Option (List ℕ) → List Entry → Type 0
IsLeft table least left = (least ≡ unknown_member table (members_view left)) × IsStrictlySortedBy string_cmp (keys_of left)

-- a name of the table is passed over
pub passed : (table : List (List ℕ)) (least : Option (List ℕ)) (left : List Entry) (e : Entry) (es : List Entry) (name : List ℕ)
    → IsLeft table least left → left ≡ e ∷ es → name ≡ string_bytes e.0 → list_any (bytes_eq name) table ≡ true → IsLeft table least es
passed table least left e es name before step same listed =
    let here : IsLeft table least (e ∷ es) = rw step at before in
    (here.0 ∙ first_known table e es (rw same at listed), sorted_rest e es here.1)

-- the first other name is the least
pub reached : (table : List (List ℕ)) (least : Option (List ℕ)) (left : List Entry) (e : Entry) (es : List Entry) (name : List ℕ)
    → IsLeft table least left → left ≡ e ∷ es → name ≡ string_bytes e.0 → list_any (bytes_eq name) table ≡ false → Some (string_bytes e.0) ≡ least
reached table least left e es name before step same unlisted =
    let here : IsLeft table least (e ∷ es) = rw step at before in
    sym (here.0 ∙ first_unknown table e es here.1 (rw same at unlisted))
