-- The positions of the first entries of directions.
use Rattle.std.proofs.Common.{◌≡◌, ℕ, ◌<◌, List, [], ◌∷◌, ◌++◌, length, Bool, cond, Option, Some, None, IfSome, sym, ◌∙◌, ap, arith}
use Rattle.std.specs.Prelude.{position, not}
use Rattle.std.specs.Option.{option_or}
use Rattle.std.proofs.lemmas.Bool.Decides.{nat_tests}
use Rattle.std.proofs.lemmas.Grind.{common_steps}
use Rattle.std.proofs.lemmas.List.Folds.{position_or_len_push}
use Rattle.std.proofs.lemmas.List.Sums.{prefix_len-le-length}
use Rattle.plan_base.specs.Dir.{Direction, same_dir}
use Rattle.layer.specs.declared.places.Places.{Places}
use Rattle.layer.specs.Places.{IsIndex, Learns}

-- the first position after an append
position_push : {X : Type 0} → (test : X → Bool) (items : List X) (item : X)
    → position test (items ++ item ∷ []) ≡ option_or (position test items) (cond (test item) (Some (length items)) None)
position_push {X} test items item =
    let bound = prefix_len-le-length {X = X} (λ x. not (test x)) items in
    grind (arith, nat_tests, common_steps, position_or_len_push test items item, bound)

pub position_within : {X : Type 0} → (test : X → Bool) (items : List X) (place : Option ℕ) → place ≡ position test items → IfSome place (λ place. place < length items)
position_within test items place is = grind (arith, nat_tests)

pub index_pushed : {T : Type 0} → (dir_of : T → Direction) (items : List T) (item : T) (old new : Places) → IsIndex dir_of items old
    → Learns old new (dir_of item) (length items) → IsIndex dir_of (items ++ item ∷ []) new
index_pushed dir_of items item old new index learns dir =
    learns dir ∙ ap (λ place. option_or place (cond (same_dir (dir_of item) dir) (Some (length items)) None)) (index dir)
    ∙ sym (position_push (λ item. same_dir (dir_of item) dir) items item)
