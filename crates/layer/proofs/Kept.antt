-- The constraints that remain after old ones are removed.
use Rattle.std.proofs.Common.{◌≡◌, ℕ, List, [], ◌∷◌, Bool, true, refl, arith}
use Rattle.std.specs.Prelude.{nat_le, All}
use Rattle.std.specs.List.{list_all, filter}
use Rattle.std.proofs.lemmas.List.Elements.{All-filter}
use Rattle.layer.specs.declared.records.Constraint.{Constraint}
use Rattle.layer.specs.Constraint.{IsGoodConstraint, since}

-- those that remain are good
pub good_since : (cutoff : ℕ) (constraints : List Constraint) → All IsGoodConstraint constraints → All IsGoodConstraint (since cutoff constraints)
good_since cutoff constraints good = All-filter (λ constraint. nat_le cutoff constraint.moment) IsGoodConstraint constraints good

-- all remain
all_remain : {X : Type 0} → (test : X → Bool) (items : List X) → list_all test items ≡ true → filter test items ≡ items
all_remain test [] all = refl
all_remain test (x ∷ xs) all = grind (arith, all_remain test xs)

pub since_all : (cutoff : ℕ) (constraints : List Constraint) → list_all (λ constraint. nat_le cutoff constraint.moment) constraints ≡ true → since cutoff constraints ≡ constraints
since_all cutoff constraints all = all_remain (λ constraint. nat_le cutoff constraint.moment) constraints all
