-- A place for a direction that had none.
use Rattle.std.proofs.Common.{◌≡◌, ℕ, Bool, true, false, cond, Option, Some, None, refl, arith}
use Rattle.std.specs.Option.{option_or, is_some}
use Rattle.std.specs.Ordering.{is_eq}
use Rattle.std.specs.BTreeMap.{BTreeMap, get, Updates}
use Rattle.std.proofs.lemmas.Bool.Decides.{nat_tests}
use Rattle.plan_base.specs.Dir.{Direction, same_dir, dir_order}

equal_is_same : (a b : Direction) → is_eq (dir_order a b) ≡ same_dir a b
equal_is_same a b = grind (arith, nat_tests)

same_is_equal : (a b : Direction) → same_dir a b ≡ true → a ≡ b
same_is_equal a b same = grind (arith, nat_tests)

neither : (own shared : Option ℕ) → is_some (option_or own shared) ≡ false → (own ≡ None) × (shared ≡ None)
neither None None absent = (refl, refl)
neither None (Some place) absent = cc
neither (Some place) shared absent = cc

or_none : (place : Option ℕ) → place ≡ option_or place None
or_none None = refl
or_none (Some place) = refl

-- what a direction has in the map of its own, the shared map and the new shared map
pub learned : (own shared new : BTreeMap Direction ℕ) (dir : Direction) (place : ℕ) → is_some (option_or (get dir_order own dir) (get dir_order shared dir)) ≡ false
    → Updates dir_order shared new dir (Some place) → (other : Direction)
    → option_or (get dir_order own other) (get dir_order new other) ≡ option_or (option_or (get dir_order own other) (get dir_order shared other)) (cond (same_dir dir other) (Some place) None)
learned own shared new dir place absent updates other = by (same_dir dir other) refl
  where
    by : (same : Bool) → same_dir dir other ≡ same
        → option_or (get dir_order own other) (get dir_order new other) ≡ option_or (option_or (get dir_order own other) (get dir_order shared other)) (cond (same_dir dir other) (Some place) None)
    by true same =
        let none : (get dir_order own other ≡ None) × (get dir_order shared other ≡ None) = rw (← same_is_equal dir other same) (neither (get dir_order own dir) (get dir_order shared dir) absent) in
        rw (updates.0 other, equal_is_same dir other, same, none.0, none.1) refl
    by false same = rw (updates.0 other, equal_is_same dir other, same) (or_none (option_or (get dir_order own other) (get dir_order shared other)))
