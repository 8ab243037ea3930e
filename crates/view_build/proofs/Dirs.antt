-- Directions as keys.
use Rattle.std.proofs.Common.{◌≡◌, true, arith}
use Rattle.std.specs.Ordering.{is_eq}
use Rattle.std.proofs.lemmas.Bool.Decides.{nat_tests}
use Rattle.plan_base.specs.Dir.{Direction, same_dir, dir_order}

pub equal_is_same : (a b : Direction) → is_eq (dir_order a b) ≡ same_dir a b
equal_is_same a b = grind (arith, nat_tests)

pub same_is_equal : (a b : Direction) → same_dir a b ≡ true → a ≡ b
same_is_equal a b same = grind (arith, nat_tests)
