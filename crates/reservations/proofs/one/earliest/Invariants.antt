use Rattle.std.proofs.Common.{◌≡◌}
use Rattle.reservations.specs.Reservations.{without_earliest}
use Rattle.reservations.proofs.Earliest.{found_after}
use Rattle.reservations.proofs.one.earliest.Given as goal

abbrev pub invariant-loop-place : goal.invariant-loop-place
invariant-loop-place l = without_earliest l.item l.list ≡ found_after l.item l.list l.place
