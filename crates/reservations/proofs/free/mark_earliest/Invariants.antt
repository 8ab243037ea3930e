use Rattle.std.proofs.Common.{◌≡◌}
use Rattle.reservations.specs.Reservations.{without_earliest}
use Rattle.reservations.specs.Marks.{unmarked}
use Rattle.reservations.proofs.Earliest.{found_from}
use Rattle.reservations.proofs.free.mark_earliest.Given as goal

abbrev pub invariant-loop-place : goal.invariant-loop-place
invariant-loop-place l =
    (l.marks ≡ l.initial.marks) × (without_earliest l.item (unmarked l.list l.initial.marks) ≡ found_from l.item l.list l.marks l.place)
