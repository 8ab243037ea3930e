use Rattle.std.proofs.Common.{◌≡◌, length, drop}
use Rattle.reservations.specs.Reservations.{set_free}
use Rattle.reservations.specs.Marks.{unmarked}
use Rattle.reservations.proofs.free.mark_all.Given as goal

abbrev pub invariant-loop-index : goal.invariant-loop-index
invariant-loop-index l =
    (length l.marks ≡ length l.initial.marks)
    × (set_free l.path 0 (unmarked l.list l.initial.marks) ≡ set_free (drop l.index l.path) l.index (unmarked l.list l.marks))
