use Rattle.reservations.proofs.Kept.{KeepsInPlace}
use Rattle.reservations.proofs.free.drop_marked.Given as goal

abbrev pub invariant-loop-place : goal.invariant-loop-place
invariant-loop-place l = KeepsInPlace l.initial.list.items l.list.items l.marks l.kept l.place
