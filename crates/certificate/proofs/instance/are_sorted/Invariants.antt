use Rattle.certificate.proofs.Sorted.{StepsFollow}
use Rattle.certificate.proofs.instance.are_sorted.Given as goal

abbrev pub invariant-loop-i : goal.invariant-loop-i
invariant-loop-i l = StepsFollow l.arcs l.i
