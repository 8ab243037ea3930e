use Rattle.std.proofs.Common.{◌<◌}
use Rattle.flow_solver.proofs.Firsts.{SomeTo}
use Rattle.flow_solver.proofs.heads.next_backward.Given as goal

abbrev pub invariant-loop-i : goal.invariant-loop-i
invariant-loop-i l = (l.fn.head.dir < l.i) × SomeTo l.arcs l.flow l.fn.head l.i
