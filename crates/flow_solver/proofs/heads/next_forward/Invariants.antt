use Rattle.std.proofs.Common.{◌≤◌}
use Rattle.flow_solver.proofs.Firsts.{FullTo}
use Rattle.flow_solver.proofs.heads.next_forward.Given as goal

abbrev pub invariant-loop-i : goal.invariant-loop-i
invariant-loop-i l = (l.fn.head.dir ≤ l.i) × FullTo l.arcs l.flow l.fn.head l.i
