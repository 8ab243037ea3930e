use Rattle.flow_solver.specs.Heads.{HasHeads}
use Rattle.flow_solver.proofs.heads.first_arcs.Given as goal

abbrev pub invariant-loop-i : goal.invariant-loop-i
invariant-loop-i l = HasHeads l.arcs l.heads.items l.i
