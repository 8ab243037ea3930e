use Rattle.flow_solver.proofs.Walks.{IsRaising}
use Rattle.flow_solver.proofs.advance.raise.Given as goal

abbrev pub invariant-loop-v : goal.invariant-loop-v
invariant-loop-v l = IsRaising l.initial.potentials l.potentials l.labels l.bound l.v
