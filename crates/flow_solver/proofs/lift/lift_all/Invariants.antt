use Rattle.flow_solver.proofs.Walks.{IsLifting}
use Rattle.flow_solver.proofs.lift.lift_all.Given as goal

abbrev pub invariant-loop-v : goal.invariant-loop-v
invariant-loop-v l = IsLifting l.initial.potentials l.potentials l.labels l.others l.radius l.rest l.v
