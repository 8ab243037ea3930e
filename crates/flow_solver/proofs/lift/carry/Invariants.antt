use Rattle.flow_solver.proofs.Carried.{IsCarried}
use Rattle.flow_solver.proofs.lift.carry.Given as goal

abbrev pub invariant-loop-taken : goal.invariant-loop-taken
invariant-loop-taken l = IsCarried l.residual l._potentials l.initial.source.labels l.source.labels l.source.parents.items l.destination.labels l.destination.parents.items l.found.radius l.found.best l.taken l.node
