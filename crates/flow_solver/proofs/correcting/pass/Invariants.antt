use Rattle.flow_solver.proofs.Tries.{IsPassing}
use Rattle.flow_solver.proofs.correcting.pass.Given as goal

abbrev pub invariant-loop-i : goal.invariant-loop-i
invariant-loop-i l = IsPassing l.residual l.potentials l.initial.labels l.labels l.parents l.changed l.i
