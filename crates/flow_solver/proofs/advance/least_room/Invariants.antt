use Rattle.std.specs.Prelude.{take}
use Rattle.flow_solver.proofs.Walks.{IsLeast}
use Rattle.flow_solver.proofs.advance.least_room.Given as goal

abbrev pub invariant-loop-step : goal.invariant-loop-step
invariant-loop-step l = IsLeast l.residual.net.arcs l.residual.flow l.most l.amount (take l.step-index l.path)
