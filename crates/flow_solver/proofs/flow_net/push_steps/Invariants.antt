use Rattle.std.specs.Prelude.{drop}
use Rattle.residual_net.specs.Residual.{flow_after}
use Rattle.residual_net.proofs.Pushed.{IsPushing}
use Rattle.flow_solver.proofs.flow_net.push_steps.Given as goal

abbrev pub invariant-loop-step : goal.invariant-loop-step
invariant-loop-step l = IsPushing l.arcs l.flow l.amount (drop l.step-index l.path) (flow_after l.initial.flow l.amount l.path)
