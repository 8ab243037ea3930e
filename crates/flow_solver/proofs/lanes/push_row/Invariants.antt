use Rattle.flow_solver.specs.Lanes.{IsRowTo}
use Rattle.flow_solver.proofs.lanes.push_row.Given as goal

abbrev pub invariant-loop-step : goal.invariant-loop-step
invariant-loop-step l = IsRowTo l.flow l.heads.net.arcs l.node l.step-index l.initial.lanes.items l.lanes.items
