use Rattle.std.proofs.Common.{◌≡◌}
use Rattle.flow_solver.specs.Lanes.{HasMadeRows, IsMarked}
use Rattle.flow_solver.proofs.Fitting.{IsPathMarked}
use Rattle.flow_solver.proofs.lanes.mark.Given as goal

abbrev pub invariant-loop-step : goal.invariant-loop-step
invariant-loop-step l = record {
  heads : l.lanes.heads ≡ l.initial.lanes.heads;
  starts : l.lanes.starts.items ≡ l.initial.lanes.starts.items;
  marked : IsMarked l.initial.lanes.lanes.items l.lanes.lanes.items;
  held : HasMadeRows l.initial.lanes.heads.net l.initial.lanes.starts.items l.lanes.lanes.items;
  all : IsPathMarked l.initial.lanes.heads.net.arcs l.initial.lanes.starts.items l.arcs l.path l.step-index l.lanes.lanes.items;
}
