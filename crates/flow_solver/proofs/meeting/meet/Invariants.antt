use Rattle.std.proofs.Common.{◌+◌}
use Rattle.flow_solver.specs.Lanes.{FitsLanes}
use Rattle.flow_solver.specs.TwoSided.{IsTwoSided, size_of}
use Rattle.flow_solver.proofs.meeting.meet.Given as goal

abbrev pub invariant-loop-radius : goal.invariant-loop-radius
invariant-loop-radius l = record {
  two : IsTwoSided l.residual l.potentials l.source l.destination l.meeting.best l.meeting.node;
  lanes : FitsLanes l.residual l.lanes.heads.net l.lanes.starts.items l.lanes.lanes.items;
}

abbrev pub decreases-loop-radius : goal.decreases-loop-radius
decreases-loop-radius l = size_of l.source + size_of l.destination
