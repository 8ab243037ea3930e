use Rattle.std.proofs.Common.{◌≡◌, ◌++◌, length}
use Rattle.std.specs.Prelude.{drop, slice_index}
use Rattle.flow_model.specs.Flow.{flow_of}
use Rattle.flow_model.proofs.flow.fill_arcs.Given as goal

abbrev pub invariant-loop-arc : goal.invariant-loop-arc
invariant-loop-arc l = (l.flow.items ++ flow_of (slice_index l.left.items) (drop l.arc-index l.arcs) ≡ flow_of (slice_index l.units) l.arcs) × (length l.left.items ≡ length l.units)
