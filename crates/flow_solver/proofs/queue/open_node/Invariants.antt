use Rattle.std.proofs.Common.{heap_items}
use Rattle.residual_net.specs.Residual.{steps_out}
use Rattle.flow_solver.specs.Lanes.{IsRow}
use Rattle.flow_solver.proofs.Seen.{IsOpening}
use Rattle.flow_solver.proofs.queue.open_node.Given as goal

abbrev pub invariant-loop-lane : goal.invariant-loop-lane
invariant-loop-lane l = (fit : IsRow l.residual l.node l.row) × IsOpening l.residual fit.heads l.potentials l.turned l.initial.side.labels (heap_items l.initial.side.heap) l.side.labels l.side.parents.items (heap_items l.side.heap) l.other.labels l.fn.meeting.best l.found.best l.found.node (steps_out fit.heads l.node) l.lane-index l.node
