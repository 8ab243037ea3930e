use Rattle.std.specs.Prelude.{drop}
use Rattle.flow_solver.specs.NodeLabels.{IsListed, labels_of}
use Rattle.flow_solver.proofs.Rows.{IsDraining}
use Rattle.flow_solver.proofs.node_labels.drain_listed.Given as goal

abbrev pub invariant-loop-node : goal.invariant-loop-node
invariant-loop-node l = record {
  draining : IsDraining l.initial.numbers l.numbers (labels_of l.initial.row) (labels_of l.row) l.bound l.up;
  listed : IsListed (labels_of l.row) (drop l.node-index l.lowered);
}
