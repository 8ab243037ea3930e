use Rattle.std.proofs.Common.{◌≡◌, length}
use Rattle.std.specs.Prelude.{drop}
use Rattle.flow_solver.specs.NodeLabels.{IsListed, labels_of}
use Rattle.flow_solver.proofs.node_labels.clear_listed.Given as goal

abbrev pub invariant-loop-node : goal.invariant-loop-node
invariant-loop-node l = record {
  long : length (labels_of l.row) ≡ length (labels_of l.initial.row);
  listed : IsListed (labels_of l.row) (drop l.node-index l.lowered);
}
