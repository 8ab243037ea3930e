use Rattle.std.proofs.Common.{◌≡◌}
use Rattle.std.specs.Prelude.{map, take}
use Rattle.flow_solver.specs.NodeLabels.{widened}
use Rattle.flow_solver.proofs.node_labels.widened_row.Given as goal

abbrev pub invariant-loop-number : goal.invariant-loop-number
invariant-loop-number l = l.labels.items ≡ map widened (take l.number-index l.numbers)
