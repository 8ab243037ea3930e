use Rattle.std.proofs.Common.{◌≡◌, ℕ, List, take}
use Rattle.std.specs.Prelude.{◌||◌, nat_eq}
use Rattle.std.specs.List.{list_any}
use Rattle.std.specs.Cmp.Lexicographic.{pointwise}
use Rattle.view_build.specs.Disabled.{has_node}
use Rattle.view_build.proofs.disabled.add_nodes.Given as goal

abbrev pub invariant-loop-node : goal.invariant-loop-node
invariant-loop-node l = (node : List ℕ) → has_node l.nodes node ≡ (has_node l.initial.nodes node || list_any (pointwise nat_eq node) (take l.node-index l.disabled))
