use Rattle.std.proofs.Common.{◌≡◌, ℕ, List, take}
use Rattle.view_build.specs.Rules.{is_disabled}
use Rattle.view_build.specs.Disabled.{has_node}
use Rattle.view_build.proofs.disabled.disabled_by.Given as goal

abbrev pub invariant-loop-layer : goal.invariant-loop-layer
invariant-loop-layer l = (node : List ℕ) → has_node l.nodes node ≡ is_disabled node (take l.layer-index l.layers)
