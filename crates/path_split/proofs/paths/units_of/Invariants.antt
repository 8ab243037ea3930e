use Rattle.std.proofs.Common.{◌≡◌, map}
use Rattle.std.specs.Prelude.{take}
use Rattle.path_split.specs.declared.edge.Edge.{Edge}
use Rattle.path_split.proofs.paths.units_of.Given as goal

abbrev pub invariant-loop-edge : goal.invariant-loop-edge
invariant-loop-edge l = l.left.items ≡ map (λ (e : Edge). e.units) (take l.edge-index l.edges)
