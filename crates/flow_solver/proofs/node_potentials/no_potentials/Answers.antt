use Rattle.std.proofs.Common.{◌∙◌, ap}
use Rattle.std.specs.Prelude.{map, pos, ◌+ℤ◌}
use lib.LanesLaws.{map-replicate}
use Rattle.flow_solver.proofs.node_potentials.no_potentials.Goals as goal

pub returns : goal.returns
returns c = ap (map (λ z. z +ℤ pos 0)) (c.in_ok-from_elem.ensures.items_if_clones_equal (λ y e. e)) ∙ map-replicate (λ z. z +ℤ pos 0) c.args.nodes (pos 0)
