use Rattle.std.proofs.Common.{◌∙◌, List, ap, length}
use Rattle.std.specs.Prelude.{replicate}
use Rattle.flow_model.specs.declared.instance.Arc.{Arc}
use Rattle.residual_net.proofs.Loads.{opened}
use Rattle.flow_solver.proofs.flow_net.FlowNet.open.Goals as goal

pub invariant_of-result : goal.invariant_of-result
invariant_of-result c = opened c.args.instance.now c.in_ok-flow.flow.items c.arcs.ensures.bounds (c.in_ok-flow.ensures.items_if_clones_equal (λ y e. e) ∙ ap (λ (xs : List Arc). replicate (length xs) 0) c.arcs.ensures.value)

pub returns-clause-bounds : goal.returns-clause-bounds
returns-clause-bounds c = opened c.args.instance.now c.in_ok-flow.flow.items c.arcs.ensures.bounds (c.in_ok-flow.ensures.items_if_clones_equal (λ y e. e) ∙ ap (λ (xs : List Arc). replicate (length xs) 0) c.arcs.ensures.value)
