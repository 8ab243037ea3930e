use Rattle.std.proofs.Common.{ℕ, List, ap, subst₂, refl, ◌∙◌}
use Rattle.flow_model.specs.declared.instance.Arc.{Arc}
use Rattle.flow_model.specs.Instance.{arc_at}
use Rattle.flow_solver.specs.Search.{IsNextOfDirection, tail_of, head_of}
use Rattle.flow_solver.proofs.Answers.{all_small}
use Rattle.flow_solver.proofs.Tries.{step_low, label_fits, tried, cost_most}
use Rattle.flow_solver.proofs.steps.try_step.Goals as goal

pub cost_of_step-cost-requires-clause-small : goal.cost_of_step-cost-requires-clause-small
cost_of_step-cost-requires-clause-small c = all_small c.args.residual.now.net c.args.potentials.now c.requires.bounded

pub cost_of_step-cost-requires-clause-low : goal.cost_of_step-cost-requires-clause-low
cost_of_step-cost-requires-clause-low c =
    let way = subst₂ (λ (xs : List Arc) (fs : List ℕ). IsNextOfDirection xs fs c.args.i c.args.back) c.arcs-arcs.ensures.value c.flow.ensures (c.if-not-is_next.ensures.yes refl) in
    step_low c.args.residual.now c.args.potentials.now c.arcs-arcs.ensures.bounds c.requires.shown c.args.labels.now c.args.parents.now c.requires.tree c.args.i c.args.back c.requires.known way

pub lower_label-requires-clause-fits : goal.lower_label-requires-clause-fits
lower_label-requires-clause-fits c =
    let is = c.arcs-arcs.ensures.value in
    let way = subst₂ (λ (xs : List Arc) (fs : List ℕ). IsNextOfDirection xs fs c.args.i c.args.back) is c.flow.ensures (c.if-not-is_next.ensures.yes refl) in
    label_fits c.args.residual.now c.args.potentials.now c.arcs-arcs.ensures.bounds c.requires.shown c.args.labels.now c.args.parents.now c.requires.tree c.args.i c.args.back c.requires.known way c.tail_of.result c.cost_of_step-cost.result
    c.cost_of_step-cost.ensures (cost_most c.args.residual.now c.args.potentials.now (c.args.i, c.args.back) c.arcs-arcs.ensures.bounds c.requires.bounded c.requires.known)

pub returns-clause-tree : goal.returns-clause-tree
returns-clause-tree c =
    let is = c.arcs-arcs.ensures.value in
    let way = subst₂ (λ (xs : List Arc) (fs : List ℕ). IsNextOfDirection xs fs c.args.i c.args.back) is c.flow.ensures (c.if-not-is_next.ensures.yes refl) in
    tried c.args.residual.now c.args.potentials.now c.arcs-arcs.ensures.bounds c.requires.shown c.args.labels.now c.args.parents.now c.requires.tree c.args.i c.args.back c.requires.known way c.tail_of.result c.head_of.result c.cost_of_step-cost.result c.lower_label.result _ _
    (c.tail_of.ensures ∙ ap (λ (xs : List Arc). tail_of (arc_at xs c.args.i) c.args.back) is)
    (c.head_of.ensures ∙ ap (λ (xs : List Arc). head_of (arc_at xs c.args.i) c.args.back) is)
    c.cost_of_step-cost.ensures
    c.lower_label.ensures.lower c.lower_label.ensures.labels c.lower_label.ensures.parents c.lower_label.ensures.same c.lower_label.ensures.kept
