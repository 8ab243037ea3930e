use Rattle.std.proofs.Common.{ℕ, List, ap, refl, sym, subst, subst₂, ◌∙◌, true}
use Rattle.flow_model.specs.declared.instance.Arc.{Arc}
use Rattle.flow_model.specs.Instance.{StandTogether, arc_at}
use Rattle.flow_solver.specs.Heads.{IsOnlyNext}
use Rattle.flow_solver.proofs.Firsts.{head_step}
use Rattle.flow_solver.proofs.heads.next_step_backward.Goals as goal

pub next_backward-requires-clause-together : goal.next_backward-requires-clause-together
next_backward-requires-clause-together c = subst StandTogether (sym c.arcs-arcs.ensures.value) c.arcs-arcs.ensures.bounds.good.together

pub returns-clause-step : goal.returns-clause-step
returns-clause-step c =
    let only = subst₂ (λ (xs : List Arc) (fs : List ℕ). IsOnlyNext xs fs c.args.head true c.in-Some.arc) c.arcs-arcs.ensures.value c.flow.ensures c.in-Some.ensures.next in
    head_step c.args.residual.now c.args.head (record { arc = c.in-Some.arc; back = true; tail = c.args.head.to; head = c.args.head.from; cost = c.cost_of.result }) c.arcs-arcs.ensures.bounds c.requires.head only refl refl (c.cost_of.ensures ∙ ap (λ (xs : List Arc). (arc_at xs c.in-Some.arc).cost) c.arcs-arcs.ensures.value)
