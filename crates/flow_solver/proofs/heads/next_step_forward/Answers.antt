use Rattle.std.proofs.Common.{ℕ, List, ◌<◌, ◌≤◌, ap, refl, sym, subst, subst₂, ◌∙◌, length, false}
use Rattle.std.specs.Prelude.{slice_index}
use Rattle.flow_model.specs.declared.instance.Arc.{Arc}
use Rattle.flow_model.specs.Instance.{StandTogether, arc_at}
use Rattle.residual_net.proofs.Loads.{fits_at}
use Rattle.flow_solver.specs.Heads.{HasNoNext, IsOnlyNext}
use Rattle.flow_solver.proofs.Firsts.{head_step}
use Rattle.flow_solver.proofs.heads.next_step_forward.Goals as goal

pub next_forward-requires-clause-together : goal.next_forward-requires-clause-together
next_forward-requires-clause-together c = subst StandTogether (sym c.arcs-arcs.ensures.value) c.arcs-arcs.ensures.bounds.good.together

pub next_forward-requires-clause-fits : goal.next_forward-requires-clause-fits
next_forward-requires-clause-fits c = subst₂ (λ (xs : List Arc) (fs : List ℕ). (i : ℕ) → i < length xs → slice_index fs i ≤ (arc_at xs i).room) (sym c.arcs-arcs.ensures.value) (sym c.flow.ensures) (λ i l. fits_at c.args.residual.now i c.arcs-arcs.ensures.bounds l)

pub returns-in_default-clause-none : goal.returns-in_default-clause-none
returns-in_default-clause-none c = subst₂ (λ (xs : List Arc) (fs : List ℕ). HasNoNext xs fs c.args.head false) c.arcs-arcs.ensures.value c.flow.ensures c.in_default.ensures.none

pub returns-clause-step : goal.returns-clause-step
returns-clause-step c =
    let only = subst₂ (λ (xs : List Arc) (fs : List ℕ). IsOnlyNext xs fs c.args.head false c.in-Some.arc) c.arcs-arcs.ensures.value c.flow.ensures c.in-Some.ensures.next in
    head_step c.args.residual.now c.args.head (record { arc = c.in-Some.arc; back = false; tail = c.args.head.from; head = c.args.head.to; cost = c.cost_of.result }) c.arcs-arcs.ensures.bounds c.requires.head only refl refl (c.cost_of.ensures ∙ ap (λ (xs : List Arc). (arc_at xs c.in-Some.arc).cost) c.arcs-arcs.ensures.value)
