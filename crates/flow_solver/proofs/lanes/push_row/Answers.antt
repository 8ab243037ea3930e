use Rattle.std.proofs.Common.{ℕ, Bool, false, List, ◌<◌, ◌≡◌, ◌∙◌, ap, sym, subst, arith, length}
use Rattle.std.specs.Prelude.{All, slice_index, slice_index_or}
use Rattle.flow_model.specs.declared.instance.Arc.{Arc}
use Rattle.flow_model.specs.Instance.{arc_at}
use Rattle.flow_solver.specs.Lanes.{lane_of}
use Rattle.flow_solver.specs.declared.lanes.Lane.{Lane}
use Rattle.flow_solver.proofs.Fitting.{row_init, row_turn}
use Rattle.flow_solver.proofs.Outgoing.{out_known}
use Rattle.flow_solver.proofs.lanes.push_row.Goals as goal

pub bounds-firsts-step : goal.bounds-firsts-step
bounds-firsts-step c =
    let heads = c.args.heads.now.net.arcs in
    let n = ap (length {A = Arc}) c.arcs-firsts.ensures.value in
    let known = subst (All (λ (s : ℕ × Bool). s.0 < length heads)) (sym c.out-out.ensures) (out_known heads c.args.node) c.loop-step.step-index (0, false) c.loop-step-test.true in
    omega (arith, n, known)

pub bounds-flow-head : goal.bounds-flow-head
bounds-flow-head c =
    let heads = c.args.heads.now.net.arcs in
    let g = (slice_index_or c.out-out.result.now c.loop-step.step-index (0, false)).0 in
    let known = subst (All (λ (s : ℕ × Bool). s.0 < length heads)) (sym c.out-out.ensures) (out_known heads c.args.node) c.loop-step.step-index (0, false) c.loop-step-test.true in
    subst (λ (xs : List Arc). (arc_at xs g).dir < length c.args.flow.now) (sym c.arcs-firsts.ensures.value) (c.requires.known g known)

pub loop-step-init : goal.loop-step-init
loop-step-init c = row_init c.args.flow.now c.args.heads.now.net.arcs c.args.node _

pub loop-step-preserved : goal.loop-step-preserved
loop-step-preserved c =
    let heads = c.args.heads.now.net.arcs in
    let j = c.loop-step.step-index in
    let g = (slice_index_or c.out-out.result.now j (0, false)).0 in
    let dir = (arc_at c.arcs-firsts.result.now g).dir in
    let first : c.lane_of.result.first ≡ dir = ap (λ (x : Lane). x.first) c.lane_of.ensures.same in
    row_turn c.args.flow.now heads c.args.node j _ _ _ c.lane_of.result c.in_ok-push.ensures.items
    (c.lane_of.ensures.same ∙ ap (λ (xs : List Arc). lane_of xs (slice_index_or c.out-out.result.now j (0, false))) c.arcs-firsts.ensures.value ∙ ap (λ (ss : List (ℕ × Bool)). lane_of heads (slice_index_or ss j (0, false))) c.out-out.ensures)
    (λ off. ap (slice_index c.args.flow.now) first ∙ c.lane_of.ensures.known off)
    c.loop-step.invariant
