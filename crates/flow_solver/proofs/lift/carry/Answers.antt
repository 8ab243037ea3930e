use Rattle.std.proofs.Common.{ℕ, Bool, false, ◌<◌, ◌≤◌, ◌≡◌, ◌+◌, ◌-◌, ◌∙◌, List, length, arith, ap, sym, subst}
use Rattle.std.specs.Prelude.{slice_index, set, min}
use Rattle.residual_net.proofs.Loads.{get_or-any}
use Rattle.flow_solver.specs.declared.labels.TheConstants.{UNREACHED}
use Rattle.flow_model.specs.declared.instance.Arc.{Arc}
use Rattle.flow_model.specs.Instance.{arc_at}
use Rattle.flow_solver.specs.Search.{head_of, parent_of}
use Rattle.flow_solver.proofs.Carried.{IsCarried, carry_init, carry_way, carry_turn}
use Rattle.flow_solver.proofs.lift.carry.Goals as goal

pub loop-taken-init : goal.loop-taken-init
loop-taken-init c =
    let met = c.requires.two.meeting.met c.requires.reached in
    carry_init c.args.residual.now c.args._potentials.now c.arcs-arcs.ensures.bounds c.requires.shown c.args.source.now.labels c.args.destination.now.labels c.args.destination.now.parents.items c.requires.two.back c.args.found.radius (c.args.found.best - c.args.found.radius) c.args.found.best c.requires.met c.args.source.now.parents.items c.args.found.node c.requires.two.tree met.0 met.1 c.requires.reached

pub returns-then-node-end-clause-carried : goal.returns-then-node-end-clause-carried
returns-then-node-end-clause-carried c =
    let so = c.loop-taken.invariant in
    let short = so.short in
    let f = ap (slice_index c.loop-taken.source.labels) (c.if-node-end.true ∙ c.requires.end) in
    record {
      before = c.args.source.now.labels;
      met = c.requires.met;
      kept = so.kept;
      tree = so.tree;
      long = c.requires.two.back.long;
      radius = c.requires.radius;
      reached = c.requires.reached;
      short = omega (arith, short, f);
    }

pub index-step-requires : goal.index-step-requires
index-step-requires c = let l = c.loop-taken.invariant.inside in let n = c.requires.two.back.as_long in omega (arith, l, n)

pub bounds-arcs-step : goal.bounds-arcs-step
bounds-arcs-step c =
    let residual = c.args.residual.now in
    let p = c.args._potentials.now in
    let ok = c.arcs-arcs.ensures.bounds in
    let e = c.args.destination.now.labels in
    let backs = c.args.destination.now.parents.items in
    let u = c.loop-taken.node in
    let f = c.args.found in
    let so = c.loop-taken.invariant in
    let ne = λ (x : u ≡ residual.net.destination). c.if-node-end.false (x ∙ sym c.requires.end) in
    let way = carry_way residual p ok c.requires.shown c.args.source.now.labels e backs c.requires.two.back f.radius (f.best - f.radius) f.best c.requires.met c.loop-taken.source.labels c.loop-taken.source.parents.items c.loop-taken.taken u so ne in
    let inside = so.inside in
    let long = c.requires.two.back.as_long in
    let step : c.index-step.result.now ≡ parent_of backs u = c.index-step.ensures ∙ get_or-any backs u c.index-step.result.now (0, false) (omega (arith, inside, long)) in
    let n = ap (length {A = Arc}) c.arcs-arcs.ensures.value in
    let known = way.0 in
    let at = ap (λ (s : ℕ × Bool). s.0) step in
    omega (arith, n, known, at)

pub overflow_sub-label : goal.overflow_sub-label
overflow_sub-label c =
    let residual = c.args.residual.now in
    let p = c.args._potentials.now in
    let ok = c.arcs-arcs.ensures.bounds in
    let e = c.args.destination.now.labels in
    let backs = c.args.destination.now.parents.items in
    let u = c.loop-taken.node in
    let f = c.args.found in
    let so = c.loop-taken.invariant in
    let ne = λ (x : u ≡ residual.net.destination). c.if-node-end.false (x ∙ sym c.requires.end) in
    let way = carry_way residual p ok c.requires.shown c.args.source.now.labels e backs c.requires.two.back f.radius (f.best - f.radius) f.best c.requires.met c.loop-taken.source.labels c.loop-taken.source.parents.items c.loop-taken.taken u so ne in
    let inside = so.inside in
    let long = c.requires.two.back.as_long in
    let step : c.index-step.result.now ≡ parent_of backs u = c.index-step.ensures ∙ get_or-any backs u c.index-step.result.now (0, false) (omega (arith, inside, long)) in
    let next : c.head_of-next.result ≡ head_of (arc_at residual.net.arcs (parent_of backs u).0) (parent_of backs u).1 = c.head_of-next.ensures ∙ ap (λ (xs : List Arc). head_of (arc_at xs c.index-step.result.now.0) c.index-step.result.now.1) c.arcs-arcs.ensures.value ∙ ap (λ (s : ℕ × Bool). head_of (arc_at residual.net.arcs s.0) s.1) step in
    let back_long = c.requires.two.back.long in
    let in_next = way.1 in
    let label : c.get.result ≡ slice_index e (head_of (arc_at residual.net.arcs (parent_of backs u).0) (parent_of backs u).1) = c.get.ensures ∙ ap (λ v. slice_index e v) next in
    let le = way.2 in
    omega (arith, le, label)

pub lower_end-requires-clause-node : goal.lower_end-requires-clause-node
lower_end-requires-clause-node c =
    let residual = c.args.residual.now in
    let p = c.args._potentials.now in
    let ok = c.arcs-arcs.ensures.bounds in
    let e = c.args.destination.now.labels in
    let backs = c.args.destination.now.parents.items in
    let u = c.loop-taken.node in
    let f = c.args.found in
    let so = c.loop-taken.invariant in
    let ne = λ (x : u ≡ residual.net.destination). c.if-node-end.false (x ∙ sym c.requires.end) in
    let way = carry_way residual p ok c.requires.shown c.args.source.now.labels e backs c.requires.two.back f.radius (f.best - f.radius) f.best c.requires.met c.loop-taken.source.labels c.loop-taken.source.parents.items c.loop-taken.taken u so ne in
    let inside = so.inside in
    let long = c.requires.two.back.as_long in
    let step : c.index-step.result.now ≡ parent_of backs u = c.index-step.ensures ∙ get_or-any backs u c.index-step.result.now (0, false) (omega (arith, inside, long)) in
    let next : c.head_of-next.result ≡ head_of (arc_at residual.net.arcs (parent_of backs u).0) (parent_of backs u).1 = c.head_of-next.ensures ∙ ap (λ (xs : List Arc). head_of (arc_at xs c.index-step.result.now.0) c.index-step.result.now.1) c.arcs-arcs.ensures.value ∙ ap (λ (s : ℕ × Bool). head_of (arc_at residual.net.arcs s.0) s.1) step in
    let back_long = c.requires.two.back.long in
    let in_next = way.1 in
    let label : c.get.result ≡ slice_index e (head_of (arc_at residual.net.arcs (parent_of backs u).0) (parent_of backs u).1) = c.get.ensures ∙ ap (λ v. slice_index e v) next in
    let n = so.tree.long in
    omega (arith, in_next, next, n)

pub lower_end-requires-clause-parents : goal.lower_end-requires-clause-parents
lower_end-requires-clause-parents c =
    let residual = c.args.residual.now in
    let p = c.args._potentials.now in
    let ok = c.arcs-arcs.ensures.bounds in
    let e = c.args.destination.now.labels in
    let backs = c.args.destination.now.parents.items in
    let u = c.loop-taken.node in
    let f = c.args.found in
    let so = c.loop-taken.invariant in
    let ne = λ (x : u ≡ residual.net.destination). c.if-node-end.false (x ∙ sym c.requires.end) in
    let way = carry_way residual p ok c.requires.shown c.args.source.now.labels e backs c.requires.two.back f.radius (f.best - f.radius) f.best c.requires.met c.loop-taken.source.labels c.loop-taken.source.parents.items c.loop-taken.taken u so ne in
    let inside = so.inside in
    let long = c.requires.two.back.as_long in
    let step : c.index-step.result.now ≡ parent_of backs u = c.index-step.ensures ∙ get_or-any backs u c.index-step.result.now (0, false) (omega (arith, inside, long)) in
    let next : c.head_of-next.result ≡ head_of (arc_at residual.net.arcs (parent_of backs u).0) (parent_of backs u).1 = c.head_of-next.ensures ∙ ap (λ (xs : List Arc). head_of (arc_at xs c.index-step.result.now.0) c.index-step.result.now.1) c.arcs-arcs.ensures.value ∙ ap (λ (s : ℕ × Bool). head_of (arc_at residual.net.arcs s.0) s.1) step in
    let back_long = c.requires.two.back.long in
    let in_next = way.1 in
    let label : c.get.result ≡ slice_index e (head_of (arc_at residual.net.arcs (parent_of backs u).0) (parent_of backs u).1) = c.get.ensures ∙ ap (λ v. slice_index e v) next in
    let n = so.tree.as_long in
    omega (arith, in_next, next, n)

pub loop-taken-preserved : goal.loop-taken-preserved
loop-taken-preserved c =
    let residual = c.args.residual.now in
    let p = c.args._potentials.now in
    let ok = c.arcs-arcs.ensures.bounds in
    let e = c.args.destination.now.labels in
    let backs = c.args.destination.now.parents.items in
    let u = c.loop-taken.node in
    let f = c.args.found in
    let so = c.loop-taken.invariant in
    let ne = λ (x : u ≡ residual.net.destination). c.if-node-end.false (x ∙ sym c.requires.end) in
    let way = carry_way residual p ok c.requires.shown c.args.source.now.labels e backs c.requires.two.back f.radius (f.best - f.radius) f.best c.requires.met c.loop-taken.source.labels c.loop-taken.source.parents.items c.loop-taken.taken u so ne in
    let inside = so.inside in
    let long = c.requires.two.back.as_long in
    let step : c.index-step.result.now ≡ parent_of backs u = c.index-step.ensures ∙ get_or-any backs u c.index-step.result.now (0, false) (omega (arith, inside, long)) in
    let next : c.head_of-next.result ≡ head_of (arc_at residual.net.arcs (parent_of backs u).0) (parent_of backs u).1 = c.head_of-next.ensures ∙ ap (λ (xs : List Arc). head_of (arc_at xs c.index-step.result.now.0) c.index-step.result.now.1) c.arcs-arcs.ensures.value ∙ ap (λ (s : ℕ × Bool). head_of (arc_at residual.net.arcs s.0) s.1) step in
    let back_long = c.requires.two.back.long in
    let in_next = way.1 in
    let label : c.get.result ≡ slice_index e (head_of (arc_at residual.net.arcs (parent_of backs u).0) (parent_of backs u).1) = c.get.ensures ∙ ap (λ v. slice_index e v) next in
    let w = head_of (arc_at residual.net.arcs (parent_of backs u).0) (parent_of backs u).1 in
    let after = c.in_ok-_lower.ensures in
    let labels = c.loop-taken.source.labels in
    let made = f.best - c.get.result in
    let new = c.lower_end.new.side in
    let it = carry_turn residual p ok c.requires.shown c.args.source.now.labels e backs c.requires.two.back f.radius (f.best - f.radius) f.best c.requires.met labels c.loop-taken.source.parents.items c.loop-taken.taken u so ne new.labels new.parents.items c.in_ok-_lower._lower made (ap (λ x. f.best - x) label)
    (λ t. let h = after.lower t in subst (λ v. made < slice_index labels v) next h)
    (λ t. after.labels t ∙ ap (λ v. set labels v made) next)
    (λ t. after.parents t ∙ ap (λ v. set c.loop-taken.source.parents.items v c.index-step.result.now) next ∙ ap (λ s. set c.loop-taken.source.parents.items w s) step)
    (λ t. let h = after.relaxed t in subst (λ v. min (slice_index labels v) UNREACHED ≤ made) next h)
    after.same after.kept in
    subst (λ v. IsCarried residual p c.args.source.now.labels new.labels new.parents.items e backs f.radius f.best (c.loop-taken.taken + 1) v) (sym next) it
