use Rattle.std.proofs.Common.{refl, sym, ap, arith, ◌<◌, ◌≡◌, ◌-◌, subst, length}
use Rattle.std.specs.Prelude.{slice_index}
use Rattle.flow_model.specs.Instance.{arc_at}
use Rattle.flow_solver.proofs.Firsts.{backward_is, backward_none, some_turn}
use Rattle.flow_solver.proofs.heads.next_backward.Goals as goal

pub returns-then-flow-first-eq0-clause-none : goal.returns-then-flow-first-eq0-clause-none
returns-then-flow-first-eq0-clause-none c j lj ej next = backward_none c.args.arcs.now c.args.flow.now c.args.head c.requires.head c.requires.together c.requires.order c.requires.rooms j c.if-flow-first-eq0.true lj ej next

pub loop-i-init : goal.loop-i-init
loop-i-init c =
    let some : 0 < slice_index c.args.flow.now c.args.head.dir = omega (arith, c.if-flow-first-eq0.false) in
    (omega arith, λ j ge less. let at : c.args.head.dir ≡ j = omega (arith, ge, less) in subst (λ m. ((arc_at c.args.arcs.now m).dir ≡ (arc_at c.args.arcs.now c.args.head.dir).dir) × (0 < slice_index c.args.flow.now m)) at (refl, some))

pub returns-then-arcs-i-clause-next : goal.returns-then-arcs-i-clause-next
returns-then-arcs-i-clause-next c = backward_is c.args.arcs.now c.args.flow.now c.args.head c.requires.head c.requires.together c.requires.order c.requires.rooms c.loop-i.i (c.loop-i.i - 1) refl c.loop-i.invariant.0 (let l = c.loop-i-test.true in omega (arith, l)) c.loop-i.invariant.1 (λ l e. absurd (c.if-arcs-i.true e))

pub returns-then-flow-i-eq0-clause-next : goal.returns-then-flow-i-eq0-clause-next
returns-then-flow-i-eq0-clause-next c = backward_is c.args.arcs.now c.args.flow.now c.args.head c.requires.head c.requires.together c.requires.order c.requires.rooms c.loop-i.i (c.loop-i.i - 1) refl c.loop-i.invariant.0 (let l = c.loop-i-test.true in omega (arith, l)) c.loop-i.invariant.1 (λ l e. c.if-flow-i-eq0.true)

pub loop-i-preserved : goal.loop-i-preserved
loop-i-preserved c =
    let less = c.loop-i.invariant.0 in
    let some : 0 < slice_index c.args.flow.now c.loop-i.i = omega (arith, c.if-flow-i-eq0.false) in
    (omega (arith, less), some_turn c.args.arcs.now c.args.flow.now c.args.head c.requires.head c.requires.together c.requires.order c.requires.rooms c.loop-i.i c.if-arcs-i.false some c.loop-i.invariant.1)

pub returns-clause-next : goal.returns-clause-next
returns-clause-next c =
    let past = c.loop-i-test.false in
    let known = c.requires.head.known in
    let most = c.loop-i.auto.i-end (omega (arith, known)) in
    let at : c.loop-i.i ≡ length c.args.arcs.now = omega (arith, past, most) in
    backward_is c.args.arcs.now c.args.flow.now c.args.head c.requires.head c.requires.together c.requires.order c.requires.rooms c.loop-i.i (length c.args.arcs.now - 1) (ap (λ n. n - 1) (sym at)) c.loop-i.invariant.0 most c.loop-i.invariant.1 (λ l e. absurd (omega (arith, l, past)))
