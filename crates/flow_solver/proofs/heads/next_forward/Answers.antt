use Rattle.std.proofs.Common.{refl, sym, ap, arith, ◌<◌, ◌≡◌, ⊎_elim}
use Rattle.std.proofs.lemmas.Bool.{cases_eq}
use Rattle.flow_model.specs.Instance.{arc_at}
use Rattle.flow_solver.proofs.Firsts.{forward_is, forward_none, full_turn}
use Rattle.flow_solver.proofs.heads.next_forward.Goals as goal

pub returns-then-flow-head-clause-next : goal.returns-then-flow-head-clause-next
returns-then-flow-head-clause-next c = let r = c.requires.head.room in let l = c.if-flow-head.true in forward_is c.args.arcs.now c.args.flow.now c.args.head c.requires.head c.requires.together c.requires.order c.requires.rooms c.args.head.dir c.requires.head.known refl (omega (arith, r, l)) (λ j ge less. absurd (omega (arith, ge, less)))

pub loop-i-init : goal.loop-i-init
loop-i-init c = (omega arith, λ j ge less. absurd (omega (arith, ge, less)))

pub returns-then-arcs-i-clause-none : goal.returns-then-arcs-i-clause-none
returns-then-arcs-i-clause-none c j lj ej next =
    let ge = c.loop-i.invariant.0 in
    let ne = c.if-arcs-i.true in
    let some : c.args.head.dir < c.loop-i.i = ⊎_elim (λ (e : c.args.head.dir ≡ c.loop-i.i). absurd (ne (ap (λ m. (arc_at c.args.arcs.now m).dir) (sym e)))) (λ (n : c.args.head.dir ≡ c.loop-i.i → ⊥). omega (arith, ge, n)) (cases_eq c.args.head.dir c.loop-i.i) in
    forward_none c.args.arcs.now c.args.flow.now c.args.head c.requires.head c.requires.together c.requires.order c.requires.rooms c.loop-i.i j some c.loop-i.invariant.1 (λ l e. ne e) lj ej next

pub returns-then-flow-i-clause-next : goal.returns-then-flow-i-clause-next
returns-then-flow-i-clause-next c = forward_is c.args.arcs.now c.args.flow.now c.args.head c.requires.head c.requires.together c.requires.order c.requires.rooms c.loop-i.i c.loop-i-test.true c.if-arcs-i.false c.if-flow-i.true c.loop-i.invariant.1

pub loop-i-preserved : goal.loop-i-preserved
loop-i-preserved c =
    let ge = c.loop-i.invariant.0 in
    let fit = c.requires.fits c.loop-i.i c.loop-i-test.true in
    let full = c.if-flow-i.false in
    (omega (arith, ge), full_turn c.args.arcs.now c.args.flow.now c.args.head c.requires.head c.requires.together c.requires.order c.requires.rooms c.loop-i.i c.loop-i-test.true c.if-arcs-i.false (omega (arith, fit, full)) c.loop-i.invariant.1)

pub returns-clause-none : goal.returns-clause-none
returns-clause-none c j lj ej next =
    let known = c.requires.head.known in
    let past = c.loop-i-test.false in
    forward_none c.args.arcs.now c.args.flow.now c.args.head c.requires.head c.requires.together c.requires.order c.requires.rooms c.loop-i.i j (omega (arith, known, past)) c.loop-i.invariant.1 (λ l e. absurd (omega (arith, l, past))) lj ej next
