use Rattle.std.proofs.Common.{◌<◌, arith, length, refl}
use Rattle.flow_solver.proofs.Fitting.{mark_turn, marked_none}
use Rattle.flow_solver.proofs.lanes.mark_in.Goals as goal

pub loop-q-init : goal.loop-q-init
loop-q-init c = (marked_none _, λ r ge less is. absurd (omega (arith, ge, less)))

pub loop-q-preserved : goal.loop-q-preserved
loop-q-preserved c =
    let inside : c.loop-q.q < length c.loop-q.lanes = (let e = c.requires.end in let l = c.loop-q-test.true in let n = c.loop-q.invariant.0.long in omega (arith, e, l, n)) in
    mark_turn _ c.loop-q.lanes _ c.args.start c.loop-q.q c.args.first c.marked_if.result inside refl c.marked_if.ensures.same c.marked_if.ensures.stays c.marked_if.ensures.marked c.loop-q.invariant

pub returns-clause-all : goal.returns-clause-all
returns-clause-all c = λ r ge less is. c.loop-q.invariant.1 r ge (let past = c.loop-q-test.false in omega (arith, less, past)) is
