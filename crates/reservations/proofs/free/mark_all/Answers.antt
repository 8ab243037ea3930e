use Rattle.std.proofs.Common.{◌∙◌, arith}
use Rattle.reservations.proofs.SetFree.{goes_on, stops, all_free}
use Rattle.reservations.proofs.free.mark_all.Goals as goal

pub returns-then-not-mark_earliest-clause-err : goal.returns-then-not-mark_earliest-clause-err
returns-then-not-mark_earliest-clause-err c =
    c.loop-index.invariant.1 ∙ stops c.args.path.now _ c.loop-index.index _ c.loop-index-test.true c.index-path-index.is c.if-not-mark_earliest.ensures.marked

pub loop-index-preserved : goal.loop-index-preserved
loop-index-preserved c = (
  c.if-not-mark_earliest.ensures.len ∙ c.loop-index.invariant.0,
  c.loop-index.invariant.1 ∙ goes_on c.args.path.now _ c.loop-index.index _ _ c.loop-index-test.true c.index-path-index.is c.if-not-mark_earliest.ensures.marked,
)

pub returns-clause-ok : goal.returns-clause-ok
returns-clause-ok c = c.loop-index.invariant.1 ∙ all_free c.args.path.now c.loop-index.index _ (omega (arith, c.loop-index-test.false))
