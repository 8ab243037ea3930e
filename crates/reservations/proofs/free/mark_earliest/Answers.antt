use Rattle.std.proofs.Common.{refl, sym, ◌∙◌, arith}
use Rattle.reservations.proofs.Earliest.{find_start, pass, find, find_end}
use Rattle.reservations.proofs.free.mark_earliest.Goals as goal

pub loop-place-init : goal.loop-place-init
loop-place-init c = (refl, find_start c.args.item.now c.args.list.now c.args.marks.now)

pub returns-then-is_left_for-clause-marked : goal.returns-then-is_left_for-clause-marked
returns-then-is_left_for-clause-marked c =
    c.loop-place.invariant.1
    ∙ find c.args.item.now c.args.list.now c.loop-place.marks c.loop-place.place _ _ c.loop-place-test.true
    (c.loop-place.auto.marks ∙ c.requires) c.index-list-place.is refl (sym c.if-is_left_for.ensures)

pub loop-place-preserved : goal.loop-place-preserved
loop-place-preserved c = (
  c.loop-place.invariant.0,
  c.loop-place.invariant.1
      ∙ pass c.args.item.now c.args.list.now c.loop-place.marks c.loop-place.place _ _ c.loop-place-test.true
      (c.loop-place.auto.marks ∙ c.requires) c.index-list-place.is refl (sym c.if-is_left_for.ensures),
)

pub returns-clause-marked : goal.returns-clause-marked
returns-clause-marked c = c.loop-place.invariant.1 ∙ find_end c.args.item.now c.args.list.now c.loop-place.marks c.loop-place.place (omega (arith, c.loop-place-test.false))
