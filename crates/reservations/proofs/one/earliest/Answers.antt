use Rattle.std.proofs.Common.{sym, ◌∙◌, arith}
use Rattle.reservations.proofs.Earliest.{start_one, pass_one, find_one, end_one}
use Rattle.reservations.proofs.one.earliest.Goals as goal

pub loop-place-init : goal.loop-place-init
loop-place-init c = start_one c.args.item.now c.args.list.now

pub returns-then-is_reservation_for-clause-place : goal.returns-then-is_reservation_for-clause-place
returns-then-is_reservation_for-clause-place c =
    c.loop-place.invariant ∙ find_one c.args.item.now c.args.list.now c.loop-place.place _ c.loop-place-test.true c.index-list-place.is (sym c.if-is_reservation_for.ensures)

pub loop-place-preserved : goal.loop-place-preserved
loop-place-preserved c =
    c.loop-place.invariant ∙ pass_one c.args.item.now c.args.list.now c.loop-place.place _ c.loop-place-test.true c.index-list-place.is (sym c.if-is_reservation_for.ensures)

pub returns-clause-place : goal.returns-clause-place
returns-clause-place c = c.loop-place.invariant ∙ end_one c.args.item.now c.args.list.now c.loop-place.place (omega (arith, c.loop-place-test.false))
