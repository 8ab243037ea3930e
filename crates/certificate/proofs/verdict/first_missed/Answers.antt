use Rattle.std.proofs.Common.{below_more, length, refl, sym, ap, ◌∙◌}
use Rattle.std.proofs.lemmas.List.{get_or_read_under}
use Rattle.certificate.specs.Check.{is_missed}
use Rattle.certificate.proofs.Found.{position_found, position_none}
use Rattle.certificate.proofs.verdict.first_missed.Goals as goal

pub returns-then-is_missed : goal.returns-then-is_missed
returns-then-is_missed c =
    let at = get_or_read_under c.args.loads.now c.loop-i.i (length c.args.loads.now) _ _ c.index-loads-i.is c.loop-i-test.true refl in
    position_found (is_missed c.args.potentials.now) c.args.loads.now c.loop-i.i _ c.loop-i-test.true c.loop-i.invariant (ap (is_missed c.args.potentials.now) (sym at) ∙ sym c.if-is_missed.ensures)

pub loop-i-preserved : goal.loop-i-preserved
loop-i-preserved c =
    let at = get_or_read_under c.args.loads.now c.loop-i.i (length c.args.loads.now) _ _ c.index-loads-i.is c.loop-i-test.true refl in
    below_more _ _ c.loop-i.invariant (ap (is_missed c.args.potentials.now) (sym at) ∙ sym c.if-is_missed.ensures)

pub returns : goal.returns
returns c = position_none (is_missed c.args.potentials.now) c.args.loads.now c.loop-i.i (record { from = 0; to = 0; room = 0; cost = 0; dir = 0 }, 0) c.loop-i-test.false c.loop-i.invariant
