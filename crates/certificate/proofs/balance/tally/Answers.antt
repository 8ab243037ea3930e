use Rattle.std.proofs.Common.{◌∙◌}
use Rattle.certificate.proofs.Tallied.{tally_turn, tally_all}
use Rattle.certificate.proofs.balance.tally.Goals as goal

pub loop-i-preserved : goal.loop-i-preserved
loop-i-preserved c =
    let h = tally_turn c.args.loads.now _ _ c.loop-i.i _ _ c.loop-i-test.true (c.load.view_is ∙ c.index-loads-i.is) c.requires.froms c.requires.tos c.loop-i.invariant.kept _ _ c.raise.ensures.sum c.lower.ensures c.raise.ensures.units c.loop-i.invariant.near in
    record { kept = h.0; near = h.1 }

pub returns : goal.returns
returns c = tally_all _ _ _ _ c.loop-i-test.false c.loop-i.invariant.kept
