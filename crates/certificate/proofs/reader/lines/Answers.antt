use Rattle.std.proofs.Common.{sym, ◌∙◌}
use Rattle.certificate.proofs.ReadTurns.{lines_turn, lines_stop, lines_done}
use Rattle.certificate.proofs.reader.lines.Goals as goal

pub returns-in_default-clause-line : goal.returns-in_default-clause-line
returns-in_default-clause-line g c = sym c.loop-i.invariant ∙ lines_stop (g.L.LineForm.reads c.args.reader.now) c.args.count c.args.first c.loop-i.i c.loop-i.items.items c.loop-i.rest.now c.loop-i-test.true c.in_default.ensures

pub loop-i-preserved : goal.loop-i-preserved
loop-i-preserved g c = lines_turn (g.L.LineForm.reads c.args.reader.now) c.args.count c.args.first c.loop-i.i c.loop-i.items.items c.push.new.self.items c.in-Some.item c.loop-i.rest.now c.in-Some.after.now c.loop-i-test.true c.in-Some.ensures c.in_ok-push.ensures.items ∙ c.loop-i.invariant

pub returns-clause-ok : goal.returns-clause-ok
returns-clause-ok g c = sym c.loop-i.invariant ∙ lines_done (g.L.LineForm.reads c.args.reader.now) c.args.count c.args.first c.loop-i.i c.loop-i.items.items c.loop-i.rest.now c.loop-i-test.false
