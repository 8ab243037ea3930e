use Rattle.std.proofs.Common.{sym, subst}
use Rattle.flow_model.specs.Flow.{IsCheapest}
use Rattle.limit_rounds.proofs.Passing.{flow_parts, good_split}
use Rattle.limit_rounds.proofs.run.with_flow.Goals as goal

pub returns-clause-parts : goal.returns-clause-parts
returns-clause-parts c =
    let net = c.args.instance.now in
    let flow = c.args.flow.now in
    let parts = c.in_ok-parts.parts.items in
    let facts = c.in_ok-parts.ensures in
    flow_parts c.args.view.now c.args.ask.now c.args.round c.with_parts-round.result c.with_fault.result net flow parts c.in_ok-fault.fault c.requires.instance c.with_parts-round.ensures c.with_fault.ensures
    record {
      paths = facts.paths;
      short = facts.short;
      some = facts.some;
      sent = facts.sent;
      fits = facts.fits;
      split = good_split net flow c.args.round.size parts facts.parts facts.filled;
    }
    (subst (IsCheapest net) (sym facts.filled) c.requires.cheapest)
    c.in_ok-fault.ensures
