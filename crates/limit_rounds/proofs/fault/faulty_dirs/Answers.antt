use Rattle.std.proofs.Common.{◌∙◌, sym, length}
use Rattle.limit_rounds.specs.Loads.{faulty_at}
use Rattle.limit_rounds.proofs.Listing.{faulty_is, list_turn}
use Rattle.limit_rounds.proofs.fault.faulty_dirs.Goals as goal

pub loop-d-preserved : goal.loop-d-preserved
loop-d-preserved c =
    let is = c.is_faulty-listed.ensures ∙ faulty_is c.args.dirs.now c.args.loads.now c.loop-d.d c.index-dirs-d.result _ _ c.loop-d-test.true c.requires.long c.index-dirs-d.is in
    list_turn (faulty_at c.args.dirs.now c.args.loads.now) c.loop-d.faulty.items c.push_if.new.out.items c.loop-d.d (length c.args.dirs.now) c.is_faulty-listed.result _ c.loop-d-test.true (sym is) c.in_ok-push_if.ensures c.loop-d.invariant
