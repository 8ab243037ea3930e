use Rattle.std.proofs.Common.{◌<◌, length, arith}
use Rattle.one_history.specs.declared.journal.TheConstants.{JOURNAL_MAX}
use Rattle.one_history.proofs.Histories.{history_push}
use Rattle.one_history.proofs.journal.Journal.commit.Goals as goal

-- the step adds the entry that is pushed
pub invariant_of-self-2 : goal.invariant_of-self-2
invariant_of-self-2 g c =
    let room : length c.self.inside.entries.items < JOURNAL_MAX = omega (arith, c.self.invariant.bounded, c.len-length.ensures) in
    history_push _ _ _ _ _ _ _ _ _ _ _ c.self.invariant room c.requires c.in_ok-reply.ensures.next c.in_ok-reserve.ensures.items c.push_reserved.ensures.items
