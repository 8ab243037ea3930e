use Rattle.std.proofs.Common.{◌≡◌, length}
use Rattle.one_history.specs.declared.journal.TheConstants.{JOURNAL_MAX}
use Rattle.session.proofs.DeskCommits.{committed_in_turn, seen_in_turn}
use Rattle.session.proofs.among.commit_in_turn.Goals as goal

pub returns-in-Ok-clause-outcome : goal.returns-in-Ok-clause-outcome
returns-in-Ok-clause-outcome g c =
    committed_in_turn c.args.moment c.args.command c.args.pass.now.1 c.event.new.pass.1 c.in-Ok.told c.in-Ok.ensures.committed c.in-Ok.ensures.room c.in-Ok.ensures.reply

pub returns-in-Err-Full-clause-outcome : goal.returns-in-Err-Full-clause-outcome
returns-in-Err-Full-clause-outcome g c =
    let full : (c.in-Err-Full.length ≡ JOURNAL_MAX) × (length c.event.new.pass.1.seen ≡ JOURNAL_MAX) = rw c.in-Err-Full.field-0-is at c.in-Err-Full.ensures.refused in
    (seen_in_turn c.args.pass.now.1 c.event.new.pass.1 c.event.ensures.continues c.in-Err-Full.ensures.err, full.1, full.0)

pub returns-in-Err-NoMemory-clause-outcome : goal.returns-in-Err-NoMemory-clause-outcome
returns-in-Err-NoMemory-clause-outcome g c =
    seen_in_turn c.args.pass.now.1 c.event.new.pass.1 c.event.ensures.continues c.in-Err-NoMemory.ensures.err
