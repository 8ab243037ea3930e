use Rattle.std.proofs.Common.{rules}
use Rattle.turn_desk.proofs.Commits.{commits_told, leaves_committed}
use Rattle.turn_desk.proofs.desk.Desk.commit_and_leave.Goals as goal

pub fetch_add-requires : goal.fetch_add-requires
fetch_add-requires g c = let r = c.requires in (search rules, search rules, commits_told _ _ c.args.seat.now.me _ c.args.journal c.args.made r.turn r.room r.content.0 c.exchange-empty.ensures.3)

pub fetch_add-served-requires : goal.fetch_add-served-requires
fetch_add-served-requires g c = let r = c.requires in (search rules, search rules, leaves_committed _ _ c.args.seat.now.me _ _ c.args.journal c.args.made r.turn r.slot r.content.1 c.exchange-empty.ensures.3 c.fetch_add.ensures.2)
