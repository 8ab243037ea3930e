use Rattle.std.proofs.Common.{rules}
use Rattle.turn_desk.proofs.Turns.{leaves_told}
use Rattle.turn_desk.proofs.desk.Desk.leave_turn.Goals as goal

pub fetch_add-served-requires : goal.fetch_add-served-requires
fetch_add-served-requires g c = let r = c.requires in (search rules, search rules, leaves_told _ _ c.args.seat.now.me _ c.args.journal c.args.made r.turn r.slot r.content c.exchange-empty.ensures.3)
