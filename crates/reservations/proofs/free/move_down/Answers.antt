use Rattle.std.proofs.Common.{arith}
use Rattle.reservations.proofs.Kept.{stays_put}
use Rattle.reservations.proofs.free.move_down.Goals as goal

pub returns-else-to-from : goal.returns-else-to-from
returns-else-to-from c = stays_put c.args.list.now.items c.args.from c.args.to (omega (arith, c.if-to-from.false, c.requires.down))
