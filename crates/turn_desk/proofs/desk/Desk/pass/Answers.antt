use Rattle.std.proofs.Common.{rules}
use Rattle.turn_desk.proofs.Splits.{splits_told}
use Rattle.turn_desk.proofs.desk.Desk.pass.Goals as goal

pub split_seat-seat-requires : goal.split_seat-seat-requires
split_seat-seat-requires g c = (search rules, search rules, splits_told _ c.pass.inside.seat.me.0 _ _ _ _ c.take_turn-journal.ensures.view.1 (search rules))
