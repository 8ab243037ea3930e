use Rattle.std.proofs.Common.{rules}
use Rattle.turn_desk.proofs.Openings.{opens}
use Rattle.turn_desk.proofs.desk.Desk.open.Goals as goal

pub new-requires : goal.new-requires
new-requires g c = opens _ (search rules)
