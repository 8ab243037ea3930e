use Rattle.cost_pieces.proofs.Rooms.{rooms_most}
use Rattle.cost_pieces.proofs.room.pieces.Goals as goal

pub returns-clause-most : goal.returns-clause-most
returns-clause-most c = rooms_most c.args.lo c.args.hi c.args.unit c.args.cap
