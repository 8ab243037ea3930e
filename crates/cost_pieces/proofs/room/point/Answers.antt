use Rattle.std.proofs.Common.{arith}
use Rattle.cost_pieces.proofs.Hundredths.{hundredths_apart}
use Rattle.cost_pieces.proofs.room.point.Goals as goal

pub returns-clause-value : goal.returns-clause-value
returns-clause-value c = omega (arith, hundredths_apart c.args.gap c.args.hundredths)
