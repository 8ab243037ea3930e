use Rattle.std.proofs.Common.{arith}
use Rattle.channel_map.proofs.Ascending.{ascending_from_steps}
use Rattle.channel_map.proofs.order.ascend.Goals as goal

pub returns : goal.returns
returns c = λ told. ascending_from_steps c.args.edges.now (λ k d l. c.loop-place.invariant k d (omega (arith, l)))
