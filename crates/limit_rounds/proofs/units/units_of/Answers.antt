use Rattle.std.proofs.Common.{arith}
use Rattle.limit_rounds.proofs.UnitsOn.{part_fits}
use Rattle.limit_rounds.proofs.units.units_of.Goals as goal

pub add_part-requires-clause-fits : goal.add_part-requires-clause-fits
add_part-requires-clause-fits c d l = part_fits c.loop-i.all.items c.loop-i.all.items c.args.count c.args.parts.now c.loop-i.i c.index-parts-i-in-loop-i.result c.loop-i-test.true c.loop-i.invariant c.requires.most d (let n = c.loop-i.invariant.long in omega (arith, l, n))
