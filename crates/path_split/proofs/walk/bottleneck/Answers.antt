use Rattle.path_split.proofs.Turns.{least_turn}
use Rattle.path_split.proofs.walk.bottleneck.Goals as goal

pub loop-i-preserved : goal.loop-i-preserved
loop-i-preserved c = least_turn c.args.left.now c.args.path.now c.args.most c.loop-i.least c.min-least.result c.loop-i.i-index 0 c.loop-i-test.true (c.requires.carries c.loop-i.i-index 0 c.loop-i-test.true) c.min-least.ensures c.loop-i.invariant
