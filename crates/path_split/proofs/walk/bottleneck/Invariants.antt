use Rattle.std.specs.Prelude.{take}
use Rattle.path_split.proofs.Turns.{LeastSoFar}
use Rattle.path_split.proofs.walk.bottleneck.Given as goal

abbrev pub invariant-loop-i : goal.invariant-loop-i
invariant-loop-i l = LeastSoFar l.left (take l.i-index l.path) l.most l.least
