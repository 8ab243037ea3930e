use Rattle.std.proofs.Common.{◌-◌, length}
use Rattle.path_split.proofs.Turns.{WalkSoFar}
use Rattle.path_split.proofs.walk.find_path.Given as goal

abbrev pub invariant-loop-node : goal.invariant-loop-node
invariant-loop-node l = WalkSoFar l.edges l.left (length l.initial.first) l.source l.destination l.first l.node l.path.items

abbrev pub decreases-loop-node : goal.decreases-loop-node
decreases-loop-node l = length l.first - length l.path.items
