use Rattle.std.proofs.Common.{◌-◌, ◌<◌, length}
use Rattle.path_split.specs.Walk.{HasNoEdgeBefore}
use Rattle.path_split.proofs.walk.next_edge.Given as goal

abbrev pub invariant-loop-i : goal.invariant-loop-i
invariant-loop-i l = record {
  within : l.i < length l.edges;
  first : HasNoEdgeBefore l.edges l.left l.node l.i;
}

abbrev pub decreases-loop-i : goal.decreases-loop-i
decreases-loop-i l = length l.edges - l.i
