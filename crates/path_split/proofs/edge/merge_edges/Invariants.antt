use Rattle.path_split.proofs.Gathered.{MergedSoFar}
use Rattle.path_split.proofs.edge.merge_edges.Given as goal

abbrev pub invariant-loop-i : goal.invariant-loop-i
invariant-loop-i l = MergedSoFar l.edges l.i l.merged.items
