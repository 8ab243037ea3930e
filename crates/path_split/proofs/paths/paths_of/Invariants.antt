use Rattle.path_split.proofs.Splitting.{FoundSoFar}
use Rattle.path_split.proofs.paths.paths_of.Given as goal

abbrev pub invariant-loop-units : goal.invariant-loop-units
invariant-loop-units l = FoundSoFar l.instance l.flow l.edges.items l.left.items l.first.items l.units l.paths.items

abbrev pub decreases-loop-units : goal.decreases-loop-units
decreases-loop-units l = l.units
