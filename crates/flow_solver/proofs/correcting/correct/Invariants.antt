use Rattle.flow_solver.specs.Search.{IsSearchTree, sum_of_labels}
use Rattle.flow_solver.proofs.correcting.correct.Given as goal

abbrev pub invariant-loop : goal.invariant-loop
invariant-loop l = IsSearchTree l.residual l.potentials l.labels l.parents

abbrev pub decreases-loop : goal.decreases-loop
decreases-loop l = sum_of_labels l.labels
