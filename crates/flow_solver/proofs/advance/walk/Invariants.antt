use Rattle.std.proofs.Common.{length, ◌-◌}
use Rattle.flow_solver.proofs.Walks.{IsWalking}
use Rattle.flow_solver.proofs.advance.walk.Given as goal

abbrev pub invariant-loop-node : goal.invariant-loop-node
invariant-loop-node l = IsWalking l.residual l.parents l.destination l.path.items l.node

abbrev pub decreases-loop-node : goal.decreases-loop-node
decreases-loop-node l = l.residual.net.nodes - length l.path.items
