use Rattle.std.proofs.Common.{arith}
use Rattle.flow_solver.proofs.lanes.mark.Goals as goal

pub returns-clause-all : goal.returns-clause-all
returns-clause-all c = λ m l. c.loop-step.invariant.all m (let past = c.loop-step-test.false in omega (arith, l, past))
