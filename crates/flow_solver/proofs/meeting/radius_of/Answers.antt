use Rattle.std.proofs.Common.{arith}
use Rattle.flow_solver.proofs.meeting.radius_of.Goals as goal

pub returns-then-near-best-clause-source : goal.returns-then-near-best-clause-source
returns-then-near-best-clause-source c v label lv le m = let h = c.front-near.ensures.least v label lv le m in let n = c.if-near-best.true in omega (arith, h, n)

pub returns-then-best-near-clause-destination : goal.returns-then-best-near-clause-destination
returns-then-best-near-clause-destination c v label lv le m = let h = c.front.ensures.least v label lv le m in let n = c.if-best-near.true in omega (arith, h, n)
