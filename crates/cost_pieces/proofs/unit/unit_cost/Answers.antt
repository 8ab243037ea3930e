use Rattle.std.proofs.Common.{arith}
use Rattle.cost_pieces.proofs.Bounds.{weighed}
use Rattle.cost_pieces.proofs.Slopes.{cost_rises}
use Rattle.cost_pieces.proofs.unit.unit_cost.Goals as goal

pub overflow_mul-result : goal.overflow_mul-result
overflow_mul-result c = omega (arith, weighed _ _ _ _ _ c.uncertainty.ensures.most c.fee_weight-weight.ensures.most c.fee.ensures.most c.delay_cost-delay.ensures.most c.hundredths.ensures.most)

pub overflow_add-result-3 : goal.overflow_add-result-3
overflow_add-result-3 c = omega (arith, weighed _ _ _ _ _ c.uncertainty.ensures.most c.fee_weight-weight.ensures.most c.fee.ensures.most c.delay_cost-delay.ensures.most c.hundredths.ensures.most)

pub returns-clause-most : goal.returns-clause-most
returns-clause-most c = omega (arith, weighed _ _ _ _ _ c.uncertainty.ensures.most c.fee_weight-weight.ensures.most c.fee.ensures.most c.delay_cost-delay.ensures.most c.hundredths.ensures.most)

pub returns-clause-rises : goal.returns-clause-rises
returns-clause-rises c later le l = cost_rises c.args.terms.now c.args.piece later c.args.fee_level c.args.delay_level le l
