use Rattle.plan_base.proofs.Amounts.{with_unit, with_no_unit}
use Rattle.plan_base.proofs.amount.digits_of.Goals as goal

pub returns-in-Some : goal.returns-in-Some
returns-in-Some c = let cases = c.in-Some.ensures.cases in with_unit c.args.text.now _ (rw (← cases.2) at cases.1.1)

pub returns-in-None : goal.returns-in-None
returns-in-None c = with_no_unit c.args.text.now c.in-None.ensures.cases
