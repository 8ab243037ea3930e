use Rattle.std.proofs.Common.{rules}
use Rattle.plan_answer.specs.Order.{IsBefore}
use Rattle.plan_answer.proofs.records.UpdatePrinted.value.Goals as goal

pub put_given-requires : goal.put_given-requires
unfolding IsBefore
put_given-requires c = search rules
