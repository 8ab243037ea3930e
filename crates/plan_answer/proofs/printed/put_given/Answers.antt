use Rattle.plan_answer.proofs.Order.{lower_before, before_put}
use Rattle.plan_answer.proofs.printed.put_given.Goals as goal

pub returns-in_ok-put-clause-below : goal.returns-in_ok-put-clause-below
returns-in_ok-put-clause-below g c = λ lower below. rw c.in_ok-put.ensures.ok (before_put lower _ _ _ below c.requires)

pub returns-in_default-clause-below : goal.returns-in_default-clause-below
returns-in_default-clause-below g c = λ lower below. lower_before lower _ _ below c.requires
