use Rattle.one_history.proofs.Keeping.{machine_answer, some_waits, none_waits, some_reply, shows_answer, OnSome-fact}
use Rattle.one_history.proofs.machine.Machine.answer.Goals as goal

-- what is left is still a machine
pub invariant_of-self : goal.invariant_of-self
invariant_of-self g c = machine_answer _ _ _ _ _ _ _ c.self.invariant c.shift_remove.ensures.entries c.shift_remove.ensures.unique

pub returns-clause-waits : goal.returns-clause-waits
returns-clause-waits g c = some_waits _ _ _ c.self.view_is _ _ c.shift_remove.ensures.value

pub returns-clause-reply : goal.returns-clause-reply
returns-clause-reply g c = some_reply _ _ _ _ _ _ _ c.self.view_is c.self.invariant _ c.shift_remove.ensures.value

pub returns-clause-answered : goal.returns-clause-answered
returns-clause-answered g c = OnSome-fact _ (shows_answer _ _ _ c.self.view_is _ _ c.self.invariant.once c.shift_remove.ensures.entries)

pub returns-clause-none : goal.returns-clause-none
returns-clause-none g c = none_waits _ _ _ c.self.view_is _ _ c.shift_remove.ensures.value
