use Rattle.std.proofs.Common.{Some, None}
use Rattle.one_history.proofs.Keeping.{found_place, kept_push, refuses_event, machine_event, shows_event}
use Rattle.one_history.proofs.machine.Machine.event.Goals as goal

-- the caller waits
pub returns-in-Some-clause-refused : goal.returns-in-Some-clause-refused
returns-in-Some-clause-refused g c = found_place _ _ _ c.self.view_is _ (Some c.in-Some.told.now) c.in-Some.ensures.value

-- the journal refuses
pub returns-in_err-told-clause-refused : goal.returns-in_err-told-clause-refused
returns-in_err-told-clause-refused g c =
    refuses_event _ _ _ _ _ _ c.self.view_is (found_place _ _ _ c.self.view_is _ None c.in_default.ensures.value) c.in_err-told.ensures.refused c.from_residual-in_err-told.ensures.1

-- the reply is kept beside its entry
pub invariant_of-self-2 : goal.invariant_of-self-2
invariant_of-self-2 g c =
    machine_event _ _ _ _ _ _ _ _ _ _ _ c.self.invariant c.in_ok-told.ensures.at c.in_ok-told.ensures.reply c.in_ok-told.ensures.appended
    (kept_push _ c.reserve.new.self _ _ _ _ c.in_ok-reserve.ensures.entries c.in_default.ensures.value c.in-None.ensures c.insert.ensures.entries)
    c.insert.ensures.unique

pub returns-clause-free : goal.returns-clause-free
returns-clause-free g c = found_place _ _ _ c.self.view_is _ None c.in_default.ensures.value

pub returns-clause-committed : goal.returns-clause-committed
returns-clause-committed g c =
    shows_event _ _ _ c.self.view_is _ _ _ _ _ _ c.in_ok-told.ensures.at c.in_ok-told.ensures.appended
    (kept_push _ c.reserve.new.self _ _ _ _ c.in_ok-reserve.ensures.entries c.in_default.ensures.value c.in-None.ensures c.insert.ensures.entries)
