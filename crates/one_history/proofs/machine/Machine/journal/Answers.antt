use Rattle.one_history.proofs.Keeping.{machine_core}
use Rattle.one_history.proofs.machine.Machine.journal.Goals as goal

-- each caller that waits has an entry of its own
pub returns-clause-waiting : goal.returns-clause-waiting
returns-clause-waiting g c = machine_core _ _ _ _ _ _ c.self.invariant c.self.view_is
