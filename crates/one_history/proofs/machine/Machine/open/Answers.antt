use Rattle.one_history.proofs.Keeping.{shows_nothing}
use Rattle.one_history.proofs.machine.Machine.open.Goals as goal

pub returns : goal.returns
returns g c = shows_nothing _ _ c.in_ok-journal.ensures c.new.ensures.empty
