use Rattle.one_history.proofs.Histories.{history_none}
use Rattle.one_history.proofs.journal.Journal.open.Goals as goal

-- the fresh object has no entries
pub invariant_of-result : goal.invariant_of-result
invariant_of-result g c = history_none _ _ _ _ _ c.in_ok-object.ensures c.new.ensures.items
