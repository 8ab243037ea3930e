use Rattle.params.proofs.Trips.{disable_node_trip}
use Rattle.params.proofs.writers.write_disable_node.Goals as goal

pub returns-clause-back : goal.returns-clause-back
returns-clause-back c = disable_node_trip _ _ c.in_ok-put_required.ensures.back c.in_ok-put_required-2.ensures.back
