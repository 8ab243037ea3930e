use Rattle.params.proofs.Trips.{list_layers_trip}
use Rattle.params.proofs.writers.write_list_layers.Goals as goal

pub returns-clause-back : goal.returns-clause-back
returns-clause-back c = list_layers_trip _ c.in_ok-put_optional.ensures.back
