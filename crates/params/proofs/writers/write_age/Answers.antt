use Rattle.params.proofs.Trips.{age_trip}
use Rattle.params.proofs.writers.write_age.Goals as goal

pub returns-clause-back : goal.returns-clause-back
returns-clause-back c = age_trip _ _ c.in_ok-put_required.ensures.back c.in_ok-put_required-2.ensures.back
