use Rattle.params.proofs.Trips.{update_channel_trip}
use Rattle.params.proofs.writers.write_update_channel.Goals as goal

pub returns-clause-back : goal.returns-clause-back
returns-clause-back c =
    update_channel_trip _ _ c.in_ok-put_required.ensures.back c.in_ok-put_required-2.ensures.back c.in_ok-put_optional.ensures.back c.in_ok-put_optional-2.ensures.back c.in_ok-put_optional-3.ensures.back c.in_ok-put_optional-4.ensures.back c.in_ok-put_optional-5.ensures.back c.in_ok-put_optional-6.ensures.back
