use Rattle.params.proofs.Trips.{bias_channel_trip}
use Rattle.params.proofs.writers.write_bias_channel.Goals as goal

pub returns-clause-back : goal.returns-clause-back
returns-clause-back c =
    bias_channel_trip _ _ c.in_ok-put_required.ensures.back c.in_ok-put_required-2.ensures.back c.in_ok-put_required-3.ensures.back
