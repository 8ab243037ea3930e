use Rattle.params.proofs.Trips.{create_channel_trip, apart_nodes}
use Rattle.params.proofs.writers.write_create_channel.Goals as goal

pub returns-clause-back : goal.returns-clause-back
returns-clause-back c =
    create_channel_trip _ _ c.in_ok-put_required.ensures.back c.in_ok-put_required-2.ensures.back c.in_ok-put_required-3.ensures.back c.in_ok-put_required-4.ensures.back c.in_ok-put_required-5.ensures.back (apart_nodes _ _ c.requires.channel.apart)
