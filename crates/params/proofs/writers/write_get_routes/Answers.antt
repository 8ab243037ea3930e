use Rattle.params.proofs.Trips.{get_routes_trip, apart_nodes}
use Rattle.params.proofs.writers.write_get_routes.Goals as goal

pub returns-clause-back : goal.returns-clause-back
returns-clause-back c =
    get_routes_trip _ c.in_ok-put_required.ensures.back c.in_ok-put_required-2.ensures.back c.in_ok-put_required-3.ensures.back c.in_ok-put_required-4.ensures.back c.in_ok-put_required-5.ensures.back c.in_ok-put_required-6.ensures.back c.in_ok-put_required-7.ensures.back c.in_ok-put_required-8.ensures.back c.in_ok-put_required-9.ensures.back (apart_nodes _ _ c.requires.apart)
