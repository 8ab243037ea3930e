use Rattle.std.proofs.Common.{◌<◌, ◌∙◌, arith, ap, sym, length}
use Rattle.std.specs.Prelude.{slice_index_or}
use Rattle.limit_rounds.specs.Loads.{load_at, load_after}
use Rattle.round_rules.specs.Amounts.{carried_of}
use Rattle.limit_rounds.proofs.Carried.{route_fits, load_more, same_total, same_load}
use Rattle.limit_rounds.proofs.loads.loads.Goals as goal

pub add_route-requires-clause-fits : goal.add_route-requires-clause-fits
add_route-requires-clause-fits c d =
    let h = route_fits c.loop-route.all.items c.args.routes.now c.loop-route.route-index c.args.count c.route-item.result c.loop-route-test.true c.loop-route.invariant.long c.loop-route.invariant.value c.requires.fits d in
    let e = same_total d _ _ _ _ (c.as_slice.ensures ∙ ap (λ r. r.path) c.route-item.is) (c.as_slice-in-loop-route.ensures ∙ ap (λ r. r.hops) c.route-item.is) in
    omega (arith, h, e)

pub loop-route-preserved : goal.loop-route-preserved
loop-route-preserved c = record {
  long = c.add_route.ensures.long ∙ c.loop-route.invariant.long;
  value = λ d l.
      let n : d < length c.loop-route.all.items = let m = c.loop-route.invariant.long in omega (arith, m, l) in
      let e = same_load d (load_at c.loop-route.all.items d) _ _ _ _ (c.as_slice.ensures ∙ ap (λ r. r.path) c.route-item.is) (c.as_slice-in-loop-route.ensures ∙ ap (λ r. r.hops) c.route-item.is) in
      c.add_route.ensures.value d n ∙ e ∙ ap (λ y. load_after d y (carried_of (slice_index_or c.args.routes.now c.loop-route.route-index c.route-item.result))) (c.loop-route.invariant.value d l) ∙ sym (load_more c.args.routes.now c.loop-route.route-index c.route-item.result d c.loop-route-test.true);
}
