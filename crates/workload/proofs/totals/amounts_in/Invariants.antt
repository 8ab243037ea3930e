use Rattle.std.proofs.Common.{◌≡◌, ◌+◌, drop}
use Rattle.serde_json.specs.View.{items_view}
use Rattle.workload.specs.Totals as totals
use Rattle.workload.proofs.totals.amounts_in.Given as goal

abbrev pub invariant-loop-route : goal.invariant-loop-route
invariant-loop-route l = l.sum + totals.amounts_in (items_view (drop l.route-index l.routes)) ≡ totals.amounts_in (items_view l.routes)
