use Rattle.std.proofs.Common.{◌≡◌, map, take}
use Rattle.serde_json.specs.View.{view}
use Rattle.plan_answer.specs.RouteRecords.{route_data}
use Rattle.plan_answer.proofs.routes.route_list.Given as goal

abbrev pub invariant-loop-route : goal.invariant-loop-route
invariant-loop-route l = map view l.values.items ≡ map (route_data l.view l.ask) (take l.route-index l.routes)
