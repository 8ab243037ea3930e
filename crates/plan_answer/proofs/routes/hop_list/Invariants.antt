use Rattle.std.proofs.Common.{◌≡◌, map, take}
use Rattle.std.specs.Prelude.{zip}
use Rattle.serde_json.specs.View.{view}
use Rattle.plan_answer.specs.RouteRecords.{hop_data}
use Rattle.plan_answer.proofs.routes.hop_list.Given as goal

abbrev pub invariant-loop-i : goal.invariant-loop-i
invariant-loop-i l = map view l.values.items ≡ map (hop_data l.view) (take l.i (zip l.path l.hops))
