use Rattle.std.proofs.Common.{◌≡◌, map, take}
use Rattle.serde_json.specs.View.{view}
use Rattle.plan_answer.proofs.in_view.list_value_in.Given as goal

abbrev pub invariant-loop-item : goal.invariant-loop-item
invariant-loop-item g l = map view l.values.items ≡ map (g.T.InView.prints l.view) (take l.item-index l.list)
