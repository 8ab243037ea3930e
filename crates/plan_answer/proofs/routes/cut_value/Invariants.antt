use Rattle.std.proofs.Common.{◌≡◌, ◌++◌, ◌-◌, length, map}
use Rattle.std.specs.Prelude.{filter}
use Rattle.std.specs.List.{range_with_len}
use Rattle.serde_json.specs.View.{view}
use Rattle.flow_model.specs.Side.{on_side}
use Rattle.plan_answer.specs.RouteRecords.{indexed_node_data}
use Rattle.plan_answer.specs.RoutesReply.{nodes_on}
use Rattle.plan_answer.proofs.routes.cut_value.Given as goal

abbrev pub invariant-loop-i : goal.invariant-loop-i
invariant-loop-i l = map view l.values.items ++ map (indexed_node_data l.view) (filter (on_side l.side) (range_with_len l.i (length l.view.nodes - l.i))) ≡ map (indexed_node_data l.view) (nodes_on l.view l.side)
