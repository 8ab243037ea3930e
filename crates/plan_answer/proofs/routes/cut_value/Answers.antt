use Rattle.std.proofs.Common.{refl, ap, arith, length}
use Rattle.flow_model.specs.Side.{on_side}
use Rattle.plan_answer.specs.RouteRecords.{indexed_node_data}
use Rattle.plan_answer.proofs.Nodes.{node_turn}
use Rattle.plan_answer.proofs.routes.cut_value.Goals as goal

pub loop-i-preserved : goal.loop-i-preserved
loop-i-preserved c =
    let e = ap length c.nodes-i-end.ensures.list in
    let l = c.loop-i-test.true in
    node_turn (indexed_node_data c.args.view.now) (on_side c.args.side.now) _ _ c.loop-i.i (length c.args.view.now.nodes) _ _ (omega (arith, e, l)) refl c.in_ok-push_node_if.ensures c.loop-i.invariant
