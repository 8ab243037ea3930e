use Rattle.std.proofs.Common.{◌≤◌, length, Some, ap, ◌∙◌, arith}
use Rattle.channel_map.specs.declared.edge.Edge.{Edge}
use Rattle.auto_layers.proofs.Adding.{next_layer, next_last, next_room}
use Rattle.auto_layers.proofs.local.local_layer.Goals as goal

pub add_edge-requires-clause-room : goal.add_edge-requires-clause-room
add_edge-requires-clause-room c =
    let list = c.dirs-edge-items.ensures.list in
    let few : length c.args.local.now ≤ 4096 = omega (arith, c.dirs-edge-items.ensures.good.few) in
    next_room c.args.local.now c.loop-edge.edge-index c.edge-item.result (rw list at c.loop-edge-test.true) (rw list at c.edge-item.is) c.loop-edge.layer c.loop-edge.invariant.layer few

pub loop-edge-preserved : goal.loop-edge-preserved
loop-edge-preserved c =
    let l = c.loop-edge in
    let list = c.dirs-edge-items.ensures.list in
    let within = rw list at c.loop-edge-test.true in
    let is = rw list at c.edge-item.is in
    record {
      layer = next_layer c.args.local.now l.edge-index c.edge-item.result within is l.layer c.add_edge.new.layer l.last l.invariant.layer l.invariant.last c.in_ok-add_edge.ensures.ok;
      last = ap (λ (e : Edge). Some e.dir.scid) c.edge.view_is ∙ next_last c.args.local.now l.edge-index c.edge-item.result within is;
    }
