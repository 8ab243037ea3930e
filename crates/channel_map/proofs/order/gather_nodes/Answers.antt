use Rattle.std.proofs.Common.{◌≡◌, ◌+◌, drop, fold, sym, ap, ◌∙◌, arith}
use Rattle.channel_map.specs.Reading.{with_node, with_ends}
use Rattle.channel_map.proofs.Turning.{ends_more}
use Rattle.channel_map.proofs.order.gather_nodes.Goals as goal

pub loop-edge-preserved : goal.loop-edge-preserved
loop-edge-preserved c =
    let l = c.loop-edge in
    let edge = c.edge-item.result in
    let first : c.insert.new.self.keys ≡ with_node l.nodes.keys edge.source = c.in_ok-insert.ensures.keys in
    let second : c.insert-in-loop-edge.new.self.keys ≡ with_node c.insert.new.self.keys edge.destination = c.in_ok-insert-2.ensures.keys in
    let keys : c.insert-in-loop-edge.new.self.keys ≡ with_ends l.nodes.keys edge = second ∙ ap (λ nodes. with_node nodes edge.destination) first in
    ap (λ nodes. fold with_ends nodes (drop (l.edge-index + 1) c.args.edges.now)) keys
    ∙ sym (ends_more c.args.edges.now l.edge-index edge (omega arith) c.edge-item.is l.nodes.keys) ∙ l.invariant
