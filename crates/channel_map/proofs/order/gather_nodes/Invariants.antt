use Rattle.std.proofs.Common.{◌≡◌, drop, fold}
use Rattle.channel_map.specs.Reading.{with_ends, nodes_of}
use Rattle.channel_map.proofs.order.gather_nodes.Given as goal

abbrev pub invariant-loop-edge : goal.invariant-loop-edge
invariant-loop-edge l = fold with_ends l.nodes.keys (drop l.edge-index l.edges) ≡ nodes_of l.edges
