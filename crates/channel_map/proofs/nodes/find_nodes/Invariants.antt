use Rattle.std.proofs.Common.{◌≡◌, ◌≤◌, ◌*◌, take, drop, fold, map, length, All}
use Rattle.channel_map.specs.Nodes.{ArePlaces, ends_of, named_ends}
use Rattle.channel_map.specs.Reading.{with_ends, nodes_of}
use Rattle.channel_map.proofs.nodes.find_nodes.Given as goal

abbrev pub invariant-loop-edge : goal.invariant-loop-edge
invariant-loop-edge l = record {
  few : length l.nodes.keys ≤ 2 * l.edge-index;
  gathered : fold with_ends l.nodes.keys (drop l.edge-index l.edges) ≡ nodes_of l.edges;
  named : map (named_ends l.nodes.keys) l.ends.items ≡ map ends_of (take l.edge-index l.edges);
  within : All (ArePlaces (length l.nodes.keys)) l.ends.items;
}
