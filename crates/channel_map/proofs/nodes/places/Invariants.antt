use Rattle.std.proofs.Common.{◌≡◌, ◌<◌, take, map, length, All}
use Rattle.channel_map.specs.Nodes.{id_at}
use Rattle.channel_map.proofs.nodes.places.Given as goal

abbrev pub invariant-loop-node : goal.invariant-loop-node
invariant-loop-node l = record {
  named : map (id_at l.nodes.keys) l.places.items ≡ take l.node-index l.before;
  within : All (λ place. place < length l.nodes.keys) l.places.items;
}
