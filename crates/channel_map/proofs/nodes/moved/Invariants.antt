use Rattle.std.proofs.Common.{◌≡◌, take, map}
use Rattle.channel_map.specs.Nodes.{ends_at}
use Rattle.channel_map.proofs.nodes.moved.Given as goal

abbrev pub invariant-loop-pair : goal.invariant-loop-pair
invariant-loop-pair l = l.moved.items ≡ map (ends_at l.places) (take l.pair-index l.ends)
