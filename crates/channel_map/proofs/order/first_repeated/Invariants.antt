use Rattle.std.proofs.Common.{◌≡◌, drop}
use Rattle.channel_map.specs.Reading.{repeated_after, first_repeated}
use Rattle.channel_map.proofs.order.first_repeated.Given as goal

abbrev pub invariant-loop-edge : goal.invariant-loop-edge
invariant-loop-edge l = repeated_after l.seen.keys (drop l.edge-index l.edges) ≡ first_repeated l.edges
