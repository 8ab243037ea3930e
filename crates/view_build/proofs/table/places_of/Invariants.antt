use Rattle.std.proofs.Common.{◌≡◌, ◌<◌, take, length, All}
use Rattle.view_build.specs.Table.{named_places}
use Rattle.view_build.proofs.table.places_of.Given as goal

abbrev pub invariant-loop-node : goal.invariant-loop-node
invariant-loop-node l = record {
  named : named_places l.ids l.places.items ≡ take l.node-index l.nodes;
  within : All (λ place. place < length l.ids) l.places.items;
}
