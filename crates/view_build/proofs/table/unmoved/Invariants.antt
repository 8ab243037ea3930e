use Rattle.std.proofs.Common.{◌≡◌, ◌<◌, take, length, All}
use Rattle.view_build.specs.Table.{named_places}
use Rattle.view_build.proofs.table.unmoved.Given as goal

abbrev pub invariant-loop-place : goal.invariant-loop-place
invariant-loop-place l = record {
  named : named_places l.nodes l.moved.items ≡ take l.place l.nodes;
  within : All (λ place. place < length l.nodes) l.moved.items;
}
