use Rattle.std.proofs.Common.{◌≡◌, ◌++◌, take}
use Rattle.std.specs.List.{flat_map}
use Rattle.view_build.specs.Table.{edge_ends}
use Rattle.view_build.proofs.table.with_ends.Given as goal

abbrev pub invariant-loop-edge : goal.invariant-loop-edge
invariant-loop-edge l = l.ids.items ≡ l.nodes ++ flat_map edge_ends (take l.edge-index l.created)
