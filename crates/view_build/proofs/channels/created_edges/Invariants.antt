use Rattle.std.proofs.Common.{◌≡◌, ◌++◌, ◌≤◌, ◌+◌, length, All}
use Rattle.std.specs.List.{filter_map}
use Rattle.std.specs.BTreeMap.{btree_map_len}
use Rattle.plan_base.specs.Dir.{Direction}
use Rattle.channel_map.specs.Edge.{IsGoodEdge}
use Rattle.layer.specs.declared.records.Update.{Update}
use Rattle.view_build.specs.Channels.{created_for}
use Rattle.view_build.proofs.channels.created_edges.Given as goal

abbrev pub invariant-loop-dir : goal.invariant-loop-dir
invariant-loop-dir l = record {
  edges : l.edges.items ++ filter_map (λ (e : Direction × Update). created_for l.channels l.map e.0 e.1) l.dir-iterator ≡ filter_map (λ (e : Direction × Update). created_for l.channels l.map e.0 e.1) l.given.entries;
  good : All IsGoodEdge l.edges.items;
  few : length l.edges.items + length l.dir-iterator ≤ btree_map_len l.given;
}
