use Rattle.std.proofs.Common.{◌≡◌, ◌<◌, ◌≤◌, ◌-◌, ℕ, length, slice_index_or}
use Rattle.path_split.specs.Walk.{edge_at}
use Rattle.path_split.proofs.paths.firsts_of.Given as goal

abbrev pub invariant-loop-i : goal.invariant-loop-i
invariant-loop-i l = record {
  nodes : length l.first.items ≡ l.nodes;
  first : (j : ℕ) → length l.edges - l.i ≤ j → j < length l.edges → slice_index_or l.first.items (edge_at l.edges j).from 0 ≤ j;
}
