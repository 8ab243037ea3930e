use Rattle.std.proofs.Common.{◌≡◌, length}
use Rattle.view_build.specs.Ranked.{AreRanked}
use Rattle.view_build.proofs.numbered.rank_nodes.Given as goal

abbrev pub invariant-loop-place : goal.invariant-loop-place
invariant-loop-place l = record {
  ranked : AreRanked l.ids l.used l.nodes.items l.ranks.items;
  ranks : length l.ranks.items ≡ l.place;
}
