use Rattle.std.proofs.Common.{◌≡◌, length}
use Rattle.round_tests.specs.Channels.{AreGoodDirs}
use Rattle.round_tests.proofs.views.dirs_of.Given as goal

abbrev pub invariant-loop-i : goal.invariant-loop-i
invariant-loop-i l = record {
  long : length l.dirs.items ≡ l.i;
  good : AreGoodDirs l.nodes 0 l.dirs.items;
}
