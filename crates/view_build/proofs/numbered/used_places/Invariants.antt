use Rattle.std.proofs.Common.{◌≡◌, ◌*◌, ◌≤◌, take, length}
use Rattle.std.specs.List.{count_by}
use Rattle.view_build.specs.Ends.{AreUsed}
use Rattle.view_build.specs.Ranked.{is_set}
use Rattle.view_build.proofs.numbered.used_places.Given as goal

abbrev pub invariant-loop-d : goal.invariant-loop-d
invariant-loop-d l = record {
  places : length l.used.items ≡ l.places;
  used : AreUsed (take l.d-index l.dirs) l.used.items;
  few : count_by is_set l.used.items ≤ 2 * l.d-index;
}
