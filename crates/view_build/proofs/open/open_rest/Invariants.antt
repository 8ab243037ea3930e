use Rattle.std.proofs.Common.{◌≡◌, ◌++◌, All, drop, length, map}
use Rattle.std.specs.List.{filter_map}
use Rattle.view_build.specs.Built.{named_direction}
use Rattle.view_build.specs.Opened.{HasPlaces, IsGoodOpen, opened_by}
use Rattle.view_build.proofs.open.open_rest.Given as goal

abbrev pub invariant-loop-next : goal.invariant-loop-next
invariant-loop-next l = record {
  named : map (named_direction l.table.ids.items) l.dirs.items ++ filter_map (opened_by l.changes) (drop l.next l.created)
      ≡ map (named_direction l.table.ids.items) l.initial.dirs.items ++ filter_map (opened_by l.changes) (drop l.from l.created);
  places : All (HasPlaces (length l.table.ids.items)) l.initial.dirs.items → All (HasPlaces (length l.table.ids.items)) l.dirs.items;
  good : All IsGoodOpen l.dirs.items;
}
