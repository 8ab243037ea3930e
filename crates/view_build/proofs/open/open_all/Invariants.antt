use Rattle.std.proofs.Common.{◌≡◌, ◌≤◌, ◌++◌, All, drop, length, map}
use Rattle.std.specs.List.{filter_map}
use Rattle.view_build.specs.Built.{named_direction}
use Rattle.view_build.specs.Merged.{merged}
use Rattle.view_build.specs.Opened.{HasPlaces, IsGoodOpen, opened_by}
use Rattle.view_build.proofs.Walking.{IsPassed}
use Rattle.view_build.proofs.open.open_all.Given as goal

abbrev pub invariant-loop-i : goal.invariant-loop-i
invariant-loop-i l = record {
  named : map (named_direction l.table.ids.items) l.dirs.items ++ filter_map (opened_by l.changes) (merged (drop l.i l.edges) (drop l.next l.created))
      ≡ filter_map (opened_by l.changes) (merged l.edges l.created);
  places : All (HasPlaces (length l.table.ids.items)) l.dirs.items;
  good : All IsGoodOpen l.dirs.items;
  within : l.next ≤ length l.created;
  walked : l.at ≤ length l.changes.affected.items;
  passed : IsPassed l.changes.affected.items l.edges l.at l.i;
}
