use Rattle.std.proofs.Common.{◌≡◌, ◌≤◌, ◌+◌}
use Rattle.std.specs.BTreeMap.{btree_map_len}
use Rattle.plan_base.specs.Dir.{Direction}
use Rattle.layer.specs.Update.{IsGoodUpdate}
use Rattle.view_build.specs.First.{applied}
use Rattle.view_build.specs.Given.{fields_at, update_among, with_update}
use Rattle.view_build.proofs.given.add_updates.Given as goal

abbrev pub invariant-loop-i : goal.invariant-loop-i
invariant-loop-i l = record {
  fields : (dir : Direction) → fields_at l.map dir ≡ applied with_update (fields_at l.initial.map dir) (update_among l.i dir l.layer);
  good : (dir : Direction) → IsGoodUpdate (fields_at l.map dir);
  few : btree_map_len l.map ≤ btree_map_len l.initial.map + l.i;
}
