use Rattle.std.proofs.Common.{◌≡◌, ◌≤◌, ◌*◌, take}
use Rattle.std.specs.BTreeMap.{btree_map_len}
use Rattle.plan_base.specs.Dir.{Direction}
use Rattle.layer.specs.Update.{IsGoodUpdate}
use Rattle.view_build.specs.Given.{fields_at, fields_of}
use Rattle.view_build.proofs.given.given_by.Given as goal

abbrev pub invariant-loop-layer : goal.invariant-loop-layer
invariant-loop-layer l = record {
  fields : (dir : Direction) → fields_at l.map dir ≡ fields_of dir (take l.layer-index l.layers);
  good : (dir : Direction) → IsGoodUpdate (fields_at l.map dir);
  few : btree_map_len l.map ≤ 65536 * l.layer-index;
}
