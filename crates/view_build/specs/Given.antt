-- Serves private clauses only: the fields that layers give, by direction.
use Rattle.std.specs.Prelude.{ℕ, List, take, Option, None, unwrap_or}
use Rattle.std.specs.List.{find}
use Rattle.std.specs.Option.{option_or}
use Rattle.std.specs.BTreeMap.{BTreeMap, get}
use Rattle.plan_base.specs.Dir.{Direction, same_dir, dir_order}
use Rattle.layer.specs.Layer.{LayerLists}
use Rattle.layer.specs.declared.records.Update.{Update}
use Rattle.view_build.specs.Rules.{given}

abbrev pub no_fields : Direction → Update
no_fields dir = record { dir = dir; enabled = None; htlc_min = None; htlc_max = None; base = None; ppm = None; delay = None }

-- what a map has for a direction
abbrev pub fields_at : BTreeMap Direction Update → Direction → Update
fields_at map dir = unwrap_or (get dir_order map dir) (no_fields dir)

-- what layers give for a direction
abbrev pub fields_of : Direction → List LayerLists → Update
fields_of dir layers = record {
  dir = dir;
  enabled = given (λ change. change.enabled) dir layers;
  htlc_min = given (λ change. change.htlc_min) dir layers;
  htlc_max = given (λ change. change.htlc_max) dir layers;
  base = given (λ change. change.base) dir layers;
  ppm = given (λ change. change.ppm) dir layers;
  delay = given (λ change. change.delay) dir layers;
}

-- the fields of before, and those that a later update has
abbrev pub with_update : Update → Update → Update
with_update before change = record {
  dir = before.dir;
  enabled = option_or change.enabled before.enabled;
  htlc_min = option_or change.htlc_min before.htlc_min;
  htlc_max = option_or change.htlc_max before.htlc_max;
  base = option_or change.base before.base;
  ppm = option_or change.ppm before.ppm;
  delay = option_or change.delay before.delay;
}

-- the first of so many updates of a layer that is of the direction
abbrev pub update_among : ℕ → Direction → LayerLists → Option Update
update_among n dir lists = find (λ (change : Update). same_dir change.dir dir) (take n lists.updates)
