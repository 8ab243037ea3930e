-- The five lists of a layer after each change.
use Rattle.std.specs.Prelude.{ℕ, ◌==◌, nat_eq, Bool, List, [], ◌∷◌, ◌++◌, slice_index_or, slice_set, Option, Some, None, if◌then◌else◌}
use Rattle.std.specs.List.{list_any}
use Rattle.std.specs.Cmp.Lexicographic.{pointwise}
use Rattle.layer.specs.declared.records.Created.{Created}
use Rattle.layer.specs.declared.records.Update.{Update}
use Rattle.layer.specs.declared.records.Constraint.{Constraint}
use Rattle.layer.specs.declared.records.Bias.{Bias}
use Rattle.layer.specs.Constraint.{since}
use Rattle.layer.specs.Layer.{LayerLists, update_place, bias_place}

-- whether the layer has created the channel
abbrev pub has_created : LayerLists → ℕ → Bool
has_created lists scid = list_any (λ channel. channel.scid == scid) lists.created

-- whether the layer disables the node
abbrev pub has_disabled : LayerLists → List ℕ → Bool
has_disabled lists node = list_any (λ other. pointwise nat_eq other node) lists.disabled

-- the given value, else the old one
abbrev pub given_or : {A : Type 0} → Option A → Option A → Option A
given_or (Some value) old = Some value
given_or None old = old

-- an update with the given fields of a change
abbrev pub merged : Update → Update → Update
merged old change = record {
  dir = old.dir;
  enabled = given_or change.enabled old.enabled;
  htlc_min = given_or change.htlc_min old.htlc_min;
  htlc_max = given_or change.htlc_max old.htlc_max;
  base = given_or change.base old.base;
  ppm = given_or change.ppm old.ppm;
  delay = given_or change.delay old.delay;
}

-- the updates with the entry at the position merged, or with one more
abbrev pub updated_at : List Update → Update → Option ℕ → List Update
updated_at updates change (Some place) = slice_set updates place (merged (slice_index_or updates place change) change)
updated_at updates change None = updates ++ change ∷ []

-- the biases with the entry at the position replaced, or with one more
abbrev pub biased_at : List Bias → Bias → Option ℕ → List Bias
biased_at biases bias (Some place) = slice_set biases place bias
biased_at biases bias None = biases ++ bias ∷ []

abbrev pub with_created : LayerLists → Created → LayerLists
with_created lists channel = record lists { created = lists.created ++ channel ∷ [] }

abbrev pub with_update : LayerLists → Update → LayerLists
with_update lists change = record lists { updates = updated_at lists.updates change (update_place lists change.dir) }

abbrev pub with_constraint : LayerLists → Constraint → LayerLists
with_constraint lists constraint = record lists { constraints = lists.constraints ++ constraint ∷ [] }

abbrev pub with_bias : LayerLists → Bias → LayerLists
with_bias lists bias = record lists { biases = biased_at lists.biases bias (bias_place lists bias.dir) }

abbrev pub with_disabled : LayerLists → List ℕ → LayerLists
with_disabled lists node = if has_disabled lists node then lists else record lists { disabled = lists.disabled ++ node ∷ [] }

-- without the constraints from before the cutoff
abbrev pub aged : LayerLists → ℕ → LayerLists
aged lists cutoff = record lists { constraints = since cutoff lists.constraints }
