-- A layer of knowledge about channels: five lists.
use Rattle.std.specs.Prelude.{ℕ, ◌+◌, ◌≤◌, List, [], length, position, All, Option}
use Rattle.plan_base.specs.Dir.{Direction, same_dir}
use Rattle.layer.specs.declared.records.Created.{Created}
use Rattle.layer.specs.declared.records.Update.{Update}
use Rattle.layer.specs.declared.records.Constraint.{Constraint}
use Rattle.layer.specs.declared.records.Bias.{Bias}
use Rattle.layer.specs.declared.records.TheConstants.{ENTRIES_MAX}
use Rattle.layer.specs.Created.{IsGoodCreated}
use Rattle.layer.specs.Update.{IsGoodUpdate}
use Rattle.layer.specs.Constraint.{IsGoodConstraint}
use Rattle.layer.specs.Bias.{IsGoodBias}

-- created channels, updates, constraints, biases and disabled nodes, each in the layer's own order
pub record LayerLists : Type 0 where
  pub created : List Created
  pub updates : List Update
  pub constraints : List Constraint
  pub biases : List Bias
  pub disabled : List (List ℕ)

abbrev pub no_lists : LayerLists
no_lists = record { created = []; updates = []; constraints = []; biases = []; disabled = [] }

-- how many entries the five lists have together
abbrev pub count_entries : LayerLists → ℕ
count_entries lists = length lists.created + length lists.updates + length lists.constraints + length lists.biases + length lists.disabled

-- the invariant of a layer: its entries are good, and there are at most ENTRIES_MAX of them
pub record IsGoodLayer (lists : LayerLists) : Type 0 where
  pub created : All IsGoodCreated lists.created
  pub updates : All IsGoodUpdate lists.updates
  pub constraints : All IsGoodConstraint lists.constraints
  pub biases : All IsGoodBias lists.biases
  pub few : count_entries lists ≤ ENTRIES_MAX

-- the position of the first update of a direction, and of its first bias
abbrev pub update_place : LayerLists → Direction → Option ℕ
update_place lists dir = position (λ change. same_dir change.dir dir) lists.updates

abbrev pub bias_place : LayerLists → Direction → Option ℕ
bias_place lists dir = position (λ bias. same_dir bias.dir dir) lists.biases
