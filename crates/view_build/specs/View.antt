-- Views: the directions that an ask may use, with numbered ends.
use Rattle.std.specs.Prelude.{◌≢◌, ℕ, ◌*◌, ◌^◌, ◌<◌, ◌≤◌, ◌≤ℤ◌, List, length, map, All}
use Rattle.std.specs.List.Sorted.{IsStrictlySortedBy}
use Rattle.plan_base.specs.declared.amount.TheConstants.{MAX}
use Rattle.plan_base.specs.Dir.{dir_order}
use Rattle.layer.specs.declared.records.TheConstants.{BIAS_MIN, BIAS_MAX}
use Rattle.layer.specs.declared.ask.TheConstants.{PARTS_MAX}
use Rattle.view_build.specs.declared.view.TheConstants.{DIRECTIONS_MAX}
use Rattle.view_build.specs.declared.view.ViewDir.{ViewDir}

-- the ids of the nodes, the directions, the places of the source and of the destination among the nodes, and the most
-- parts
pub record ViewParts : Type 0 where
  pub nodes : List (List ℕ)
  pub dirs : List ViewDir
  pub source : ℕ
  pub destination : ℕ
  pub maxparts : ℕ

-- a direction between two of so many nodes; its bounds, and the amounts of an HTLC, are amounts, and its bias is in range
pub record IsGoodViewDir (nodes : ℕ) (d : ViewDir) : Type 0 where
  pub from_in : d.from < nodes
  pub to_in : d.to < nodes
  pub apart : d.from ≢ d.to
  pub bounds : d.min ≤ d.max
  pub most : d.max ≤ MAX
  pub htlc_min : d.htlc_min ≤ MAX
  pub htlc_max : d.htlc_max ≤ MAX
  pub base : d.base < 2 ^ 32
  pub ppm : d.ppm < 2 ^ 32
  pub delay : d.delay < 2 ^ 16
  pub bias_low : BIAS_MIN ≤ℤ d.bias
  pub bias_high : d.bias ≤ℤ BIAS_MAX

-- the invariant of a view: directions ascend, no two of them equal; the source and the destination are two of the nodes
pub record IsGoodView (view : ViewParts) : Type 0 where
  pub few_dirs : length view.dirs ≤ DIRECTIONS_MAX
  pub few_nodes : length view.nodes ≤ 2 * length view.dirs
  pub ascending : IsStrictlySortedBy dir_order (map (λ (d : ViewDir). d.dir) view.dirs)
  pub good : All (IsGoodViewDir (length view.nodes)) view.dirs
  pub source_in : view.source < length view.nodes
  pub destination_in : view.destination < length view.nodes
  pub ends_differ : view.source ≢ view.destination
  pub some_parts : 1 ≤ view.maxparts
  pub few_parts : view.maxparts ≤ PARTS_MAX
