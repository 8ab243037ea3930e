-- The view of an ask: what is in it, direction by direction.
use Rattle.std.specs.Prelude.{◌≡◌, ℕ, ◌-◌, ◌<◌, ◌&&◌, ◌⊎◌, ℤ, List, [], map, All, nat_eq, slice_index_or, Bool, not, Option, Some, None, option_map, cond}
use Rattle.std.specs.List.{find}
use Rattle.std.specs.List.Sorted.{IsStrictlySortedBy}
use Rattle.std.specs.Option.{option_and_then}
use Rattle.std.specs.Ordering.{nat_cmp, int_cmp, ord_clamp}
use Rattle.std.specs.Cmp.Lexicographic.{pointwise, slice_cmp}
use Rattle.plan_base.specs.Dir.{Direction, same_dir, dir_order}
use Rattle.plan_base.specs.declared.held.Reservation.{Reservation}
use Rattle.reservations.specs.Reserved.{reserved_on}
use Rattle.channel_map.specs.declared.edge.Edge.{Edge}
use Rattle.layer.specs.Layer.{LayerLists}
use Rattle.layer.specs.Snapshot.{SnapshotParts}
use Rattle.layer.specs.Ask.{asks_for}
use Rattle.layer.specs.declared.ask.Ask.{Ask}
use Rattle.layer.specs.declared.ask.Auto.TheVariants.{SourceFree, NoMpp}
use Rattle.layer.specs.declared.records.TheConstants.{BIAS_MIN, BIAS_MAX}
use Rattle.auto_layers.specs.LocalLayer.{local_lists}
use Rattle.auto_layers.specs.Expanded.{expanded_layers}
use Rattle.view_build.specs.declared.view.ViewDir.{ViewDir}
use Rattle.view_build.specs.declared.fault.ViewFault.{ViewFault}
use Rattle.view_build.specs.declared.fault.ViewFault.TheVariants.{SourceUnknown, DestinationUnknown, NoMemory}
use Rattle.view_build.specs.View.{ViewParts}
use Rattle.view_build.specs.Rules.{base_edge, changed_edge, known_maximum, known_minimum, sum_of_biases, is_disabled}

-- what a view is made of: the map, the ask, the layers in the order asked with the local layer at its place, and the
-- reservations
pub record ViewSources : Type 0 where
  pub channels : List Edge
  pub ask : Ask
  pub layers : List LayerLists
  pub held : List Reservation

abbrev pub sources_of : List Edge → List Edge → SnapshotParts → ViewSources
sources_of channels local snapshot = record {
  channels = channels;
  ask = snapshot.ask;
  layers = expanded_layers (local_lists local) snapshot.ask.layers snapshot.layers;
  held = snapshot.held;
}

-- a direction that an ask may use: its ends, what it can carry surely and at most, the amounts of an HTLC, fees, delay
-- and bias
pub record OpenDirection : Type 0 where
  pub dir : Direction
  pub source : List ℕ
  pub destination : List ℕ
  pub min : ℕ
  pub max : ℕ
  pub htlc_min : ℕ
  pub htlc_max : ℕ
  pub base : ℕ
  pub ppm : ℕ
  pub delay : ℕ
  pub bias : ℤ

-- the bias in range
abbrev pub cut_bias : ℤ → ℤ
cut_bias bias = ord_clamp int_cmp bias BIAS_MIN BIAS_MAX

-- a direction with the fields that the layers give, with its bounds less what is reserved on it, and with its bias
abbrev pub open_direction : ViewSources → Edge → OpenDirection
open_direction sources edge = record {
  dir = edge.dir;
  source = edge.source;
  destination = edge.destination;
  min = known_minimum sources.layers edge - reserved_on edge.dir sources.held;
  max = known_maximum sources.layers edge - reserved_on edge.dir sources.held;
  htlc_min = edge.htlc_min;
  htlc_max = edge.htlc_max;
  base = edge.base;
  ppm = edge.ppm;
  delay = edge.delay;
  bias = cut_bias (sum_of_biases edge.dir sources.layers);
}

-- enabled, and no layer disables an end
abbrev pub is_open : ViewSources → Edge → Bool
is_open sources edge = edge.enabled && not (is_disabled edge.source sources.layers) && not (is_disabled edge.destination sources.layers)

abbrev pub if_open : ViewSources → Edge → Option OpenDirection
if_open sources edge = cond (is_open sources edge) (Some (open_direction sources edge)) None

-- whether the direction leaves the source of an ask for free
abbrev pub is_free : Ask → Edge → Bool
is_free ask edge = asks_for SourceFree ask.layers && pointwise nat_eq edge.source ask.source

-- what the view has for a direction: None if the direction is not in it
abbrev pub direction_rule : ViewSources → Direction → Option OpenDirection
direction_rule sources dir = option_and_then (λ (edge : Edge). if_open sources (changed_edge sources.layers (is_free sources.ask edge) edge)) (base_edge sources.channels sources.layers dir)

-- the direction is in the view, and the node is one of its ends
pub record IsEndOf (sources : ViewSources) (node : List ℕ) (dir : Direction) : Type 0 where
  pub direction : OpenDirection
  pub side : dir.side < 2
  pub listed : direction_rule sources dir ≡ Some direction
  pub ends : (direction.source ≡ node) ⊎ (direction.destination ≡ node)

-- some direction of the view touches the node
pub record IsTouched (sources : ViewSources) (node : List ℕ) : Type 0 where
  pub dir : Direction
  pub is_end : IsEndOf sources node dir

-- a direction of a view, with the ids of its ends
abbrev pub named_direction : List (List ℕ) → ViewDir → OpenDirection
named_direction nodes d = record {
  dir = d.dir;
  source = slice_index_or nodes d.from [];
  destination = slice_index_or nodes d.to [];
  min = d.min;
  max = d.max;
  htlc_min = d.htlc_min;
  htlc_max = d.htlc_max;
  base = d.base;
  ppm = d.ppm;
  delay = d.delay;
  bias = d.bias;
}

-- the view of these sources: for each direction what its rule says; directions and nodes ascend, each node is an end, and
-- with `auto.no_mpp_support` there is one part alone
pub record IsView (sources : ViewSources) (view : ViewParts) : Type 0 where
  pub each : (dir : Direction) → dir.side < 2 → option_map (named_direction view.nodes) (find (λ (d : ViewDir). same_dir d.dir dir) view.dirs) ≡ direction_rule sources dir
  pub ascending : IsStrictlySortedBy dir_order (map (λ (d : ViewDir). d.dir) view.dirs)
  pub nodes_ascend : IsStrictlySortedBy (slice_cmp nat_cmp) view.nodes
  pub touched : All (IsTouched sources) view.nodes
  pub source_is : slice_index_or view.nodes view.source [] ≡ sources.ask.source
  pub destination_is : slice_index_or view.nodes view.destination [] ≡ sources.ask.destination
  pub maxparts_is : view.maxparts ≡ cond (asks_for NoMpp sources.ask.layers) 1 sources.ask.maxparts

-- why there is no view: no direction touches the source, or none touches the destination, tried in this order
abbrev pub IsViewFault : ViewSources → ViewFault → Type 0
IsViewFault sources SourceUnknown = ¬ (IsTouched sources sources.ask.source)
IsViewFault sources DestinationUnknown = IsTouched sources sources.ask.source × ¬ (IsTouched sources sources.ask.destination)
IsViewFault sources NoMemory = Unit {0}
