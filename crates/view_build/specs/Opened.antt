-- Serves private clauses only: directions as they are in a view, before their ends are numbered.
use Rattle.std.specs.Prelude.{◌≡◌, ◌≢◌, ℕ, ◌-◌, ◌*◌, ◌^◌, ◌++◌, ◌<◌, ◌≤◌, ◌≤ℤ◌, ◌&&◌, min, nat_eq, not, true, length, map, All, List, Bool, false, Option, Some, None, cond, unwrap_or}
use Rattle.std.specs.List.{Contains, filter_map, find, list_any}
use Rattle.std.specs.Option.{is_some, option_and_then, option_or}
use Rattle.std.specs.List.Sorted.{IsStrictlySortedBy}
use Rattle.std.specs.Ordering.{nat_cmp}
use Rattle.std.specs.Cmp.Lexicographic.{pointwise, slice_cmp}
use Rattle.plan_base.specs.declared.amount.TheConstants.{MAX}
use Rattle.plan_base.specs.Dir.{Direction, same_dir, dir_order}
use Rattle.channel_map.specs.declared.edge.Edge.{Edge}
use Rattle.channel_map.specs.declared.nodes.Ends.{Ends}
use Rattle.channel_map.specs.Edge.{IsAscending}
use Rattle.channel_map.specs.Listed.{edge_for}
use Rattle.layer.specs.Update.{IsGoodUpdate}
use Rattle.layer.specs.declared.records.Update.{Update}
use Rattle.layer.specs.declared.records.TheConstants.{BIAS_MIN, BIAS_MAX}
use Rattle.view_build.specs.declared.view.TheConstants.{DIRECTIONS_MAX}
use Rattle.view_build.specs.declared.known.Known.{Known}
use Rattle.view_build.specs.declared.open.Changes.{Changes}
use Rattle.view_build.specs.declared.open.Place.{Place}
use Rattle.view_build.specs.declared.view.ViewDir.{ViewDir}
use Rattle.view_build.specs.View.{IsGoodViewDir}
use Rattle.view_build.specs.Built.{ViewSources, OpenDirection, IsTouched, named_direction, if_open, direction_rule, is_free, cut_bias}
use Rattle.view_build.specs.Disabled.{has_node}
use Rattle.view_build.specs.Given.{fields_at, fields_of, no_fields}
use Rattle.view_build.specs.Known.{known_at, known_of, unknown}
use Rattle.view_build.specs.Rules.{changed_edge, is_disabled}

-- the direction between two places
abbrev pub placed : Ends → OpenDirection → ViewDir
placed ends o = record {
  dir = o.dir;
  from = ends.from;
  to = ends.to;
  min = o.min;
  max = o.max;
  htlc_min = o.htlc_min;
  htlc_max = o.htlc_max;
  base = o.base;
  ppm = o.ppm;
  delay = o.delay;
  bias = o.bias;
}

-- what the view has for a direction of the map, or for one that a layer creates
abbrev pub opened : ViewSources → Edge → Option OpenDirection
opened sources edge = if_open sources (changed_edge sources.layers (is_free sources.ask edge) edge)

-- whether a direction leaves the node
abbrev pub leaves : Option (List ℕ) → Edge → Bool
leaves None edge = false
leaves (Some node) edge = pointwise nat_eq edge.source node

-- the direction as given fields, what is known, and a free source have it
abbrev pub changed : Update → Known → Bool → Edge → OpenDirection
changed fields known free edge = record {
  dir = edge.dir;
  source = edge.source;
  destination = edge.destination;
  min = min known.minimum (min edge.capacity known.maximum) - known.reserved;
  max = min edge.capacity known.maximum - known.reserved;
  htlc_min = unwrap_or fields.htlc_min edge.htlc_min;
  htlc_max = unwrap_or fields.htlc_max edge.htlc_max;
  base = cond free 0 (unwrap_or fields.base edge.base);
  ppm = cond free 0 (unwrap_or fields.ppm edge.ppm);
  delay = cond free 0 (unwrap_or fields.delay edge.delay);
  bias = cut_bias known.bias;
}

abbrev pub is_usable : Changes → Update → Edge → Bool
is_usable changes fields edge = unwrap_or fields.enabled edge.enabled && not (has_node changes.disabled edge.source) && not (has_node changes.disabled edge.destination)

-- the direction as given fields and what is known have it, unless it is not usable
abbrev pub opened_with : Changes → Update → Known → Edge → Option OpenDirection
opened_with changes fields known edge = cond (is_usable changes fields edge) (Some (changed fields known (leaves changes.free_source edge) edge)) None

-- the direction as the changes have it, unless they leave it out
abbrev pub opened_by : Changes → Edge → Option OpenDirection
opened_by changes edge = opened_with changes (fields_at changes.given edge.dir) (known_at changes.known edge.dir) edge

-- the marks are those of the ends of the direction
pub record IsPlaceOf (changes : Changes) (edge : Edge) (place : Place) : Type 0 where
  pub source : place.source_disabled ≡ has_node changes.disabled edge.source
  pub destination : place.destination_disabled ≡ has_node changes.disabled edge.destination

-- the affected directions ascend, and nothing is said of any other one
pub record AreAffected (changes : Changes) : Type 0 where
  pub ascend : IsStrictlySortedBy dir_order changes.affected.items
  pub given : (dir : Direction) → list_any (same_dir dir) changes.affected.items ≡ false → fields_at changes.given dir ≡ no_fields dir
  pub known : (dir : Direction) → list_any (same_dir dir) changes.affected.items ≡ false → known_at changes.known dir ≡ unknown

-- the changes are those of the layers and reservations of a view
pub record AreChangesOf (sources : ViewSources) (changes : Changes) : Type 0 where
  pub given : (dir : Direction) → fields_at changes.given dir ≡ fields_of dir sources.layers
  pub known : (dir : Direction) → known_at changes.known dir ≡ known_of dir sources.layers sources.held
  pub disabled : (node : List ℕ) → has_node changes.disabled node ≡ is_disabled node sources.layers
  pub free : (edge : Edge) → leaves changes.free_source edge ≡ is_free sources.ask edge

-- the fields of the changes are amounts
abbrev pub AreGoodChanges : Changes → Type 0
AreGoodChanges changes = (dir : Direction) → IsGoodUpdate (fields_at changes.given dir)

-- its bounds, and the amounts of an HTLC, are amounts, and its bias is in range
pub record IsGoodOpen (d : ViewDir) : Type 0 where
  pub side : d.dir.side < 2
  pub bounds : d.min ≤ d.max
  pub most : d.max ≤ MAX
  pub htlc_min : d.htlc_min ≤ MAX
  pub htlc_max : d.htlc_max ≤ MAX
  pub base : d.base < 2 ^ 32
  pub ppm : d.ppm < 2 ^ 32
  pub delay : d.delay < 2 ^ 16
  pub bias_low : BIAS_MIN ≤ℤ d.bias
  pub bias_high : d.bias ≤ℤ BIAS_MAX

-- between two of so many nodes
pub record HasPlaces (nodes : ℕ) (d : ViewDir) : Type 0 where
  pub from : d.from < nodes
  pub to : d.to < nodes
  pub apart : d.from ≢ d.to

-- the directions `new` are `old` and those that a rule keeps of `edges`, with their ends at places among the ids
pub record Opens (ids : List (List ℕ)) (rule : Edge → Option OpenDirection) (edges : List Edge) (old new : List ViewDir) : Type 0 where
  pub named : map (named_direction ids) new ≡ map (named_direction ids) old ++ filter_map rule edges
  pub places : All (HasPlaces (length ids)) old → All (HasPlaces (length ids)) new

-- the created directions that the map lacks and a layer enables, in their order: with those of the map they are all that
-- a view can have
pub record AreCreated (sources : ViewSources) (created : List Edge) : Type 0 where
  pub ascending : IsAscending created
  pub apart : (dir : Direction) → is_some (edge_for dir sources.channels) ≡ true → edge_for dir created ≡ None
  pub ruled : (dir : Direction) → option_and_then (opened sources) (option_or (edge_for dir sources.channels) (edge_for dir created)) ≡ direction_rule sources dir

-- these are the directions of a view, in their order
pub record IsOpened (sources : ViewSources) (directions : List OpenDirection) : Type 0 where
  pub each : (dir : Direction) → find (λ (o : OpenDirection). same_dir o.dir dir) directions ≡ direction_rule sources dir
  pub ascending : IsStrictlySortedBy dir_order (map (λ (o : OpenDirection). o.dir) directions)
  pub few : length directions ≤ DIRECTIONS_MAX

-- these are the nodes and the directions of a view
pub record AreDirections (sources : ViewSources) (nodes : List (List ℕ)) (dirs : List ViewDir) : Type 0 where
  pub opened : IsOpened sources (map (named_direction nodes) dirs)
  pub good : All (IsGoodViewDir (length nodes)) dirs
  pub ascend : IsStrictlySortedBy (slice_cmp nat_cmp) nodes
  pub few : length nodes ≤ 2 * length dirs
  pub only : All (IsTouched sources) nodes
  pub all : (node : List ℕ) → IsTouched sources node → Contains nodes node
