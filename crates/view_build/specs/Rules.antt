-- How the layers of an ask change a direction of the map. One rule for each fact of a direction.
use Rattle.std.specs.Prelude.{ℕ, ◌==◌, ◌&&◌, not, ℤ, pos, ◌+ℤ◌, List, [], ◌∷◌, nat_eq, min, max, Bool, true, false, Option, None, option_map, unwrap_or, cond}
use Rattle.std.specs.List.{find, flat_map, list_any}
use Rattle.std.specs.Option.{option_or, option_and_then}
use Rattle.std.specs.Cmp.Lexicographic.{pointwise}
use Rattle.plan_base.specs.Dir.{Direction, same_dir}
use Rattle.channel_map.specs.declared.edge.Edge.{Edge}
use Rattle.channel_map.specs.Edge.{side_between}
use Rattle.channel_map.specs.Listed.{edge_for}
use Rattle.layer.specs.Layer.{LayerLists}
use Rattle.layer.specs.declared.records.Created.{Created}
use Rattle.layer.specs.declared.records.Update.{Update}
use Rattle.layer.specs.declared.records.Bias.{Bias}
use Rattle.layer.specs.declared.records.Constraint.{Constraint}
use Rattle.layer.specs.declared.records.Bound.{Bound}
use Rattle.layer.specs.declared.records.Bound.TheVariants.{Max, Min}

-- ---- where a direction comes from

-- the channel as the first layer creates it, in the order asked
abbrev pub created_in : ℕ → LayerLists → Option Created
created_in scid lists = find (λ (channel : Created). channel.scid == scid) lists.created

abbrev pub first_created : ℕ → List LayerLists → Option Created
first_created scid [] = None
first_created scid (lists ∷ layers) = option_or (created_in scid lists) (first_created scid layers)

-- whether the direction of this side leads from the channel's source
abbrev pub leads_along : Created → ℕ → Bool
leads_along channel side = side == side_between channel.source channel.destination

-- a direction of a created channel: disabled, free, for any amount up to the capacity
abbrev pub created_edge : ℕ → Created → Edge
created_edge side channel = record {
  dir = record { scid = channel.scid; side = side };
  source = cond (leads_along channel side) channel.source channel.destination;
  destination = cond (leads_along channel side) channel.destination channel.source;
  capacity = channel.capacity;
  htlc_min = 0;
  htlc_max = channel.capacity;
  base = 0;
  ppm = 0;
  delay = 0;
  enabled = false;
}

-- the map's direction; if the map lacks it, that of the channel as a layer creates it
abbrev pub base_edge : List Edge → List LayerLists → Direction → Option Edge
base_edge map layers dir = option_or (edge_for dir map) (option_map (created_edge dir.side) (first_created dir.scid layers))

-- ---- fields

-- a layer's update of a direction
abbrev pub update_in : Direction → LayerLists → Option Update
update_in dir lists = find (λ (change : Update). same_dir change.dir dir) lists.updates

-- what the last layer gives whose update of the direction has the field
abbrev pub given : {A : Type 0} → (Update → Option A) → Direction → List LayerLists → Option A
given field dir [] = None
given field dir (lists ∷ layers) = option_or (given field dir layers) (option_and_then field (update_in dir lists))

abbrev pub given_or : {A : Type 0} → (Update → Option A) → Direction → List LayerLists → A → A
given_or field dir layers base = unwrap_or (given field dir layers) base

-- the direction with the fields that the layers give; a direction that leaves the source is free if the ask wants that
abbrev pub changed_edge : List LayerLists → Bool → Edge → Edge
changed_edge layers free edge = record {
  dir = edge.dir;
  source = edge.source;
  destination = edge.destination;
  capacity = edge.capacity;
  htlc_min = given_or (λ change. change.htlc_min) edge.dir layers edge.htlc_min;
  htlc_max = given_or (λ change. change.htlc_max) edge.dir layers edge.htlc_max;
  base = cond free 0 (given_or (λ change. change.base) edge.dir layers edge.base);
  ppm = cond free 0 (given_or (λ change. change.ppm) edge.dir layers edge.ppm);
  delay = cond free 0 (given_or (λ change. change.delay) edge.dir layers edge.delay);
  enabled = given_or (λ change. change.enabled) edge.dir layers edge.enabled;
}

-- ---- liquidity

abbrev pub all_constraints : List LayerLists → List Constraint
all_constraints layers = flat_map (λ (lists : LayerLists). lists.constraints) layers

abbrev pub is_maximum : Bound → Bool
is_maximum Max = true
is_maximum Min = false

-- the amount and all maximum constraints of the direction: the least of them
abbrev pub least_bound : Direction → ℕ → List Constraint → ℕ
least_bound dir amount [] = amount
least_bound dir amount (c ∷ cs) = min (cond (same_dir c.dir dir && is_maximum c.bound) c.amount amount) (least_bound dir amount cs)

-- 0 and all minimum constraints of the direction: the greatest of them
abbrev pub greatest_bound : Direction → List Constraint → ℕ
greatest_bound dir [] = 0
greatest_bound dir (c ∷ cs) = max (cond (same_dir c.dir dir && not (is_maximum c.bound)) c.amount 0) (greatest_bound dir cs)

-- what the direction can carry at most, and what it can carry surely, before reservations
abbrev pub known_maximum : List LayerLists → Edge → ℕ
known_maximum layers edge = least_bound edge.dir edge.capacity (all_constraints layers)

abbrev pub known_minimum : List LayerLists → Edge → ℕ
known_minimum layers edge = min (greatest_bound edge.dir (all_constraints layers)) (known_maximum layers edge)

-- ---- bias

-- a layer's bias of a direction, in percent
abbrev pub bias_in : Direction → LayerLists → ℤ
bias_in dir lists = unwrap_or (option_map (λ (b : Bias). b.bias) (find (λ (b : Bias). same_dir b.dir dir) lists.biases)) (pos 0)

abbrev pub sum_of_biases : Direction → List LayerLists → ℤ
sum_of_biases dir [] = pos 0
sum_of_biases dir (lists ∷ layers) = bias_in dir lists +ℤ sum_of_biases dir layers

-- ---- disabled nodes

abbrev pub is_disabled : List ℕ → List LayerLists → Bool
is_disabled node layers = list_any (λ (lists : LayerLists). list_any (pointwise nat_eq node) lists.disabled) layers
