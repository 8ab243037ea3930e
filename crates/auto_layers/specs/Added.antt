-- Serves private clauses only: what one direction adds to the layer of the payer's own channels.
use Rattle.std.specs.Prelude.{ℕ, ◌==◌, List, [], ◌∷◌, ◌++◌, Bool, false, cond, Option, Some, None}
use Rattle.channel_map.specs.declared.edge.Edge.{Edge}
use Rattle.layer.specs.Layer.{LayerLists}
use Rattle.layer.specs.declared.records.Bound.{Bound}
use Rattle.auto_layers.specs.LocalLayer.{local_channel, local_update, local_constraints}

-- whether the direction is one of the channel
abbrev pub is_channel : Option ℕ → Edge → Bool
is_channel None edge = false
is_channel (Some scid) edge = edge.dir.scid == scid

-- the channel of the last direction, or that of before
abbrev pub last_channel : Option ℕ → List Edge → Option ℕ
last_channel last [] = last
last_channel last (edge ∷ edges) = last_channel (Some edge.dir.scid) edges

abbrev pub with_channel : LayerLists → Edge → LayerLists
with_channel lists edge = record lists { created = lists.created ++ local_channel edge ∷ [] }

abbrev pub with_bound : LayerLists → Edge → Bound → LayerLists
with_bound lists edge bound = record lists { constraints = lists.constraints ++ record { dir = edge.dir; bound = bound; amount = edge.capacity; moment = 0 } ∷ [] }

abbrev pub with_direction : LayerLists → Edge → LayerLists
with_direction lists edge = record lists { updates = lists.updates ++ local_update edge ∷ []; constraints = lists.constraints ++ local_constraints edge }

-- the first direction of a channel creates the channel
abbrev pub with_edge : LayerLists → Option ℕ → Edge → LayerLists
with_edge lists last edge = with_direction (cond (is_channel last edge) lists (with_channel lists edge)) edge
