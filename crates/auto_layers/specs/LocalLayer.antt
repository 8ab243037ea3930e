-- The layer of the payer's own channels.
use Rattle.std.specs.Prelude.{ℕ, ◌==◌, List, [], ◌∷◌, map, Some, if◌then◌else◌}
use Rattle.std.specs.List.{flat_map}
use Rattle.plan_base.specs.declared.amount.TheConstants.{MAX}
use Rattle.channel_map.specs.declared.edge.Edge.{Edge}
use Rattle.layer.specs.Layer.{LayerLists}
use Rattle.layer.specs.declared.records.Created.{Created}
use Rattle.layer.specs.declared.records.Update.{Update}
use Rattle.layer.specs.declared.records.Constraint.{Constraint}
use Rattle.layer.specs.declared.records.Bound.TheVariants.{Max, Min}

-- all fields of a direction
abbrev pub local_update : Edge → Update
local_update edge = record { dir = edge.dir; enabled = Some edge.enabled; htlc_min = Some edge.htlc_min; htlc_max = Some edge.htlc_max; base = Some edge.base; ppm = Some edge.ppm; delay = Some edge.delay }

-- the liquidity of an own direction is known: it is its amount
abbrev pub local_constraints : Edge → List Constraint
local_constraints edge =
    record { dir = edge.dir; bound = Max; amount = edge.capacity; moment = 0 }
    ∷ record { dir = edge.dir; bound = Min; amount = edge.capacity; moment = 0 } ∷ []

-- the channel of a direction, with the ends of the direction
abbrev pub local_channel : Edge → Created
local_channel edge = record { scid = edge.dir.scid; source = edge.source; destination = edge.destination; capacity = MAX }

-- the first direction of each channel, if directions of one channel stand together
abbrev pub after_channel : ℕ → List Edge → List Edge
after_channel scid [] = []
after_channel scid (edge ∷ edges) = if edge.dir.scid == scid then after_channel scid edges else edge ∷ after_channel edge.dir.scid edges

abbrev pub first_directions : List Edge → List Edge
first_directions [] = []
first_directions (edge ∷ edges) = edge ∷ after_channel edge.dir.scid edges

-- each channel is created; each direction has an update of all fields, and its amount as both bounds
abbrev pub local_lists : List Edge → LayerLists
local_lists edges = record { created = map local_channel (first_directions edges); updates = map local_update edges; constraints = flat_map local_constraints edges; biases = []; disabled = [] }
