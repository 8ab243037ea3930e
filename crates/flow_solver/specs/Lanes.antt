-- The directions at each node, side by side; these words serve private clauses only.
use Rattle.std.specs.Prelude.{ℕ, ◌+◌, ◌<◌, ◌≤◌, ◌≡◌, List, length, Bool, true, false, slice_index, slice_index_or}
use Rattle.flow_model.specs.declared.instance.Arc.{Arc}
use Rattle.flow_model.specs.Instance.{Net, arc_at}
use Rattle.residual_net.specs.Residual.{ResidualNet, steps_out}
use Rattle.flow_solver.specs.declared.lanes.Lane.{Lane}
use Rattle.flow_solver.specs.declared.lanes.TheConstants.{UNMADE}
use Rattle.flow_solver.specs.Heads.{HasHeads, IsHead}
use Rattle.flow_solver.specs.Search.{head_of, tail_of}

abbrev pub no_lane : Lane
no_lane = record { first = 0; other = 0; cost = 0; enters = false; used = false }

abbrev pub lane_at : List Lane → ℕ → Lane
lane_at lanes q = slice_index_or lanes q no_lane

-- the first arc of a direction, with its index in place of the direction's number
abbrev pub first_of : List Arc → ℕ → Arc
first_of arcs i = record { from = (arc_at arcs i).from; to = (arc_at arcs i).to; room = (arc_at arcs i).room; cost = (arc_at arcs i).cost; dir = i }

-- the unmarked lane of a step over a head
abbrev pub lane_of : List Arc → ℕ × Bool → Lane
lane_of heads s = record { first = (arc_at heads s.0).dir; other = head_of (arc_at heads s.0) s.1; cost = (arc_at heads s.0).cost; enters = s.1; used = false }

abbrev pub unmarked : Lane → Lane
unmarked lane = record { first = lane.first; other = lane.other; cost = lane.cost; enters = lane.enters; used = false }

-- the k-th step out of a node
abbrev pub step_of : List Arc → ℕ → ℕ → ℕ × Bool
step_of heads v k = slice_index_or (steps_out heads v) k (0, false)

-- an unmarked lane's direction carries nothing
abbrev pub IsKnown : List ℕ → Lane → Type 0
IsKnown flow lane = lane.used ≡ false → slice_index flow lane.first ≡ 0

-- the lanes of the first j steps out of a node, from this position on
pub record IsRowAt (flow : List ℕ) (heads : List Arc) (v start j : ℕ) (lanes : List Lane) : Type 0 where
  pub each : (k : ℕ) → k < j → unmarked (lane_at lanes (start + k)) ≡ lane_of heads (step_of heads v k)
  pub known : (k : ℕ) → k < j → IsKnown flow (lane_at lanes (start + k))

-- after the old lanes stand those of the first j steps out of the node
pub record IsRowTo (flow : List ℕ) (heads : List Arc) (v j : ℕ) (old new : List Lane) : Type 0 where
  pub long : length new ≡ length old + j
  pub kept : (q : ℕ) → q < length old → lane_at new q ≡ lane_at old q
  pub row : IsRowAt flow heads v (length old) j new

-- the lanes of the node are made
abbrev pub IsMade : List ℕ → ℕ → Type 0
IsMade starts v = slice_index starts v < UNMADE

-- each node has its start, and the lanes that are made are within the list
pub record HasMadeRows (heads : Net) (starts : List ℕ) (lanes : List Lane) : Type 0 where
  pub long : length starts ≡ heads.nodes
  pub most : (v : ℕ) → v < heads.nodes → IsMade starts v → slice_index starts v + length (steps_out heads.arcs v) ≤ length lanes

-- the lanes of a network's directions, as far as they are made
pub record FitsLanes (residual : ResidualNet) (heads : Net) (starts : List ℕ) (lanes : List Lane) : Type 0 where
  pub heads_are : HasHeads residual.net.arcs heads.arcs (length residual.net.arcs)
  pub nodes : heads.nodes ≡ residual.net.nodes
  pub held : HasMadeRows heads starts lanes
  pub rows : (v : ℕ) → v < heads.nodes → IsMade starts v → IsRowAt residual.flow heads.arcs v (slice_index starts v) (length (steps_out heads.arcs v)) lanes

-- the lanes at a node of a network's directions
pub record IsRow (residual : ResidualNet) (v : ℕ) (row : List Lane) : Type 0 where
  pub heads : List Arc
  pub heads_are : HasHeads residual.net.arcs heads (length residual.net.arcs)
  pub long : length row ≡ length (steps_out heads v)
  pub each : (k : ℕ) → k < length row → unmarked (lane_at row k) ≡ lane_of heads (step_of heads v k)
  pub known : (k : ℕ) → k < length row → IsKnown residual.flow (lane_at row k)

-- the lane of a direction at a node
pub record IsLaneOf (residual : ResidualNet) (v : ℕ) (lane : Lane) : Type 0 where
  pub head : IsHead residual.net.arcs (first_of residual.net.arcs lane.first)
  pub near : v ≡ tail_of (first_of residual.net.arcs lane.first) lane.enters
  pub far : lane.other ≡ head_of (first_of residual.net.arcs lane.first) lane.enters
  pub cost : lane.cost ≡ (arc_at residual.net.arcs lane.first).cost
  pub known : IsKnown residual.flow lane

-- some lanes are marked
pub record IsMarked (lanes new : List Lane) : Type 0 where
  pub long : length new ≡ length lanes
  pub same : (q : ℕ) → unmarked (lane_at new q) ≡ unmarked (lane_at lanes q)
  pub stays : (q : ℕ) → (lane_at lanes q).used ≡ true → (lane_at new q).used ≡ true

-- the lanes of a direction with this first arc, at positions from one to before another, are marked
abbrev pub IsMarkedIn : List Lane → ℕ → ℕ → ℕ → Type 0
IsMarkedIn lanes start end first = (q : ℕ) → start ≤ q → q < end → (lane_at lanes q).first ≡ first → (lane_at lanes q).used ≡ true

-- the lane at a node of a direction with this first arc is marked, if it is made
abbrev pub IsMarkedAt : List Arc → List ℕ → List Lane → ℕ → ℕ → Type 0
IsMarkedAt heads starts lanes v first = IsMade starts v → IsMarkedIn lanes (slice_index starts v) (slice_index starts v + length (steps_out heads v)) first

-- the lanes at both ends of an arc whose direction it begins are marked, if they are made
abbrev pub IsMarkedOver : List Arc → List ℕ → List Lane → Arc → ℕ → Type 0
IsMarkedOver heads starts lanes arc first = IsMarkedAt heads starts lanes arc.from first × IsMarkedAt heads starts lanes arc.to first
