-- Sides: a side is some of the nodes. It can show that no flow is feasible.
use Rattle.std.specs.Prelude.{ℕ, ◌<◌, ◌≡◌, List, length, sum_by, cond, not, ◌&&◌, Bool, true, false, slice_index_or}
use Rattle.flow_model.specs.declared.instance.Arc.{Arc}
use Rattle.flow_model.specs.Instance.{Net}

-- whether a node is on the side
abbrev pub on_side : List Bool → ℕ → Bool
on_side side v = slice_index_or side v false

-- the room of an arc that leaves the side
abbrev pub crossing : List Bool → Arc → ℕ
crossing side a = cond (on_side side a.from && not (on_side side a.to)) a.room 0

-- the room of the arcs that leave the side
abbrev pub room_leaving : List Bool → List Arc → ℕ
room_leaving side arcs = sum_by (crossing side) arcs

-- the side contains the source and not the destination, and the room that leaves it is less than the demand
pub record Cuts (net : Net) (side : List Bool) : Type 0 where
  pub long : length side ≡ net.nodes
  pub source_on : on_side side net.source ≡ true
  pub destination_off : on_side side net.destination ≡ false
  pub small : room_leaving side net.arcs < net.demand
