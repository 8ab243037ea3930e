-- Residual networks: an instance with units on its arcs. Steps over arcs, the room that they have, the steps out of a
-- node, and what a push along steps changes.
use Rattle.std.specs.Prelude.{ℕ, ◌+◌, ◌-◌, ◌≤◌, ◌<◌, ◌≡◌, ◌≢◌, List, [], ◌∷◌, ◌++◌, length, AllPairs, Bool, true, false, cond, nat_eq, slice_index, slice_index_or, set}
use Rattle.flow_model.specs.declared.instance.Arc.{Arc}
use Rattle.flow_model.specs.Instance.{Net, IsInstance, arc_at}
use Rattle.flow_model.specs.Flow.{Fits}

-- an instance, and the units on each of its arcs
pub record ResidualNet : Type 0 where
  pub net : Net
  pub flow : List ℕ

-- what each residual network keeps: one number for each arc, within the arc's room
pub record IsResidualNet (residual : ResidualNet) : Type 0 where
  pub good : IsInstance residual.net
  pub long : length residual.flow ≡ length residual.net.arcs
  pub fits : Fits residual.net residual.flow

-- the room of a step over an arc that carries these units: forward what the arc can still take, backward what it carries
abbrev pub room_left : Arc → Bool → ℕ → ℕ
room_left a back units = cond back units (a.room - units)

-- the units on an arc after a step forward or backward
abbrev pub units_after : ℕ → ℕ → Bool → ℕ
units_after units amount back = cond back (units - amount) (units + amount)

-- the flow after a push of an amount along steps
abbrev pub flow_after : List ℕ → ℕ → List (ℕ × Bool) → List ℕ
flow_after flow amount [] = flow
flow_after flow amount (s ∷ path) = flow_after (set flow s.0 (units_after (slice_index flow s.0) amount s.1)) amount path

-- the step's arc exists, and the step has room for the amount
abbrev pub HasRoomFor : List Arc → List ℕ → ℕ → ℕ × Bool → Type 0
HasRoomFor arcs flow amount s = (s.0 < length arcs) × (amount ≤ room_left (arc_at arcs s.0) s.1 (slice_index flow s.0))

-- no arc is repeated
abbrev pub HasDistinctArcs : List (ℕ × Bool) → Type 0
HasDistinctArcs path = AllPairs (λ (s t : ℕ × Bool). s.0 ≢ t.0) path

-- the steps out of a node over arcs, the first of which has this index: forward over an arc that leaves the node,
-- backward over one that enters it
abbrev pub steps_from : ℕ → List Arc → ℕ → List (ℕ × Bool)
steps_from i [] node = []
steps_from i (a ∷ arcs) node = cond (nat_eq a.from node) ((i, false) ∷ []) [] ++ (cond (nat_eq a.to node) ((i, true) ∷ []) [] ++ steps_from (i + 1) arcs node)

-- the steps out of a node, in ascending order of arc
abbrev pub steps_out : List Arc → ℕ → List (ℕ × Bool)
steps_out arcs node = steps_from 0 arcs node
