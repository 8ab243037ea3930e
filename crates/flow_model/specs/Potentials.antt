-- Potentials, one number for each node, which show that a flow is cheapest.
use Rattle.std.specs.Prelude.{ℕ, ◌<◌, ◌≡◌, List, length, All, slice_index_or, ℤ, pos, ◌+ℤ◌, ◌-ℤ◌, ◌≤ℤ◌}
use Rattle.flow_model.specs.declared.limits.TheConstants.{POTENTIAL_MAX}
use Rattle.flow_model.specs.declared.instance.Arc.{Arc}
use Rattle.flow_model.specs.Instance.{Net}
use Rattle.flow_model.specs.Flow.{loads, IsFeasible}

-- the reduced cost of an arc: its cost and the potential of its start, less the potential of its end
abbrev pub reduced_cost : List ℤ → Arc → ℤ
reduced_cost p a = pos a.cost +ℤ slice_index_or p a.from (pos 0) -ℤ slice_index_or p a.to (pos 0)

-- an arc with room left has no reduced cost below 0, and one with units none above 0
abbrev pub IsShown : List ℤ → Arc × ℕ → Type 0
IsShown p l = (l.1 < l.0.room → pos 0 ≤ℤ reduced_cost p l.0) × (0 < l.1 → reduced_cost p l.0 ≤ℤ pos 0)

-- the flow is feasible, and the potentials show each of its arcs
pub record ShowsCheapest (net : Net) (flow : List ℕ) (p : List ℤ) : Type 0 where
  pub long : length p ≡ net.nodes
  pub feasible : IsFeasible net flow
  pub shown : All (IsShown p) (loads net flow)

-- at most POTENTIAL_MAX in absolute value
abbrev pub IsSmall : ℤ → Type 0
IsSmall p = ((pos 0 -ℤ pos POTENTIAL_MAX) ≤ℤ p) × (p ≤ℤ pos POTENTIAL_MAX)
