-- Flows: units for each arc, what is feasible, what it costs, and what is cheapest.
use Rattle.std.specs.Prelude.{ℕ, ◌+◌, ◌-◌, ◌*◌, ◌<◌, ◌≤◌, ◌≡◌, ◌≢◌, List, [], ◌∷◌, length, All, sum_by, zip, cond, nat_eq, min}
use Rattle.flow_model.specs.declared.instance.Arc.{Arc}
use Rattle.flow_model.specs.Instance.{Net}

-- each arc with the units on it
abbrev pub loads : Net → List ℕ → List (Arc × ℕ)
loads net flow = zip net.arcs flow

-- the units that leave a node, and those that enter it
abbrev pub leaving : ℕ → List (Arc × ℕ) → ℕ
leaving v ls = sum_by (λ (l : Arc × ℕ). cond (nat_eq l.0.from v) l.1 0) ls

abbrev pub entering : ℕ → List (Arc × ℕ) → ℕ
entering v ls = sum_by (λ (l : Arc × ℕ). cond (nat_eq l.0.to v) l.1 0) ls

-- each arc carries from 0 to its room
abbrev pub Fits : Net → List ℕ → Type 0
Fits net flow = All (λ (l : Arc × ℕ). l.1 ≤ l.0.room) (loads net flow)

-- the flow sends this many units from the source to the destination: it has one number for each arc, within its room;
-- what enters any other node leaves it, and this many more units leave the source than enter it
pub record Sends (net : Net) (flow : List ℕ) (units : ℕ) : Type 0 where
  pub long : length flow ≡ length net.arcs
  pub fits : Fits net flow
  pub kept : (v : ℕ) → v < net.nodes → v ≢ net.source → v ≢ net.destination → leaving v (loads net flow) ≡ entering v (loads net flow)
  pub sent : leaving net.source (loads net flow) ≡ entering net.source (loads net flow) + units

-- a feasible flow sends the demand
abbrev pub IsFeasible : Net → List ℕ → Type 0
IsFeasible net flow = Sends net flow net.demand

abbrev pub cost_of : Net → List ℕ → ℕ
cost_of net flow = sum_by (λ (l : Arc × ℕ). l.1 * l.0.cost) (loads net flow)

-- no feasible flow costs less
pub record IsCheapest (net : Net) (flow : List ℕ) : Type 0 where
  pub feasible : IsFeasible net flow
  pub least : (other : List ℕ) → IsFeasible net other → cost_of net flow ≤ cost_of net other

-- the units that a direction's arcs carry, and the room that they have
abbrev pub units_of : ℕ → List (Arc × ℕ) → ℕ
units_of dir ls = sum_by (λ (l : Arc × ℕ). cond (nat_eq l.0.dir dir) l.1 0) ls

abbrev pub room_of : ℕ → List Arc → ℕ
room_of dir arcs = sum_by (λ (a : Arc). cond (nat_eq a.dir dir) a.room 0) arcs

-- the flow that fills each direction's units into its arcs in order: an arc takes what its room holds, and leaves the
-- rest to the later arcs of its direction
abbrev pub flow_of : (ℕ → ℕ) → List Arc → List ℕ
flow_of units [] = []
flow_of units (a ∷ arcs) = min a.room (units a.dir) ∷ flow_of (λ dir. units dir - cond (nat_eq a.dir dir) (min a.room (units a.dir)) 0) arcs

-- the flow is the one that fills its own directions' units in order
abbrev pub IsFilledInOrder : Net → List ℕ → Type 0
IsFilledInOrder net flow = flow ≡ flow_of (λ dir. units_of dir (loads net flow)) net.arcs

-- if the later of two arcs of one direction carries anything, the earlier one is full
abbrev pub FillsFirst : Arc × ℕ → Arc × ℕ → Type 0
FillsFirst l m = l.0.dir ≡ m.0.dir → 0 < m.1 → l.1 ≡ l.0.room
