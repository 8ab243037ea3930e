-- The problem: a network with rooms and costs, and a demand that is to be sent through it.
use Rattle.std.specs.Prelude.{ℕ, ◌^◌, ◌<◌, ◌≤◌, ◌≡◌, ◌≢◌, List, length, All, AllPairs, slice_index_or}
use Rattle.plan_base.specs.declared.amount.TheConstants.{MAX}
use Rattle.flow_model.specs.declared.limits.TheConstants.{NODES_MAX, ARCS_MAX, COST_MAX}
use Rattle.flow_model.specs.declared.instance.Arc.{Arc}

pub record Net : Type 0 where
  pub nodes : ℕ
  pub source : ℕ
  pub destination : ℕ
  pub demand : ℕ
  pub arcs : List Arc

-- the default of a lookup in a list of arcs
abbrev pub no_arc : Arc
no_arc = record { from = 0; to = 0; room = 0; cost = 0; dir = 0 }

-- the arc at an index
abbrev pub arc_at : List Arc → ℕ → Arc
arc_at arcs i = slice_index_or arcs i no_arc

-- all ends are nodes, and the destination differs from the source
pub record IsNet (net : Net) : Type 0 where
  pub source_in : net.source < net.nodes
  pub destination_in : net.destination < net.nodes
  pub apart : net.source ≢ net.destination
  pub froms : All (λ a. a.from < net.nodes) net.arcs
  pub tos : All (λ a. a.to < net.nodes) net.arcs

-- an arc leads to another node, has room for 1 to MAX units, and costs 1 to COST_MAX per unit; its direction is a number
-- of 32 bits
pub record IsGoodArc (arc : Arc) : Type 0 where
  pub apart : arc.from ≢ arc.to
  pub some_room : 1 ≤ arc.room
  pub most_room : arc.room ≤ MAX
  pub some_cost : 1 ≤ arc.cost
  pub most_cost : arc.cost ≤ COST_MAX
  pub direction : arc.dir < 2 ^ 32

-- two arcs of one direction have equal ends, and the later one isn't cheaper
abbrev pub Dearer : Arc → Arc → Type 0
Dearer a b = a.dir ≡ b.dir → (a.from ≡ b.from) × (a.to ≡ b.to) × (a.cost ≤ b.cost)

-- between two arcs of one direction are only arcs of that direction
abbrev pub StandTogether : List Arc → Type 0
StandTogether arcs = (i j k : ℕ) (d : Arc) → i < j → j < k → k < length arcs → (slice_index_or arcs i d).dir ≡ (slice_index_or arcs k d).dir → (slice_index_or arcs i d).dir ≡ (slice_index_or arcs j d).dir

-- the ranges of a network's numbers, for the most nodes and arcs that it may have
pub record HasRanges (nodes_max arcs_max : ℕ) (net : Net) : Type 0 where
  pub ends : IsNet net
  pub few_nodes : net.nodes ≤ nodes_max
  pub few_arcs : length net.arcs ≤ arcs_max
  pub some_demand : 1 ≤ net.demand
  pub most_demand : net.demand ≤ MAX
  pub good_arcs : All IsGoodArc net.arcs

-- what holds of each instance
pub record IsInstance (net : Net) : Type 0 where
  pub ranges : HasRanges NODES_MAX ARCS_MAX net
  pub dearer : AllPairs Dearer net.arcs
  pub together : StandTogether net.arcs
