-- The problem of a round: each direction is cut into pieces, and each piece is an arc.
use Rattle.std.specs.Prelude.{ℕ, suc, List, [], ◌∷◌, ◌++◌, length, min, cond, nat_eq, Option, None, Some}
use Rattle.std.specs.Option.{option_map_or}
use Rattle.std.specs.Int.{div_ceil}
use Rattle.flow_model.specs.declared.instance.Arc.{Arc}
use Rattle.flow_model.specs.Instance.{Net}
use Rattle.cost_pieces.specs.declared.unit.Terms.{Terms}
use Rattle.cost_pieces.specs.Pieces.{rooms_of}
use Rattle.cost_pieces.specs.UnitCost.{unit_cost_of}
use Rattle.layer.specs.declared.ask.Ask.{Ask}
use Rattle.view_build.specs.declared.view.ViewDir.{ViewDir}
use Rattle.round_rules.specs.declared.round.Cap.{Cap}
use Rattle.round_rules.specs.State.{RoundState}
use Rattle.view_build.specs.View.{ViewParts}

-- the direction's cap, if the list has one
abbrev pub find_cap : List Cap → ℕ → Option Cap
find_cap [] dir = None
find_cap (c ∷ caps) dir = cond (nat_eq c.dir dir) (Some c) (find_cap caps dir)

-- `most`, or the direction's cap if it is less
abbrev pub cap_in : List Cap → ℕ → ℕ → ℕ
cap_in caps dir most = option_map_or (λ (c : Cap). min c.cap most) (find_cap caps dir) most

-- how many faults have listed the direction
abbrev pub times_in : List Cap → ℕ → ℕ
times_in caps dir = option_map_or (λ (c : Cap). c.times) (find_cap caps dir) 0

-- what the cost of a direction depends on
abbrev pub terms_of : ℕ → ViewDir → Terms
terms_of amount d = record { lo = d.min; hi = d.max; base = d.base; ppm = d.ppm; delay = d.delay; bias = d.bias; amount = amount }

-- an arc for each room that isn't 0
abbrev pub arcs_with : (ℕ → ℕ → Arc) → ℕ → List ℕ → List Arc
arcs_with arc piece [] = []
arcs_with arc piece (room ∷ rooms) = cond (nat_eq room 0) (arcs_with arc (suc piece) rooms) (arc piece room ∷ arcs_with arc (suc piece) rooms)

-- the arc of a direction's piece
abbrev pub arc_of : ℕ → RoundState → ℕ → ViewDir → ℕ → ℕ → Arc
arc_of amount state dir d piece room = record { from = d.from; to = d.to; room = room; cost = unit_cost_of piece (terms_of amount d) state.fee_level state.delay_level; dir = dir }

-- the units that are to be sent: the amount in units, rounded up
abbrev pub demand_of : ℕ → RoundState → ℕ
demand_of amount state = div_ceil amount state.unit

-- the arcs of a direction: its pieces, cut to its cap and to the demand
abbrev pub arcs_of_dir : ℕ → RoundState → ℕ → ViewDir → List Arc
arcs_of_dir amount state dir d = arcs_with (arc_of amount state dir d) 0 (rooms_of d.min d.max state.unit (cap_in state.caps dir (demand_of amount state)))

-- the arcs of all directions, in order
abbrev pub arcs_from : ℕ → RoundState → ℕ → List ViewDir → List Arc
arcs_from amount state dir [] = []
arcs_from amount state dir (d ∷ dirs) = arcs_of_dir amount state dir d ++ arcs_from amount state (suc dir) dirs

abbrev pub instance_of : ViewParts → Ask → RoundState → Net
instance_of view ask state = record {
  nodes = length view.nodes;
  source = view.source;
  destination = view.destination;
  demand = demand_of ask.amount state;
  arcs = arcs_from ask.amount state 0 view.dirs;
}
