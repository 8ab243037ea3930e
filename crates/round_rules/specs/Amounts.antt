-- What the parts of a round deliver, carry and cost.
use Rattle.std.specs.Prelude.{ℕ, ◌-◌, ◌*◌, List, [], ◌∷◌, map, zip, sum_by, cond, nat_eq, nat_lt, ◌&&◌, Bool}
use Rattle.std.specs.List.{list_any, flat_map}
use Rattle.plan_base.specs.declared.fee.Toll.{Toll}
use Rattle.fee_backward.specs.declared.hop.Hop.{Hop}
use Rattle.fee_backward.specs.Hop.{amounts_of, carried_before, delay_after}
use Rattle.path_split.specs.declared.part.Part.{Part}
use Rattle.layer.specs.declared.ask.Ask.{Ask}
use Rattle.view_build.specs.declared.view.ViewDir.{ViewDir}
use Rattle.round_rules.specs.declared.round.Route.{Route}
use Rattle.round_rules.specs.State.{RoundState}
use Rattle.view_build.specs.View.{ViewParts}
use Rattle.round_rules.specs.View.{dir_at}
use Rattle.round_rules.specs.Instance.{demand_of}

abbrev pub toll_of : ViewDir → Toll
toll_of d = record { base = d.base; ppm = d.ppm; delay = d.delay }

-- a path with its amounts, from what is delivered backward
abbrev pub route_of : ViewParts → Ask → List ℕ → ℕ → Route
route_of view ask path delivered = record { delivered = delivered; path = path; hops = amounts_of (map (λ d. toll_of (dir_at view d)) path) delivered ask.final_cltv }

-- each part delivers its units, and the last one so much less
abbrev pub routes_with : ViewParts → Ask → ℕ → ℕ → List Part → List Route
routes_with view ask unit less [] = []
routes_with view ask unit less (p ∷ []) = route_of view ask p.path (p.units * unit - less) ∷ []
routes_with view ask unit less (p ∷ q ∷ parts) = route_of view ask p.path (p.units * unit) ∷ routes_with view ask unit less (q ∷ parts)

-- the last part delivers less by what the whole units exceed the amount
abbrev pub routes_of : ViewParts → Ask → RoundState → List Part → List Route
routes_of view ask state parts = routes_with view ask state.unit (demand_of ask.amount state * state.unit - ask.amount) parts

-- each direction of the path with the hop over it
abbrev pub carried_of : Route → List (ℕ × Hop)
carried_of route = zip route.path route.hops

abbrev pub carried : List Route → List (ℕ × Hop)
carried routes = flat_map carried_of routes

-- what all parts together carry over a direction
abbrev pub total_on : ℕ → List (ℕ × Hop) → ℕ
total_on dir ls = sum_by (λ (l : ℕ × Hop). cond (nat_eq l.0 dir) l.1.carried 0) ls

-- whether a part carries less, or more, than this over a direction
abbrev pub any_below : ℕ → ℕ → List (ℕ × Hop) → Bool
any_below dir least ls = list_any (λ (l : ℕ × Hop). nat_eq l.0 dir && nat_lt l.1.carried least) ls

abbrev pub any_above : ℕ → ℕ → List (ℕ × Hop) → Bool
any_above dir most ls = list_any (λ (l : ℕ × Hop). nat_eq l.0 dir && nat_lt most l.1.carried) ls

-- a route's fee is what its first hop asks for, less what is delivered
abbrev pub fee_of : Route → ℕ
fee_of route = carried_before route.hops route.delivered - route.delivered

abbrev pub fees_of : List Route → ℕ
fees_of routes = sum_by fee_of routes

-- a route's delay is that of its first hop
abbrev pub delay_of : Ask → Route → ℕ
delay_of ask route = delay_after route.hops ask.final_cltv
