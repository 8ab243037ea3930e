-- Serves private clauses only: what all parts carry over each direction.
use Rattle.std.specs.Prelude.{ℕ, ◌+◌, ◌-◌, ◌^◌, ◌<◌, ◌≡◌, List, [], ◌∷◌, length, All, cond, min, max, nat_eq, nat_lt, ◌||◌, slice_index_or, Bool}
use Rattle.fee_backward.specs.declared.hop.Hop.{Hop}
use Rattle.round_rules.specs.declared.round.Route.{Route}
use Rattle.view_build.specs.declared.view.ViewDir.{ViewDir}
use Rattle.round_rules.specs.View.{no_dir}
use Rattle.round_rules.specs.Amounts.{carried, total_on}
use Rattle.limit_rounds.specs.declared.loads.Load.{Load}

abbrev pub no_load : Load
no_load = record { total = 0; least = 2 ^ 64 - 1; most = 0 }

-- one more part carries this
abbrev pub with_hop : Load → ℕ → Load
with_hop load carried = record { total = load.total + carried; least = min load.least carried; most = max load.most carried }

-- the load of a direction after these hops
abbrev pub load_after : ℕ → Load → List (ℕ × Hop) → Load
load_after dir load [] = load
load_after dir load (l ∷ ls) = load_after dir (cond (nat_eq l.0 dir) (with_hop load l.1.carried) load) ls

abbrev pub load_on : ℕ → List (ℕ × Hop) → Load
load_on dir ls = load_after dir no_load ls

abbrev pub load_at : List Load → ℕ → Load
load_at loads dir = slice_index_or loads dir no_load

-- whether a direction's load is above its limit, or one of its amounts below the HTLC minimum
abbrev pub faulty_at : List ViewDir → List Load → ℕ → Bool
faulty_at dirs loads d = nat_lt (slice_index_or dirs d no_dir).max (load_at loads d).total || nat_lt (load_at loads d).least (slice_index_or dirs d no_dir).htlc_min

-- whether one of its amounts is above the HTLC maximum
abbrev pub oversize_at : List ViewDir → List Load → ℕ → Bool
oversize_at dirs loads d = nat_lt (slice_index_or dirs d no_dir).htlc_max (load_at loads d).most

-- each route has a hop for each direction of its path, the directions are below this number, there are fewer than 2^32
-- routes, and what they carry over a direction fits 128 bits
pub record AreGoodRoutes (count : ℕ) (routes : List Route) : Type 0 where
  pub long : All (λ (r : Route). length r.hops ≡ length r.path) routes
  pub within : All (λ (r : Route). All (λ d. d < count) r.path) routes
  pub few : length routes < 2 ^ 32
  pub fits : (d : ℕ) → total_on d (carried routes) < 2 ^ 128
