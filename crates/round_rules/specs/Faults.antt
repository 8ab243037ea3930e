-- What is wrong with the parts of a round.
use Rattle.std.specs.Prelude.{ℕ, ◌+◌, List, [], ◌∷◌, length, filter, cond, nat_lt, ◌||◌, Bool}
use Rattle.std.specs.List.{range_with_len}
use Rattle.fee_backward.specs.declared.hop.Hop.{Hop}
use Rattle.path_split.specs.declared.part.Part.{Part}
use Rattle.layer.specs.declared.ask.Ask.{Ask}
use Rattle.round_rules.specs.declared.round.Route.{Route}
use Rattle.round_rules.specs.declared.round.Fault.{Fault}
use Rattle.round_rules.specs.declared.round.Fault.TheVariants.{None, TooManyParts, Directions, Htlc, Fee, Delay}
use Rattle.round_rules.specs.State.{RoundState}
use Rattle.view_build.specs.View.{ViewParts}
use Rattle.round_rules.specs.View.{dir_at}
use Rattle.round_rules.specs.Amounts.{routes_of, carried, total_on, any_below, any_above, fees_of, delay_of}

-- all parts together may carry the known maximum over a direction
abbrev pub limit_of : ViewParts → ℕ → ℕ
limit_of view dir = (dir_at view dir).max

abbrev pub is_over_limit : ViewParts → List (ℕ × Hop) → ℕ → Bool
is_over_limit view ls dir = nat_lt (limit_of view dir) (total_on dir ls)

-- whether a part carries less than the direction's HTLC minimum, or more than its HTLC maximum
abbrev pub is_below_minimum : ViewParts → List (ℕ × Hop) → ℕ → Bool
is_below_minimum view ls dir = any_below dir (dir_at view dir).htlc_min ls

abbrev pub is_above_maximum : ViewParts → List (ℕ × Hop) → ℕ → Bool
is_above_maximum view ls dir = any_above dir (dir_at view dir).htlc_max ls

-- all directions, in order
abbrev pub all_dirs : ViewParts → List ℕ
all_dirs view = range_with_len 0 (length view.dirs)

-- the directions that are over their limit, or over which a part carries less than the HTLC minimum
abbrev pub faulty_dirs : ViewParts → List (ℕ × Hop) → List ℕ
faulty_dirs view ls = filter (λ dir. is_over_limit view ls dir || is_below_minimum view ls dir) (all_dirs view)

-- the directions over which a part carries more than the HTLC maximum
abbrev pub oversize_dirs : ViewParts → List (ℕ × Hop) → List ℕ
oversize_dirs view ls = filter (is_above_maximum view ls) (all_dirs view)

-- the first route whose delay is above the greatest one
abbrev pub first_late : Ask → ℕ → List Route → Fault
first_late ask part [] = None
first_late ask part (r ∷ routes) = cond (nat_lt ask.maxdelay (delay_of ask r)) (Delay part (delay_of ask r)) (first_late ask (part + 1) routes)

-- the fault that lists the directions, if there are any, else the other one
abbrev pub or_listed : (List ℕ → Fault) → List ℕ → Fault → Fault
or_listed fault [] other = other
or_listed fault (d ∷ ds) other = fault (d ∷ ds)

abbrev pub fault_of_routes : ViewParts → Ask → List Route → Fault
fault_of_routes view ask routes =
    or_listed Directions (faulty_dirs view (carried routes))
    (or_listed Htlc (oversize_dirs view (carried routes))
    (cond (nat_lt ask.maxfee (fees_of routes)) (Fee (fees_of routes)) (first_late ask 0 routes)))

-- the first fault of these: too many parts, directions, HTLC maximum, fee, delay
abbrev pub fault_of : ViewParts → Ask → RoundState → List Part → Fault
fault_of view ask state parts = cond (nat_lt view.maxparts (length parts)) TooManyParts (fault_of_routes view ask (routes_of view ask state parts))
