-- The state of the round that follows.
use Rattle.std.specs.Prelude.{ℕ, ◌+◌, ◌-◌, ◌*◌, ◌/◌, List, [], cond, nat_eq, nat_lt, nat_le, ◌&&◌, not, Bool, Some}
use Rattle.std.specs.List.{list_any, filter_map}
use Rattle.std.specs.Int.{div_ceil}
use Rattle.path_split.specs.declared.part.Part.{Part}
use Rattle.path_split.specs.Parts.{units_on}
use Rattle.layer.specs.declared.ask.Ask.{Ask}
use Rattle.round_rules.specs.declared.round.Cap.{Cap}
use Rattle.round_rules.specs.declared.round.Fault.{Fault}
use Rattle.round_rules.specs.declared.round.Fault.TheVariants.{TooManyParts, Directions, Htlc, Fee, Delay}
use Rattle.round_rules.specs.State.{RoundState}
use Rattle.view_build.specs.View.{ViewParts}
use Rattle.round_rules.specs.View.{dir_at}
use Rattle.round_rules.specs.Instance.{find_cap, times_in}
use Rattle.round_rules.specs.Amounts.{routes_of, carried, total_on}
use Rattle.round_rules.specs.Faults.{limit_of, is_below_minimum, all_dirs}

-- the unit at which the amount has at most as many units as parts are allowed
abbrev pub coarse_unit : ViewParts → Ask → ℕ
coarse_unit view ask = div_ceil ask.amount view.maxparts

-- after too many parts: the coarse unit, and no caps
abbrev pub coarse_state : ViewParts → Ask → RoundState → RoundState
coarse_state view ask state = record {
  unit = coarse_unit view ask;
  fee_level = state.fee_level;
  delay_level = state.delay_level;
  size = div_ceil ask.amount (coarse_unit view ask);
  caps = [];
}

-- a direction that is listed once more gets this cap, and 0 at the third time
abbrev pub raised_from : ℕ → ℕ → ℕ → Cap
raised_from dir cap times = record { dir = dir; cap = cond (nat_lt times 2) cap 0; times = times + 1 }

abbrev pub raised : List Cap → ℕ → ℕ → Cap
raised caps dir cap = raised_from dir cap (times_in caps dir)

-- in the order of directions: the new caps of those listed, and the old ones of all others
abbrev pub caps_after : ViewParts → List Cap → (ℕ → Bool) → (ℕ → ℕ) → List Cap
caps_after view caps listed cap = filter_map (λ dir. cond (listed dir) (Some (raised caps dir (cap dir))) (find_cap caps dir)) (all_dirs view)

abbrev pub is_listed : List ℕ → ℕ → Bool
is_listed dirs dir = list_any (nat_eq dir) dirs

-- the units that would have kept the limit, with the fees as they were; none if a part carries too little
abbrev pub cap_within_limit : ViewParts → Ask → RoundState → List Part → ℕ → ℕ
cap_within_limit view ask state parts dir =
    let ls = carried (routes_of view ask state parts) in
    cond (is_below_minimum view ls dir) 0 ((limit_of view dir + units_on dir parts * state.unit - total_on dir ls) / state.unit)

-- whether smaller parts can pass the direction: parts of one unit cannot be halved, and if its HTLC maximum is below the
-- coarse unit, the parts that would pass it are too many
abbrev pub can_halve : ViewParts → Ask → ℕ → ℕ → Bool
can_halve view ask size dir = nat_lt 1 size && nat_le (coarse_unit view ask) (dir_at view dir).htlc_max

abbrev pub next_state : ViewParts → Ask → RoundState → List Part → Fault → RoundState
next_state view ask state parts TooManyParts = coarse_state view ask state
next_state view ask state parts (Directions dirs) = record state { caps = caps_after view state.caps (is_listed dirs) (cap_within_limit view ask state parts) }
next_state view ask state parts (Htlc dirs) = record state {
  size = cond (list_any (can_halve view ask state.size) dirs) (state.size / 2) state.size;
  caps = caps_after view state.caps (λ dir. is_listed dirs dir && not (can_halve view ask state.size dir)) (λ dir. 0);
}
next_state view ask state parts (Fee f) = record state { fee_level = state.fee_level + 1 }
next_state view ask state parts (Delay p d) = record state { delay_level = state.delay_level + 1 }
next_state view ask state parts other = state
