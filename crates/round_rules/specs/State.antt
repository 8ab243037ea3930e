-- The state of a round: the first one, and what holds of each.
use Rattle.std.specs.Prelude.{ℕ, ◌<◌, ◌≤◌, ◌≡◌, List, [], length, All, AllPairs}
use Rattle.plan_base.specs.declared.amount.TheConstants.{MAX}
use Rattle.layer.specs.declared.ask.Ask.{Ask}
use Rattle.round_rules.specs.declared.round.Cap.{Cap}
use Rattle.round_rules.specs.declared.round.Round.{Round}
use Rattle.view_build.specs.View.{ViewParts}

-- what a round's problem and its parts depend on besides the view and the ask: the amount of a unit, the levels at which
-- fees and delays weigh, the most units of a part, and the caps of directions
pub record RoundState : Type 0 where
  pub unit : ℕ
  pub fee_level : ℕ
  pub delay_level : ℕ
  pub size : ℕ
  pub caps : List Cap

-- the first round sends whole msat, at the lowest levels, with no caps and parts of any size
abbrev pub first_state : ℕ → RoundState
first_state amount = record { unit = 1; fee_level = 0; delay_level = 0; size = amount; caps = [] }

abbrev pub state_of : Round → RoundState
state_of r = record { unit = r.unit; fee_level = r.fee_level; delay_level = r.delay_level; size = r.size; caps = r.caps }

-- a unit from 1 to the amount, levels in range, a size from 1 to MAX, and caps in ascending order of the view's
-- directions, each listed 1 to 3 times, and closed at the third time
pub record IsGoodState (view : ViewParts) (ask : Ask) (state : RoundState) : Type 0 where
  pub some_unit : 1 ≤ state.unit
  pub most_unit : state.unit ≤ ask.amount
  pub fee : state.fee_level ≤ 8
  pub delay : state.delay_level ≤ 5
  pub some_size : 1 ≤ state.size
  pub most_size : state.size ≤ MAX
  pub order : AllPairs (λ (a b : Cap). a.dir < b.dir) state.caps
  pub within : All (λ (c : Cap). c.dir < length view.dirs) state.caps
  pub some_times : All (λ (c : Cap). 1 ≤ c.times) state.caps
  pub most_times : All (λ (c : Cap). c.times ≤ 3) state.caps
  pub closed : All (λ (c : Cap). 3 ≤ c.times → c.cap ≡ 0) state.caps
