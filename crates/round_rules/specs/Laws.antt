-- The laws of runs.
use Rattle.std.specs.Prelude.{ℕ, ℤ, ◌+◌, ◌*◌, ◌<◌, ◌≤◌, ◌≡◌, List, length, All, sum_by}
use Rattle.flow_model.specs.Instance.{Net}
use Rattle.fee_backward.specs.declared.hop.Hop.{Hop}
use Rattle.layer.specs.declared.ask.Ask.{Ask}
use Rattle.layer.specs.Ask.{IsGoodAsk}
use Rattle.round_rules.specs.declared.round.Round.{Round}
use Rattle.round_rules.specs.declared.round.Route.{Route}
use Rattle.round_rules.specs.declared.run.Outcome.TheVariants.{Parts}
use Rattle.view_build.specs.View.{ViewParts, IsGoodView}
use Rattle.round_rules.specs.View.{dir_at}
use Rattle.round_rules.specs.State.{first_state}
use Rattle.round_rules.specs.Amounts.{carried, total_on, fees_of, delay_of}
use Rattle.round_rules.specs.Faults.{limit_of}
use Rattle.round_rules.specs.Runs.{IsRunFrom, IsRun}

-- the routes deliver the amount, and keep each limit of the view and of the ask
pub record KeepsLimits (view : ViewParts) (ask : Ask) (routes : List Route) : Type 0 where
  pub delivered : sum_by (λ (r : Route). r.delivered) routes ≡ ask.amount
  pub totals : (dir : ℕ) → dir < length view.dirs → total_on dir (carried routes) ≤ limit_of view dir
  pub least : All (λ (l : ℕ × Hop). (dir_at view l.0).htlc_min ≤ l.1.carried) (carried routes)
  pub most : All (λ (l : ℕ × Hop). l.1.carried ≤ (dir_at view l.0).htlc_max) (carried routes)
  pub few : length routes ≤ view.maxparts
  pub fees : fees_of routes ≤ ask.maxfee
  pub delays : All (λ (r : Route). delay_of ask r ≤ ask.maxdelay) routes

-- the parts in which a run ends keep every limit
abbrev pub PartsKeepLimits : Type 0
PartsKeepLimits = (view : ViewParts) (ask : Ask) (rounds : List Round) (routes : List Route) (fee ppm : ℕ) (net : Net) (flow : List ℕ) (potentials : List ℤ) → IsGoodView view → IsGoodAsk ask → IsRun view ask rounds (Parts routes fee ppm net flow potentials) → KeepsLimits view ask routes

-- a run has at most 6n + 81 rounds
abbrev pub RoundsAreFew : Type 0
RoundsAreFew = (view : ViewParts) (ask : Ask) (rounds : List Round) → IsGoodView view → IsGoodAsk ask → IsRunFrom view ask (first_state ask.amount) rounds → length rounds ≤ 6 * length view.dirs + 81
