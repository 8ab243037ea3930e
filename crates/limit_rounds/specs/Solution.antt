-- Serves private clauses only: what a solver answered, and what a round makes of it.
use Rattle.std.specs.Prelude.{ℕ, ℤ, Bool, ◌≡◌, List, All}
use Rattle.flow_model.specs.Instance.{Net}
use Rattle.flow_model.specs.Flow.{IsCheapest, IsFeasible, IsFilledInOrder}
use Rattle.flow_model.specs.Potentials.{IsSmall, ShowsCheapest}
use Rattle.flow_model.specs.Side.{Cuts}
use Rattle.flow_model.specs.declared.solve.Solved.{Solved}
use Rattle.flow_model.specs.declared.solve.Solved.TheVariants.{Flow, Cut}
use Rattle.layer.specs.declared.ask.Ask.{Ask}
use Rattle.view_build.specs.View.{ViewParts}
use Rattle.round_rules.specs.declared.round.Round.{Round}
use Rattle.round_rules.specs.State.{state_of}
use Rattle.round_rules.specs.Instance.{instance_of}
use Rattle.round_rules.specs.Parts.{flow_in}
use Rattle.round_rules.specs.Runs.{HasCheapestParts, HasNoFlow}
use Rattle.limit_rounds.specs.declared.run.Tried.{Tried}

pub record FlowAnswer (net : Net) (flow : List ℕ) (potentials : List ℤ) : Type 0 where
  pub cheapest : IsCheapest net flow
  pub in_order : IsFilledInOrder net flow
  pub shown : ShowsCheapest net flow potentials
  pub small : All IsSmall potentials

pub record CutAnswer (net : Net) (side : List Bool) : Type 0 where
  pub cuts : Cuts net side
  pub none : (flow : List ℕ) → IsFeasible net flow → ⊥

-- what a solver promises of its answer
abbrev pub IsAnswer : Net → Solved → Type 0
IsAnswer net (Flow flow potentials) = FlowAnswer net flow potentials
IsAnswer net (Cut side) = CutAnswer net side

-- the round's parts and fault are those of the answer
abbrev pub ComesFrom : ViewParts → Ask → Round → Solved → Type 0
ComesFrom view ask r (Flow flow potentials) = HasCheapestParts view ask (state_of r) r.parts r.fault × (flow ≡ flow_in (instance_of view ask (state_of r)) r.parts)
ComesFrom view ask r (Cut side) = HasNoFlow view ask (state_of r) r.parts r.fault

-- a round that was tried, with the answer that it comes from
pub record IsTried (view : ViewParts) (ask : Ask) (t : Tried) : Type 0 where
  pub instance_is : t.solution.instance ≡ instance_of view ask (state_of t.round)
  pub answer : IsAnswer t.solution.instance t.solution.solved
  pub comes : ComesFrom view ask t.round t.solution.solved

-- whatever the view and the ask are, two rounds have the same problem
abbrev pub HasSameProblem : Round → Round → Type 0
HasSameProblem a b = (view : ViewParts) (ask : Ask) → instance_of view ask (state_of a) ≡ instance_of view ask (state_of b)
