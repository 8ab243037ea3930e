-- Runs: rounds that follow from one another, and how they end.
use Rattle.std.specs.Prelude.{ℕ, ℤ, ◌≡◌, ◌⊎◌, List, [], ◌∷◌, nat_eq, Bool, true, false, All}
use Rattle.flow_model.specs.Instance.{Net}
use Rattle.flow_model.specs.Flow.{IsCheapest, IsFeasible}
use Rattle.flow_model.specs.Potentials.{IsSmall, ShowsCheapest}
use Rattle.flow_model.specs.Side.{Cuts}
use Rattle.path_split.specs.declared.part.Part.{Part}
use Rattle.layer.specs.declared.ask.Ask.{Ask}
use Rattle.round_rules.specs.declared.round.Round.{Round}
use Rattle.round_rules.specs.declared.round.Route.{Route}
use Rattle.round_rules.specs.declared.round.Fault.{Fault}
use Rattle.round_rules.specs.declared.round.Fault.TheVariants.{None, Fee, Delay, NoFlow}
use Rattle.round_rules.specs.State.{RoundState}
use Rattle.round_rules.specs.declared.run.Outcome.{Outcome}
use Rattle.round_rules.specs.declared.run.Outcome.TheVariants.{Parts, OverFee, OverDelay}
use Rattle.round_rules.specs.declared.run.Outcome.TheVariants.{NoFlow as Refused}
use Rattle.view_build.specs.View.{ViewParts}
use Rattle.round_rules.specs.State.{first_state, state_of}
use Rattle.round_rules.specs.Instance.{instance_of}
use Rattle.round_rules.specs.Parts.{AreGoodParts, flow_in}
use Rattle.round_rules.specs.Amounts.{routes_of, carried, total_on, fees_of}
use Rattle.round_rules.specs.Faults.{fault_of}
use Rattle.round_rules.specs.Next.{next_state}
use Rattle.round_rules.specs.Chance.{probability_of}

-- the parts make a cheapest flow of the state's instance, and the fault is theirs
pub record HasCheapestParts (view : ViewParts) (ask : Ask) (state : RoundState) (parts : List Part) (fault : Fault) : Type 0 where
  pub good : AreGoodParts (instance_of view ask state) state.size parts
  pub cheapest : IsCheapest (instance_of view ask state) (flow_in (instance_of view ask state) parts)
  pub fault_is : fault ≡ fault_of view ask state parts

-- the state's instance has no feasible flow
pub record HasNoFlow (view : ViewParts) (ask : Ask) (state : RoundState) (parts : List Part) (fault : Fault) : Type 0 where
  pub no_parts : parts ≡ []
  pub none : (flow : List ℕ) → IsFeasible (instance_of view ask state) flow → ⊥
  pub fault_is : fault ≡ NoFlow

abbrev pub IsRoundResult : ViewParts → Ask → RoundState → List Part → Fault → Type 0
IsRoundResult view ask state parts fault = HasCheapestParts view ask state parts fault ⊎ HasNoFlow view ask state parts fault

-- a round is the last one if it has no fault or no flow, or a level that cannot rise any more
abbrev pub is_last : RoundState → Fault → Bool
is_last state None = true
is_last state NoFlow = true
is_last state (Fee fee) = nat_eq state.fee_level 8
is_last state (Delay part delay) = nat_eq state.delay_level 5
is_last state other = false

-- the rounds follow from this state, each from the one before, up to the first last one
abbrev pub IsRunFrom : ViewParts → Ask → RoundState → List Round → Type 0
IsRunFrom view ask state [] = ⊥
IsRunFrom view ask state (r ∷ []) = (state_of r ≡ state) × IsRoundResult view ask (state_of r) r.parts r.fault × (is_last state r.fault ≡ true)
IsRunFrom view ask state (r ∷ q ∷ rounds) = (state_of r ≡ state) × HasCheapestParts view ask (state_of r) r.parts r.fault × (is_last state r.fault ≡ false) × IsRunFrom view ask (next_state view ask state r.parts r.fault) (q ∷ rounds)

-- what is said of the parts of the last round
pub record PartsOutcome (view : ViewParts) (ask : Ask) (r : Round) (routes : List Route) (fee ppm : ℕ) (net : Net) (flow : List ℕ) (potentials : List ℤ) : Type 0 where
  pub fault_is : r.fault ≡ None
  pub routes_are : routes ≡ routes_of view ask (state_of r) r.parts
  pub fee_is : fee ≡ fees_of routes
  pub ppm_is : ppm ≡ probability_of (λ dir. total_on dir (carried routes)) view.dirs
  pub net_is : net ≡ instance_of view ask (state_of r)
  pub flow_is : flow ≡ flow_in net r.parts
  pub shown : ShowsCheapest net flow potentials
  pub small : All IsSmall potentials

-- the outcome is told by the last round
abbrev pub IsOutcome : ViewParts → Ask → Round → Outcome → Type 0
IsOutcome view ask r (Parts routes fee ppm net flow potentials) = PartsOutcome view ask r routes fee ppm net flow potentials
IsOutcome view ask r (Refused net side) = (r.fault ≡ NoFlow) × (net ≡ instance_of view ask (state_of r)) × Cuts net side
IsOutcome view ask r (OverFee fee) = r.fault ≡ Fee fee
IsOutcome view ask r (OverDelay part delay) = r.fault ≡ Delay part delay

-- the outcome is that of the last of the rounds
abbrev pub EndsWith : ViewParts → Ask → List Round → Outcome → Type 0
EndsWith view ask [] outcome = ⊥
EndsWith view ask (r ∷ []) outcome = IsOutcome view ask r outcome
EndsWith view ask (r ∷ q ∷ rounds) outcome = EndsWith view ask (q ∷ rounds) outcome

-- a run begins with the first state, and ends with this outcome
abbrev pub IsRun : ViewParts → Ask → List Round → Outcome → Type 0
IsRun view ask rounds outcome = IsRunFrom view ask (first_state ask.amount) rounds × EndsWith view ask rounds outcome
