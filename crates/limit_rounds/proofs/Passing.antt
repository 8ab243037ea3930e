-- Rounds that follow from one another, as they are tried.
use Rattle.std.proofs.Common.{ℕ, ◌+◌, ◌*◌, ◌/◌, ◌<◌, ◌≤◌, ◌≡◌, true, false, List, [], ◌∷◌, ◌++◌, sym, refl, ap, ◌∙◌, subst, inl, inr, ⊎_elim, arith, length}
use Rattle.std.proofs.lemmas.Bool.{false≢true}
use Rattle.flow_model.specs.declared.solve.Solved.{Solved}
use Rattle.flow_model.specs.declared.solve.Solved.TheVariants.{Flow, Cut}
use Rattle.flow_model.specs.Instance.{Net}
use Rattle.flow_model.specs.Flow.{IsCheapest, flow_of}
use Rattle.path_split.specs.declared.part.Part.{Part}
use Rattle.path_split.specs.Parts.{IsSplit, units_on}
use Rattle.layer.specs.declared.ask.Ask.{Ask}
use Rattle.layer.specs.Ask.{IsGoodAsk}
use Rattle.view_build.specs.View.{ViewParts, IsGoodView}
use Rattle.round_rules.specs.declared.round.Round.{Round}
use Rattle.round_rules.specs.declared.round.Fault.{Fault}
use Rattle.round_rules.specs.declared.round.Fault.TheVariants.{None, TooManyParts, Directions, Htlc, Fee, Delay, NoFlow}
use Rattle.round_rules.specs.declared.run.Outcome.{Outcome}
use Rattle.round_rules.specs.State.{RoundState, IsGoodState, first_state, state_of}
use Rattle.round_rules.specs.Instance.{instance_of}
use Rattle.round_rules.specs.Parts.{AreGoodParts, flow_in}
use Rattle.round_rules.specs.Faults.{fault_of}
use Rattle.round_rules.specs.Next.{next_state}
use Rattle.round_rules.specs.Runs.{HasCheapestParts, HasNoFlow, IsRoundResult, IsRunFrom, IsOutcome, EndsWith, is_last}
use Rattle.round_rules.proofs.Advances.{Advances, rises_left, can_be_many}
use Rattle.round_rules.proofs.Count.{step_of, first_good}
use Rattle.limit_rounds.specs.declared.run.Tried.{Tried}
use Rattle.limit_rounds.proofs.Following.{listed_from}
use Rattle.limit_rounds.specs.Untried.{IsUntried}
use Rattle.limit_rounds.specs.Solution.{ComesFrom, IsTried}

-- each of these rounds follows from the one before and isn't a last one, and they lead to the state
abbrev pub Passed : ViewParts → Ask → RoundState → List Round → RoundState → Type 0
Passed view ask s [] t = s ≡ t
Passed view ask s (r ∷ rounds) t = (state_of r ≡ s) × HasCheapestParts view ask (state_of r) r.parts r.fault × (is_last s r.fault ≡ false) × Passed view ask (next_state view ask s r.parts r.fault) rounds t

passed_push : (view : ViewParts) (ask : Ask) (s t : RoundState) (rounds : List Round) (r : Round) → Passed view ask s rounds t → state_of r ≡ t → HasCheapestParts view ask (state_of r) r.parts r.fault → is_last t r.fault ≡ false → Passed view ask s (rounds ++ r ∷ []) (next_state view ask t r.parts r.fault)
passed_push view ask s t [] r passed same solved goes = (same ∙ sym passed, solved, subst (λ x. is_last x r.fault ≡ false) (sym passed) goes, ap (λ x. next_state view ask x r.parts r.fault) passed)
passed_push view ask s t (q ∷ rounds) r passed same solved goes = (passed.0, passed.1, passed.2, passed_push view ask (next_state view ask s q.parts q.fault) t rounds r passed.3 same solved goes)

passed_end : (view : ViewParts) (ask : Ask) (s t : RoundState) (rounds : List Round) (r : Round) → Passed view ask s rounds t → state_of r ≡ t → IsRoundResult view ask (state_of r) r.parts r.fault → is_last t r.fault ≡ true → IsRunFrom view ask s (rounds ++ r ∷ [])
passed_end view ask s t [] r passed same result stops = (same ∙ sym passed, result, subst (λ x. is_last x r.fault ≡ true) (sym passed) stops)
passed_end view ask s t (p ∷ []) r passed same result stops = (passed.0, passed.1, passed.2, passed_end view ask (next_state view ask s p.parts p.fault) t [] r passed.3 same result stops)
passed_end view ask s t (p ∷ q ∷ rounds) r passed same result stops = (passed.0, passed.1, passed.2, passed_end view ask (next_state view ask s p.parts p.fault) t (q ∷ rounds) r passed.3 same result stops)

ends_push : (view : ViewParts) (ask : Ask) (rounds : List Round) (r : Round) (outcome : Outcome) → IsOutcome view ask r outcome → EndsWith view ask (rounds ++ r ∷ []) outcome
ends_push view ask [] r outcome is = is
ends_push view ask (p ∷ []) r outcome is = is
ends_push view ask (p ∷ q ∷ rounds) r outcome is = ends_push view ask (q ∷ rounds) r outcome is

-- a number that falls with each round
abbrev pub nearness : ViewParts → Ask → RoundState → ℕ
nearness view ask s = rises_left view s + s.size + can_be_many view ask s * (length view.dirs * 3 + 101)

pub result_from : (view : ViewParts) (ask : Ask) (r : Round) (solved : Solved) → ComesFrom view ask r solved → IsRoundResult view ask (state_of r) r.parts r.fault
result_from view ask r (Flow flow potentials) comes = inl comes.0
result_from view ask r (Cut side) comes = inr comes

-- the rounds so far, and the one that was tried last
pub record Stands (view : ViewParts) (ask : Ask) (rounds : List Round) (t : Tried) : Type 0 where
  pub seen : IsGoodView view
  pub passed : Passed view ask (first_state ask.amount) rounds (state_of t.round)
  pub good : IsGoodState view ask (state_of t.round)
  pub tried : IsTried view ask t

pub stands_first : (view : ViewParts) (ask : Ask) (rounds : List Round) (r : Round) (t : Tried) → IsGoodView view → IsGoodAsk ask → IsUntried r (first_state ask.amount) → state_of t.round ≡ state_of r → IsTried view ask t → rounds ≡ [] → Stands view ask rounds t
stands_first view ask rounds r t seen good untried same tried none =
    let is = same ∙ untried.state_is in
    record {
      seen = seen;
      passed = subst (λ x. Passed view ask (first_state ask.amount) x (state_of t.round)) (sym none) (sym is);
      good = subst (IsGoodState view ask) (sym is) (first_good view ask good);
      tried = tried;
    }

module _ (view : ViewParts) (ask : Ask) (good : IsGoodAsk ask) (rounds : List Round) (t : Tried) (stands : Stands view ask rounds t) (goes : is_last (state_of t.round) t.round.fault ≡ false) where
  pub solves : HasCheapestParts view ask (state_of t.round) t.round.parts t.round.fault
  solves = ⊎_elim
      (λ (x : HasCheapestParts view ask (state_of t.round) t.round.parts t.round.fault). x)
      (λ (x : HasNoFlow view ask (state_of t.round) t.round.parts t.round.fault). absurd (false≢true (sym goes ∙ ap (is_last (state_of t.round)) x.fault_is)))
      (result_from view ask t.round t.solution.solved stands.tried.comes)

  stepped : Advances view ask (state_of t.round) (next_state view ask (state_of t.round) t.round.parts t.round.fault)
  stepped = step_of view ask (state_of t.round) t.round stands.seen good stands.good refl solves goes

  pub stands_turn : (more : List Round) (n : Round) (t' : Tried) → state_of n ≡ next_state view ask (state_of t.round) t.round.parts t.round.fault → state_of t'.round ≡ state_of n → IsTried view ask t' → more ≡ rounds ++ t.round ∷ [] → Stands view ask more t'
  stands_turn more n t' next same tried grows =
      let is = same ∙ next in
      record {
        seen = stands.seen;
        passed = subst (Passed view ask (first_state ask.amount) more) (sym is) (subst (λ x. Passed view ask (first_state ask.amount) x (next_state view ask (state_of t.round) t.round.parts t.round.fault)) (sym grows) (passed_push view ask (first_state ask.amount) (state_of t.round) rounds t.round stands.passed refl solves goes));
        good = subst (IsGoodState view ask) (sym is) stepped.good;
        tried = tried;
      }

  pub nearer : (n : Round) (t' : Tried) → state_of n ≡ next_state view ask (state_of t.round) t.round.parts t.round.fault → state_of t'.round ≡ state_of n → nearness view ask (state_of t'.round) < nearness view ask (state_of t.round)
  nearer n t' next same = subst (λ x. nearness view ask x < nearness view ask s) (sym (same ∙ next)) (by (next_state view ask s t.round.parts t.round.fault) stepped)
    where
      s : RoundState
      s = state_of t.round

      by : (u : RoundState) → Advances view ask s u → nearness view ask u < nearness view ask s
      by u f = ⊎_elim
          (λ (x : (can_be_many view ask u ≡ can_be_many view ask s) × (rises_left view u < rises_left view s) × (u.size ≤ s.size)). let p = ap (λ m. m * (length view.dirs * 3 + 101)) x.0 in omega (arith, p, x.1, x.2))
          (λ y. ⊎_elim
          (λ (x : (can_be_many view ask u ≡ can_be_many view ask s) × (rises_left view u ≤ rises_left view s) × (2 ≤ s.size) × (u.size ≡ s.size / 2)). let p = ap (λ m. m * (length view.dirs * 3 + 101)) x.0 in omega (arith, p, x.1, x.2, x.3))
          (λ (x : (can_be_many view ask s ≡ 1) × (can_be_many view ask u ≡ 0) × (u.fee_level ≡ s.fee_level) × (u.delay_level ≡ s.delay_level) × (u.size ≤ view.maxparts)).
          let p = ap (λ m. m * (length view.dirs * 3 + 101)) x.0 in
          let q = ap (λ m. m * (length view.dirs * 3 + 101)) x.1 in
          let few = stands.seen.few_parts in
          let k = x.2 in
          let j = x.3 in
          let z = x.4 in
          omega (arith, p, q, k, j, z, few))
          y)
          f.nearer

pub stands_end : (view : ViewParts) (ask : Ask) (rounds more : List Round) (t : Tried) (outcome : Outcome) → Stands view ask rounds t → is_last (state_of t.round) t.round.fault ≡ true → more ≡ rounds ++ t.round ∷ [] → IsOutcome view ask t.round outcome → IsRunFrom view ask (first_state ask.amount) more × EndsWith view ask more outcome
stands_end view ask rounds more t outcome stands stops grows is = subst (λ x. IsRunFrom view ask (first_state ask.amount) x × EndsWith view ask x outcome) (sym grows)
    (passed_end view ask (first_state ask.amount) (state_of t.round) rounds t.round stands.passed refl (result_from view ask t.round t.solution.solved stands.tried.comes) stops, ends_push view ask rounds t.round outcome is)

-- the split of a cheapest flow is good parts, and its fault is theirs
pub flow_parts : (view : ViewParts) (ask : Ask) (round q r : Round) (net : Net) (flow : List ℕ) (parts : List Part) (fault : Fault) → net ≡ instance_of view ask (state_of round) → q ≡ record round { parts = parts } → r ≡ record q { fault = fault } → AreGoodParts net round.size parts → IsCheapest net (flow_in net parts) → fault ≡ fault_of view ask (state_of q) q.parts → HasCheapestParts view ask (state_of r) r.parts r.fault
flow_parts view ask round q r net flow parts fault is q_is r_is are cheapest faults = subst (λ (x : Round). HasCheapestParts view ask (state_of x) x.parts x.fault) (sym (r_is ∙ ap (λ (x : Round). record x { fault = fault }) q_is)) record {
  good = subst (λ (n : Net). AreGoodParts n round.size parts) is are;
  cheapest = subst (λ (n : Net). IsCheapest n (flow_in n parts)) is cheapest;
  fault_is = faults ∙ ap (λ (x : Round). fault_of view ask (state_of x) x.parts) q_is;
}

pub good_split : (net : Net) (flow : List ℕ) (size : ℕ) (parts : List Part) → IsSplit net flow size parts → flow_of (λ dir. units_on dir parts) net.arcs ≡ flow → IsSplit net (flow_in net parts) size parts
good_split net flow size parts split filled = subst (λ f. IsSplit net f size parts) (sym filled) split

-- a last round with parts has no fault, if it has none of a fee or a delay
pub last_none : (view : ViewParts) (ask : Ask) (s : RoundState) (parts : List Part) (f : Fault) → f ≡ fault_of view ask s parts → is_last s f ≡ true → ((fee : ℕ) → f ≡ Fee fee → ⊥) → ((part delay : ℕ) → f ≡ Delay part delay → ⊥) → f ≡ None
last_none view ask s parts None is stops fee delay = refl
last_none view ask s parts TooManyParts is stops fee delay = absurd (false≢true stops)
last_none view ask s parts (Directions ds) is stops fee delay = absurd (false≢true stops)
last_none view ask s parts (Htlc ds) is stops fee delay = absurd (false≢true stops)
last_none view ask s parts (Fee f) is stops fee delay = absurd (fee f refl)
last_none view ask s parts (Delay p d) is stops fee delay = absurd (delay p d refl)
last_none view ask s parts NoFlow is stops fee delay = absurd (listed_from view ask s parts NoFlow is)
