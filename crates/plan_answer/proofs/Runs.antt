-- What a run names by index is in its view, and its outcome can be printed as a certificate.
use Rattle.std.proofs.Common.{ℕ, ◌-◌, ◌*◌, ◌≤◌, ◌≡◌, List, [], ◌∷◌, sym, ap, ◌∙◌, subst, ⊎_elim, arith, map}
use Rattle.std.specs.Prelude.{ℤ, All, min, cond, nat_eq}
use Rattle.std.proofs.lemmas.List.Elements.{All-head, All-tail, All-cons, All-nil}
use Rattle.plan_base.specs.declared.amount.TheConstants.{MAX}
use Rattle.flow_model.specs.declared.instance.Arc.{Arc}
use Rattle.flow_model.specs.Instance.{Net, IsInstance, IsGoodArc}
use Rattle.flow_model.specs.Flow.{flow_of}
use Rattle.path_split.specs.declared.part.Part.{Part}
use Rattle.path_split.specs.Parts.{units_on}
use Rattle.layer.specs.declared.ask.Ask.{Ask}
use Rattle.layer.specs.Ask.{IsGoodAsk}
use Rattle.view_build.specs.View.{ViewParts, IsGoodView}
use Rattle.round_rules.specs.declared.round.Fault.{Fault}
use Rattle.round_rules.specs.declared.round.Fault.TheVariants.{None, TooManyParts, Directions, Htlc, Fee, Delay, NoFlow}
use Rattle.round_rules.specs.declared.round.Round.{Round}
use Rattle.round_rules.specs.declared.round.Route.{Route}
use Rattle.round_rules.specs.declared.run.Outcome.{Outcome}
use Rattle.round_rules.specs.declared.run.Outcome.TheVariants.{Parts, OverFee, OverDelay}
use Rattle.round_rules.specs.declared.run.Outcome.TheVariants.{NoFlow as Refused}
use Rattle.round_rules.specs.View.{dir_at}
use Rattle.round_rules.specs.State.{RoundState, IsGoodState, first_state, state_of}
use Rattle.round_rules.specs.Instance.{demand_of, instance_of}
use Rattle.round_rules.specs.Parts.{flow_in}
use Rattle.round_rules.specs.Amounts.{toll_of, route_of, routes_with}
use Rattle.round_rules.specs.Next.{next_state}
use Rattle.round_rules.specs.Runs.{HasCheapestParts, HasNoFlow, IsRoundResult, IsRunFrom, IsOutcome, EndsWith, IsRun, PartsOutcome}
use Rattle.round_rules.proofs.Count.{first_good, step_of}
use Rattle.round_rules.proofs.Keeps.{paths_within}
use Rattle.limit_rounds.proofs.Built.{is_instance}
use Rattle.limit_rounds.proofs.Following.{ListsDirs, listed_from}
use Rattle.limit_rounds.proofs.GoodRoutes.{length-amounts_of}
use Rattle.std.proofs.lemmas.List.{length-map}
use Rattle.plan_answer.specs.Within.{IsDirOf, IsPartOf, IsFaultOf, IsRoundOf, IsRouteOf, IsOutcomeOf}

fault_of_listed : (view : ViewParts) (parts : List Part) (fault : Fault) → ListsDirs view parts fault → IsFaultOf view fault
fault_of_listed view parts None lists = tt
fault_of_listed view parts TooManyParts lists = tt
fault_of_listed view parts (Directions dirs) lists = lists.1
fault_of_listed view parts (Htlc dirs) lists = lists.1
fault_of_listed view parts (Fee fee) lists = tt
fault_of_listed view parts (Delay part delay) lists = tt
fault_of_listed view parts NoFlow lists = absurd lists

-- the round that an outcome tells of
pub record LastRound (view : ViewParts) (ask : Ask) (outcome : Outcome) : Type 0 where
  pub round : Round
  pub good_state : IsGoodState view ask (state_of round)
  pub result : IsRoundResult view ask (state_of round) round.parts round.fault
  pub tells : IsOutcome view ask round outcome

module _ (view : ViewParts) (ask : Ask) where
  with_parts : (r : Round) → IsGoodState view ask (state_of r) → HasCheapestParts view ask (state_of r) r.parts r.fault → IsRoundOf view r
  with_parts r good_state solved = record {
    caps = good_state.within;
    parts = paths_within view ask (state_of r) r.size r.parts solved.good;
    fault = fault_of_listed view r.parts r.fault (listed_from view ask (state_of r) r.parts r.fault solved.fault_is);
  }

  without_parts : (r : Round) → IsGoodState view ask (state_of r) → HasNoFlow view ask (state_of r) r.parts r.fault → IsRoundOf view r
  without_parts r good_state failed = record {
    caps = good_state.within;
    parts = subst (All (IsPartOf view)) (sym failed.no_parts) (All-nil (IsPartOf view));
    fault = subst (IsFaultOf view) (sym failed.fault_is) tt;
  }

  round_of : (r : Round) → IsGoodState view ask (state_of r) → IsRoundResult view ask (state_of r) r.parts r.fault → IsRoundOf view r
  round_of r good_state result = ⊎_elim (with_parts r good_state) (without_parts r good_state) result

  module _ (seen : IsGoodView view) (good : IsGoodAsk ask) where
    good_at : (r : Round) (s : RoundState) → IsGoodState view ask s → state_of r ≡ s → IsGoodState view ask (state_of r)
    good_at r s good_state same = subst (IsGoodState view ask) (sym same) good_state

    rounds_from : (rounds : List Round) (s : RoundState) → IsGoodState view ask s → IsRunFrom view ask s rounds → All (IsRoundOf view) rounds
    rounds_from [] s good_state follows = absurd follows
    rounds_from (r ∷ []) s good_state follows = All-cons (IsRoundOf view) r [] (round_of r (good_at r s good_state follows.0) follows.1) (All-nil (IsRoundOf view))
    rounds_from (r ∷ q ∷ rounds) s good_state follows =
        All-cons (IsRoundOf view) r (q ∷ rounds) (with_parts r (good_at r s good_state follows.0) follows.1)
        (rounds_from (q ∷ rounds) (next_state view ask s r.parts r.fault) (step_of view ask s r seen good good_state follows.0 follows.1 follows.2).good follows.3)

    -- the routes of good parts have a hop over each direction
    route_of_path : (path : List ℕ) (delivered : ℕ) → All (IsDirOf view) path → IsRouteOf view (route_of view ask path delivered)
    route_of_path path delivered within = record {
      path = within;
      hops = length-amounts_of (map (λ d. toll_of (dir_at view d)) path) delivered ask.final_cltv ∙ length-map path (λ d. toll_of (dir_at view d));
    }

    routes_within : (unit less : ℕ) (parts : List Part) → All (IsPartOf view) parts → All (IsRouteOf view) (routes_with view ask unit less parts)
    routes_within unit less [] within = All-nil (IsRouteOf view)
    routes_within unit less (p ∷ []) within = All-cons (IsRouteOf view) (route_of view ask p.path (p.units * unit - less)) [] (route_of_path p.path (p.units * unit - less) (All-head (IsPartOf view) p [] within)) (All-nil (IsRouteOf view))
    routes_within unit less (p ∷ q ∷ parts) within = All-cons (IsRouteOf view) (route_of view ask p.path (p.units * unit)) (routes_with view ask unit less (q ∷ parts)) (route_of_path p.path (p.units * unit) (All-head (IsPartOf view) p (q ∷ parts) within)) (routes_within unit less (q ∷ parts) (All-tail (IsPartOf view) p (q ∷ parts) within))

    -- an arc takes at most its room
    units_small : (units : ℕ → ℕ) (arcs : List Arc) → All IsGoodArc arcs → All (λ u. u ≤ MAX) (flow_of units arcs)
    units_small units [] all = All-nil (λ u. u ≤ MAX)
    units_small units (a ∷ arcs) all =
        let most = (All-head IsGoodArc a arcs all).most_room in
        All-cons (λ u. u ≤ MAX) (min a.room (units a.dir)) (flow_of (λ dir. units dir - cond (nat_eq a.dir dir) (min a.room (units a.dir)) 0) arcs) (omega (arith, most)) (units_small (λ dir. units dir - cond (nat_eq a.dir dir) (min a.room (units a.dir)) 0) arcs (All-tail IsGoodArc a arcs all))

    flow_small : (r : Round) (net : Net) (flow : List ℕ) → IsGoodState view ask (state_of r) → net ≡ instance_of view ask (state_of r) → flow ≡ flow_in net r.parts → All (λ u. u ≤ MAX) flow
    flow_small r net flow good_state net_is flow_is =
        let instance : IsInstance net = subst IsInstance (sym net_is) (is_instance view ask (state_of r) seen good good_state) in
        subst (All (λ u. u ≤ MAX)) (sym flow_is) (units_small (λ dir. units_on dir r.parts) net.arcs instance.ranges.good_arcs)

    parts_outcome : (r : Round) (routes : List Route) (fee ppm : ℕ) (net : Net) (flow : List ℕ) (potentials : List ℤ) → IsGoodState view ask (state_of r) → All (IsPartOf view) r.parts → PartsOutcome view ask r routes fee ppm net flow potentials → IsOutcomeOf view (Parts routes fee ppm net flow potentials)
    parts_outcome r routes fee ppm net flow potentials good_state within out =
        let s = state_of r in (
          subst (All (IsRouteOf view)) (sym out.routes_are) (routes_within s.unit (demand_of ask.amount s * s.unit - ask.amount) r.parts within),
          record {
            arcs = out.shown.feasible.long;
            units = flow_small r net flow good_state out.net_is out.flow_is;
            nodes = out.shown.long;
            small = out.small;
          },
        )

    outcome_of : (r : Round) (outcome : Outcome) → IsGoodState view ask (state_of r) → IsRoundOf view r → IsOutcome view ask r outcome → IsOutcomeOf view outcome
    outcome_of r (Parts routes fee ppm net flow potentials) good_state of_view out = parts_outcome r routes fee ppm net flow potentials good_state of_view.parts out
    outcome_of r (Refused net side) good_state of_view out = (out.2.long ∙ ap (λ (n : Net). n.nodes) out.1, out.2.long)
    outcome_of r (OverFee fee) good_state of_view out = tt
    outcome_of r (OverDelay part delay) good_state of_view out = tt

    last_from : (rounds : List Round) (s : RoundState) (outcome : Outcome) → IsGoodState view ask s → IsRunFrom view ask s rounds → EndsWith view ask rounds outcome → LastRound view ask outcome
    last_from [] s outcome good_state follows ends = absurd follows
    last_from (r ∷ []) s outcome good_state follows ends = record { round = r; good_state = good_at r s good_state follows.0; result = follows.1; tells = ends }
    last_from (r ∷ q ∷ rounds) s outcome good_state follows ends = last_from (q ∷ rounds) (next_state view ask s r.parts r.fault) outcome (step_of view ask s r seen good good_state follows.0 follows.1 follows.2).good follows.3 ends

pub rounds_of_run : (view : ViewParts) (ask : Ask) (rounds : List Round) (outcome : Outcome) → IsGoodView view → IsGoodAsk ask → IsRun view ask rounds outcome → All (IsRoundOf view) rounds
rounds_of_run view ask rounds outcome seen good run = rounds_from view ask seen good rounds (first_state ask.amount) (first_good view ask good) run.0

pub last_of_run : (view : ViewParts) (ask : Ask) (rounds : List Round) (outcome : Outcome) → IsGoodView view → IsGoodAsk ask → IsRun view ask rounds outcome → LastRound view ask outcome
last_of_run view ask rounds outcome seen good run = last_from view ask seen good rounds (first_state ask.amount) outcome (first_good view ask good) run.0 run.1

pub outcome_of_run : (view : ViewParts) (ask : Ask) (rounds : List Round) (outcome : Outcome) → IsGoodView view → IsGoodAsk ask → IsRun view ask rounds outcome → IsOutcomeOf view outcome
outcome_of_run view ask rounds outcome seen good run =
    let last = last_of_run view ask rounds outcome seen good run in
    outcome_of view ask seen good last.round outcome last.good_state (round_of view ask last.round last.good_state last.result) last.tells
