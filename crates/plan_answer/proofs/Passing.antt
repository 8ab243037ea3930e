-- Printed certificates pass the check.
use Rattle.std.proofs.Common.{ℕ, ◌≤◌, ◌≡◌, Bool, true, false, List, sym, refl, ap, ◌∙◌, subst, ⊎_elim, length}
use Rattle.std.specs.Prelude.{ℤ, nat_lt, ◌||◌, slice_index_or}
use Rattle.std.proofs.lemmas.Bool.{false≢true, ltb-false}
use Rattle.flow_model.specs.Instance.{Net, HasRanges, IsInstance}
use Rattle.flow_model.specs.Flow.{IsFilledInOrder, room_of}
use Rattle.flow_model.proofs.Filled.{in_order-filled}
use Rattle.path_split.specs.Parts.{units_on}
use Rattle.layer.specs.declared.ask.Ask.{Ask}
use Rattle.layer.specs.Ask.{IsGoodAsk}
use Rattle.certificate.specs.declared.limits.TheConstants.{CERT_ARCS_MAX, CERT_NODES_MAX}
use Rattle.certificate.specs.Certificate.{IsCertificate, flow_certificate, cut_certificate}
use Rattle.certificate.specs.Check.{verdict_of}
use Rattle.certificate.proofs.Texts.{text_is_read_back}
use Rattle.certificate.proofs.Passes.{shown_passes, cut_passes}
use Rattle.view_build.specs.View.{ViewParts, IsGoodView}
use Rattle.round_rules.specs.declared.round.Fault.{Fault}
use Rattle.round_rules.specs.declared.round.Fault.TheVariants.{None}
use Rattle.round_rules.specs.declared.round.Round.{Round}
use Rattle.round_rules.specs.declared.round.Route.{Route}
use Rattle.round_rules.specs.declared.run.Outcome.{Outcome}
use Rattle.round_rules.specs.declared.run.Outcome.TheVariants.{Parts, OverFee, OverDelay}
use Rattle.round_rules.specs.declared.run.Outcome.TheVariants.{NoFlow as Refused}
use Rattle.round_rules.specs.State.{IsGoodState, state_of}
use Rattle.round_rules.specs.Instance.{instance_of}
use Rattle.round_rules.specs.Runs.{HasCheapestParts, HasNoFlow, IsRoundResult, PartsOutcome}
use Rattle.limit_rounds.proofs.Built.{is_instance}
use Rattle.plan_answer.specs.Laws.{CertificatesPass, PassesCheck}
use Rattle.plan_answer.specs.RoutesReply.{is_too_large}
use Rattle.plan_answer.specs.Within.{IsOutcomeOf}
use Rattle.plan_answer.proofs.Runs.{LastRound, last_of_run, outcome_of_run}

both_false : (a b : Bool) → (a || b) ≡ false → (a ≡ false) × (b ≡ false)
both_false true b e = absurd (false≢true (sym e))
both_false false b e = (refl, e)

-- an instance that is not too large has the ranges of a certificate
ranges_of : (net : Net) → IsInstance net → is_too_large net ≡ false → HasRanges CERT_NODES_MAX CERT_ARCS_MAX net
ranges_of net instance fits =
    let few = both_false (nat_lt CERT_ARCS_MAX (length net.arcs)) (nat_lt CERT_NODES_MAX net.nodes) fits in
    record {
      ends = instance.ranges.ends;
      few_nodes = ltb-false CERT_NODES_MAX net.nodes few.1;
      few_arcs = ltb-false CERT_ARCS_MAX (length net.arcs) few.0;
      some_demand = instance.ranges.some_demand;
      most_demand = instance.ranges.most_demand;
      good_arcs = instance.ranges.good_arcs;
    }

module _ (view : ViewParts) (ask : Ask) (seen : IsGoodView view) (good : IsGoodAsk ask) where
  instance_at : (r : Round) (net : Net) → IsGoodState view ask (state_of r) → net ≡ instance_of view ask (state_of r) → IsInstance net
  instance_at r net good_state is = subst IsInstance (sym is) (is_instance view ask (state_of r) seen good good_state)

  -- the flow that good parts make is filled in order
  in_order : (r : Round) (routes : List Route) (fee ppm : ℕ) (net : Net) (flow : List ℕ) (potentials : List ℤ) → PartsOutcome view ask r routes fee ppm net flow potentials → IsRoundResult view ask (state_of r) r.parts r.fault → IsFilledInOrder net flow
  in_order r routes fee ppm net flow potentials out result = in_order-filled net (λ dir. units_on dir r.parts) flow out.flow_is
      (λ k d l. subst (λ (n : Net). units_on (slice_index_or net.arcs k d).dir r.parts ≤ room_of (slice_index_or net.arcs k d).dir n.arcs) (sym out.net_is) (fits result (slice_index_or net.arcs k d).dir))
    where
      is_none : Fault → Bool
      is_none None = true
      is_none other = false

      fits : IsRoundResult view ask (state_of r) r.parts r.fault → (dir : ℕ) → units_on dir r.parts ≤ room_of dir (instance_of view ask (state_of r)).arcs
      fits = ⊎_elim
          (λ (solved : HasCheapestParts view ask (state_of r) r.parts r.fault). solved.good.fits)
          (λ (failed : HasNoFlow view ask (state_of r) r.parts r.fault). absurd (false≢true (ap is_none (sym failed.fault_is ∙ out.fault_is))))

  passes : (outcome : Outcome) → LastRound view ask outcome → IsOutcomeOf view outcome → PassesCheck outcome
  passes (Parts routes fee ppm net flow potentials) last sizes = λ fits c is same.
      let out = last.tells in
      let instance = instance_at last.round net last.good_state out.net_is in
      let printed : IsCertificate (flow_certificate net flow potentials) = record { ranges = ranges_of net instance fits; directions = tt; answer = (sizes.1.arcs, sizes.1.units, sizes.1.nodes, sizes.1.small) } in
      ap verdict_of (text_is_read_back c (flow_certificate net flow potentials) is printed same)
      ∙ shown_passes net flow potentials instance.ranges.ends instance.dearer (in_order last.round routes fee ppm net flow potentials out last.result) out.shown
  passes (Refused net side) last sizes = λ fits c is same.
      let instance = instance_at last.round net last.good_state last.tells.1 in
      let printed : IsCertificate (cut_certificate net side) = record { ranges = ranges_of net instance fits; directions = tt; answer = sizes.1 } in
      ap verdict_of (text_is_read_back c (cut_certificate net side) is printed same) ∙ cut_passes net side instance.dearer last.tells.2
  passes (OverFee fee) last sizes = tt
  passes (OverDelay part delay) last sizes = tt

pub certificates_pass : CertificatesPass
certificates_pass view ask rounds outcome seen good run =
    passes view ask seen good outcome (last_of_run view ask rounds outcome seen good run) (outcome_of_run view ask rounds outcome seen good run)
