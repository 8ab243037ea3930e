use Rattle.std.proofs.Common.{◌∙◌, sym, refl, ap, subst, length, arith, ◌≡◌, ◌≤◌}
use Rattle.std.specs.Prelude.{All, replicate}
use Rattle.flow_model.specs.Instance.{IsInstance}
use Rattle.flow_model.specs.Potentials.{IsSmall}
use Rattle.flow_model.specs.Side.{Cuts}
use Rattle.flow_model.proofs.Duality.{cut_has_no_flow}
use Rattle.residual_net.specs.Residual.{IsResidualNet, ResidualNet}
use Rattle.flow_solver.specs.Search.{IsPartialSolution}
use Rattle.flow_solver.specs.Augmented.{IfSent, IfCutOff}
use Rattle.flow_solver.proofs.Advances.{first_state}
use Rattle.flow_solver.proofs.Answers.{all_small, answered}
use Rattle.flow_solver.proofs.successive.solve_by.Goals as goal

pub loop-sent-init : goal.loop-sent-init
loop-sent-init g c =
    let e = c.in_ok-residual.ensures.value in
    let p = g.A.Augment.shown c.args.search.now in
    record {
      partial = subst (λ (r : ResidualNet). IsPartialSolution r p 0) (sym e) (first_state (record { net = c.args.instance.now; flow = replicate (length c.args.instance.now.arcs) 0 }) p (subst IsResidualNet e c.in_ok-residual.ensures.bounds) refl c.requires.flat);
      fits = subst (λ (r : ResidualNet). g.A.Augment.fits c.args.search.now r) (sym e) c.requires.fits;
      net = ap (λ (r : ResidualNet). r.net) e;
      most = omega arith;
    }

pub loop-sent-preserved : goal.loop-sent-preserved
loop-sent-preserved g c =
    let inv = c.loop-sent.invariant in
    let found = c.in_ok-found.ensures in
    let partial = subst (λ r. IfSent r (λ n. IsPartialSolution c.augment.new.residual (g.A.Augment.shown c.augment.new.self) n)) c.in-Sent.is found.partial in
    let net = subst (λ r. IfSent r (λ n. c.augment.new.residual.net ≡ c.loop-sent.residual.net)) c.in-Sent.is found.net in
    let most = subst (λ r. IfSent r (λ n. n ≤ c.args.instance.now.demand)) c.in-Sent.is found.most in
    record {
      partial = partial;
      fits = subst (λ r. IfSent r (λ n. g.A.Augment.fits c.augment.new.self c.augment.new.residual)) c.in-Sent.is found.fits;
      net = net ∙ inv.net;
      most = most;
    }

pub returns-in-Cut-clause-no_flow : goal.returns-in-Cut-clause-no_flow
returns-in-Cut-clause-no_flow g c flow = cut_has_no_flow c.args.instance.now c.from_vec.result flow (subst IsInstance c.loop-sent.invariant.net c.loop-sent.invariant.partial.ok.good).ranges.ends (subst (Cuts c.args.instance.now) (sym c.from_vec.ensures) (subst (λ r. IfCutOff r (λ side. Cuts c.args.instance.now side)) c.in-Cut.is c.in_ok-found.ensures.cuts))

pub returns-clause-cheapest : goal.returns-clause-cheapest
returns-clause-cheapest g c =
    let inv = c.loop-sent.invariant in
    let full : c.loop-sent.sent ≡ c.args.instance.now.demand = (let l = c.loop-sent-test.false in let d = c.demand-demand.ensures in let m = inv.most in omega (arith, l, d, m)) in
    (answered c.args.instance.now c.loop-sent.residual c.from_vec-flow.result (g.A.Augment.shown c.loop-sent.search) c.loop-sent.sent inv.net (c.from_vec-flow.ensures ∙ c.in_ok-from_slice.ensures.items ∙ c.flow.ensures) full inv.partial).cheapest

pub returns-clause-in_order : goal.returns-clause-in_order
returns-clause-in_order g c =
    let inv = c.loop-sent.invariant in
    let full : c.loop-sent.sent ≡ c.args.instance.now.demand = (let l = c.loop-sent-test.false in let d = c.demand-demand.ensures in let m = inv.most in omega (arith, l, d, m)) in
    (answered c.args.instance.now c.loop-sent.residual c.from_vec-flow.result (g.A.Augment.shown c.loop-sent.search) c.loop-sent.sent inv.net (c.from_vec-flow.ensures ∙ c.in_ok-from_slice.ensures.items ∙ c.flow.ensures) full inv.partial).filled_in

pub returns-clause-small : goal.returns-clause-small
returns-clause-small g c = subst (All IsSmall) (sym (c.from_vec-2.ensures ∙ c.in_ok-potentials.ensures)) (all_small c.loop-sent.residual.net (g.A.Augment.shown c.loop-sent.search) c.loop-sent.invariant.partial.bounded)
