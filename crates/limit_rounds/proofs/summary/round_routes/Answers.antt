use Rattle.std.proofs.Common.{◌∙◌, arith, ap, sym, subst, length, List}
use Rattle.view_build.specs.declared.view.ViewDir.{ViewDir}
use Rattle.round_rules.specs.declared.round.Route.{Route}
use Rattle.round_rules.specs.State.{state_of}
use Rattle.round_rules.specs.Amounts.{carried, routes_of, total_on}
use Rattle.limit_rounds.specs.declared.loads.Load.{Load}
use Rattle.limit_rounds.specs.Loads.{AreGoodRoutes, load_on}
use Rattle.limit_rounds.proofs.Carried.{total_load}
use Rattle.limit_rounds.proofs.GoodRoutes.{good_routes}
use Rattle.limit_rounds.proofs.Chances.{few_parts, same_probability, totals_within}
use Rattle.limit_rounds.proofs.summary.round_routes.Goals as goal

pub loads-requires : goal.loads-requires
loads-requires c =
    let view = c.args.view.now in
    let ask = c.args.ask.now in
    let round = c.args.round.now in
    let seen = c.dirs-dirs.ensures.good in
    subst (λ (vs : List ViewDir). AreGoodRoutes (length vs) c.deref.result.now) (sym c.dirs-dirs.ensures.list)
    (subst (AreGoodRoutes (length view.dirs)) (sym (c.deref.ensures.value ∙ c.in_ok-routes.ensures))
    (good_routes view ask (state_of round) round.size round.parts seen c.requires.ask c.requires.state c.requires.parts (few_parts view ask (state_of round) round.size round.parts seen c.requires.ask c.requires.state c.requires.parts c.requires.fault)))

pub probability-ppm-requires-clause-within : goal.probability-ppm-requires-clause-within
probability-ppm-requires-clause-within c =
    let view = c.args.view.now in
    let ask = c.args.ask.now in
    let round = c.args.round.now in
    let routes = c.deref.ensures.value ∙ c.in_ok-routes.ensures in
    totals_within view ask (state_of round) round.size round.parts c.dirs-dirs.result.now c.deref-2.result.now c.in_ok-loads.loads.items c.dirs-dirs.ensures.good c.requires.ask c.requires.state c.requires.parts c.requires.fault c.dirs-dirs.ensures.list c.deref-2.ensures.value (λ d l. c.in_ok-loads.ensures.value d l ∙ ap (λ (rs : List Route). load_on d (carried rs)) routes)

pub fee_sum-fee-requires : goal.fee_sum-fee-requires
fee_sum-fee-requires c =
    let view = c.args.view.now in
    let ask = c.args.ask.now in
    let round = c.args.round.now in
    let seen = c.dirs-dirs.ensures.good in
    let few = (good_routes view ask (state_of round) round.size round.parts seen c.requires.ask c.requires.state c.requires.parts (few_parts view ask (state_of round) round.size round.parts seen c.requires.ask c.requires.state c.requires.parts c.requires.fault)).few in
    let n = ap length (c.deref-3.ensures.value ∙ c.in_ok-routes.ensures) in
    omega (arith, few, n)

pub returns-clause-ppm : goal.returns-clause-ppm
returns-clause-ppm c =
    let view = c.args.view.now in
    let ask = c.args.ask.now in
    let round = c.args.round.now in
    let ls = carried (routes_of view ask (state_of round) round.parts) in
    let routes = c.deref.ensures.value ∙ c.in_ok-routes.ensures in
    c.probability-ppm.ensures.value ∙ same_probability view c.dirs-dirs.result.now c.deref-2.result.now c.in_ok-loads.loads.items (λ d. total_on d ls) c.dirs-dirs.ensures.list c.deref-2.ensures.value (λ d l. ap (λ (x : Load). x.total) (c.in_ok-loads.ensures.value d l ∙ ap (λ (rs : List Route). load_on d (carried rs)) routes) ∙ total_load d ls)
