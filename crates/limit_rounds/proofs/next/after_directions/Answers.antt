use Rattle.std.proofs.Common.{◌∙◌, ◌<◌, ◌≤◌, ◌*◌, arith, ap, sym, subst, length, List}
use Rattle.std.specs.Prelude.{All, slice_index_or}
use Rattle.path_split.specs.declared.part.Part.{Part}
use Rattle.view_build.specs.declared.view.ViewDir.{ViewDir}
use Rattle.round_rules.specs.declared.round.Cap.{Cap}
use Rattle.round_rules.specs.View.{no_dir}
use Rattle.round_rules.specs.State.{state_of}
use Rattle.round_rules.specs.Instance.{times_in}
use Rattle.round_rules.specs.Next.{is_listed, cap_within_limit}
use Rattle.round_rules.proofs.Caps.{times_most}
use Rattle.round_rules.proofs.Keeps.{paths_within}
use Rattle.limit_rounds.specs.declared.units.Share.{Share}
use Rattle.path_split.specs.Parts.{units_on}
use Rattle.round_rules.specs.declared.round.Route.{Route}
use Rattle.round_rules.specs.Amounts.{carried}
use Rattle.limit_rounds.specs.Loads.{AreGoodRoutes, load_on}
use Rattle.limit_rounds.specs.Caps.{share_at}
use Rattle.limit_rounds.proofs.GoodRoutes.{good_routes}
use Rattle.limit_rounds.proofs.Raising.{raised_all}
use Rattle.limit_rounds.proofs.Following.{all_caps, caps_fit, untried_at}
use Rattle.limit_rounds.proofs.next.after_directions.Goals as goal

pub loads-requires : goal.loads-requires
loads-requires c =
    let view = c.args.view.now in
    let round = c.args.round.now in
    subst (λ (vs : List ViewDir). AreGoodRoutes (length vs) c.deref.result.now) (sym c.dirs-dirs.ensures.list)
    (subst (AreGoodRoutes (length view.dirs)) (sym (c.deref.ensures.value ∙ c.in_ok-routes.ensures))
    (good_routes view c.args.ask.now (state_of round) round.size round.parts c.dirs-dirs.ensures.good c.requires.ask c.requires.state c.requires.parts c.requires.few))

pub units_of-requires-clause-within : goal.units_of-requires-clause-within
units_of-requires-clause-within c =
    let view = c.args.view.now in
    let round = c.args.round.now in
    subst (λ (vs : List ViewDir). All (λ (p : Part). All (λ d. d < length vs) p.path) c.as_slice.result.now) (sym c.dirs-dirs.ensures.list)
    (subst (All (λ (p : Part). All (λ d. d < length view.dirs) p.path)) (sym c.as_slice.ensures) (paths_within view c.args.ask.now (state_of round) round.size round.parts c.requires.parts))

pub caps_for_loads-requires-clause-most : goal.caps_for_loads-requires-clause-most
caps_for_loads-requires-clause-most c d l =
    let view = c.args.view.now in
    let round = c.args.round.now in
    let is = c.dirs-dirs.ensures.list in
    let fit = caps_fit view c.args.ask.now (state_of round) round.size round.parts c.dirs-dirs.ensures.good c.requires.ask c.requires.state c.requires.parts d (subst (λ (vs : List ViewDir). d < length vs) is l) in
    let v = ap (λ (vs : List ViewDir). (slice_index_or vs d no_dir).max) is in
    let u = ap (λ (ss : List Share). (share_at ss d).units) c.deref-3.ensures.value ∙ c.in_ok-shares.ensures.units d l ∙ ap (λ (ps : List Part). units_on d ps) c.as_slice.ensures in
    let m = ap (λ n. n * round.unit) u in
    omega (arith, fit, v, m)

pub raise-requires-clause-times : goal.raise-requires-clause-times
raise-requires-clause-times c d l = subst (λ (cs : List Cap). times_in cs d ≤ 3) (sym c.as_slice-2.ensures) (times_most c.args.round.now.caps c.requires.state.most_times d)

pub returns : goal.returns
returns c =
    let view = c.args.view.now in
    let ask = c.args.ask.now in
    let round = c.args.round.now in
    let s = state_of round in
    let is = c.dirs-dirs.ensures.list in
    let routes = c.deref.ensures.value ∙ c.in_ok-routes.ensures in
    let value = all_caps view ask s round.parts _ c.args.listed.now _ _ _ _ c.in_ok-wanted.wanted.items c.dirs-dirs.ensures.good is c.deref-2.ensures.value c.deref-3.ensures.value
    (λ d l. c.in_ok-loads.ensures.value d l ∙ ap (λ (rs : List Route). load_on d (carried rs)) routes)
    (λ d l. c.in_ok-shares.ensures.units d l ∙ ap (units_on d) c.as_slice.ensures)
    c.in_ok-wanted.ensures.value in
    let caps = c.in_ok-caps.ensures ∙ raised_all view round.caps _ c.in_ok-wanted.wanted.items _ (is_listed c.args.listed.now) (cap_within_limit view ask s round.parts) c.as_slice-2.ensures c.deref-4.ensures.value (c.in_ok-wanted.ensures.long ∙ ap length is) value in
    untried_at c.untried.result _ _ (λ k. record { unit = round.unit; fee_level = round.fee_level; delay_level = round.delay_level; size = round.size; caps = caps k }) c.untried.ensures
