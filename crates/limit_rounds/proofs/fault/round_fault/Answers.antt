use Rattle.std.proofs.Common.{◌∙◌, arith, sym, subst, ap, length}
use Rattle.round_rules.specs.State.{state_of}
use Rattle.limit_rounds.specs.Loads.{AreGoodRoutes}
use Rattle.limit_rounds.proofs.GoodRoutes.{good_routes}
use Rattle.limit_rounds.proofs.fault.round_fault.Goals as goal

pub fault_of_routes-requires : goal.fault_of_routes-requires
fault_of_routes-requires c =
    let view = c.args.view.now in
    let few = c.if-as_slice-from.false in
    let most = c.maxparts.ensures.good.few_parts in
    let value = c.maxparts.ensures.value in
    let from = c.from.ensures in
    let parts = ap length c.as_slice.ensures in
    subst (AreGoodRoutes (length view.dirs)) (sym (c.deref.ensures.value ∙ c.in_ok-routes.ensures))
    (good_routes view c.args.ask.now (state_of c.args.round.now) c.args.round.now.size c.args.round.now.parts c.maxparts.ensures.good c.requires.ask c.requires.state c.requires.parts (omega (arith, few, most, value, from, parts)))
