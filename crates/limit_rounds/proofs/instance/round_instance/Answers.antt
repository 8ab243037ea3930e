use Rattle.std.proofs.Common.{◌∙◌, ◌<◌, ◌^◌, arith, ap, subst, sym, length}
use Rattle.std.proofs.lemmas.Grind.{get_or_default_zero}
use Rattle.path_split.proofs.Shares.{count_some}
use Rattle.cost_pieces.specs.Pieces.{rooms_of}
use Rattle.round_rules.specs.State.{state_of}
use Rattle.round_rules.specs.Instance.{arc_of, arcs_of_dir, arcs_with, arcs_from, cap_in}
use Rattle.flow_model.specs.Instance.{IsInstance}
use Rattle.limit_rounds.proofs.Building.{dir_turn, cap_is, all_arcs}
use Rattle.limit_rounds.proofs.Built.{is_instance}
use Rattle.limit_rounds.proofs.instance.round_instance.Goals as goal

pub loop-i-preserved : goal.loop-i-preserved
loop-i-preserved c =
    let s = state_of c.args.round.now in
    let i = c.loop-i.i in
    let l = c.loop-i-test.true in
    let amount = c.args.ask.now.amount in
    let u = count_some amount s.unit c.requires.ask.some c.requires.state.some_unit in
    let d = c.div_ceil-demand.ensures in
    let most = c.requires.ask.most in
    let small : c.div_ceil-demand.result < 2 ^ 64 = omega (arith, u, d, most) in
    let long = c.in_ok-caps.ensures.long in
    let within : i < length c.in_ok-caps.caps.items = omega (arith, long, l) in
    let read = c.index.ensures ∙ get_or_default_zero c.in_ok-caps.caps.items i _ within ∙ c.in_ok-caps.ensures.caps i l in
    let cap = c.min.ensures ∙ cap_is c.as_slice.result.now i c.div_ceil-demand.result c.index.result.now small read ∙ ap (λ cs. cap_in cs i c.div_ceil-demand.result) c.as_slice.ensures ∙ ap (cap_in s.caps i) d in
    let v = c.index-dirs-i.result in
    let is = ap (λ x. arcs_with (arc_of amount s i v) 0 (rooms_of v.min v.max s.unit x)) cap ∙ ap (arcs_of_dir amount s i) c.index-dirs-i.is in
    dir_turn amount s c.loop-i.arcs.items c.push_arcs.new.arcs.items c.dirs-dirs.result.now i v _ _ l c.in_ok-push_arcs.ensures is c.loop-i.invariant

pub new-requires : goal.new-requires
new-requires c =
    let s = state_of c.args.round.now in
    let view = c.args.view.now in
    let ask = c.args.ask.now in
    let arcs = all_arcs ask.amount s c.loop-i.arcs.items c.dirs-dirs.result.now c.loop-i.i c.loop-i-test.false c.loop-i.invariant ∙ ap (arcs_from ask.amount s 0) c.dirs-dirs.ensures.list in
    let nodes = ap length c.nodes.ensures.list in
    subst IsInstance (λ k. record { nodes = sym nodes k; source = sym c.source.ensures.value k; destination = sym c.destination.ensures.value k; demand = sym c.div_ceil-demand.ensures k; arcs = sym arcs k }) (is_instance view ask s c.dirs-dirs.ensures.good c.requires.ask c.requires.state)
