use Rattle.std.proofs.Common.{◌∙◌, ◌-◌, ◌*◌, arith, ap, map}
use Rattle.std.specs.Prelude.{slice_index_or}
use Rattle.std.proofs.lemmas.List.{get_or_default}
use Rattle.fee_backward.specs.Hop.{amounts_of}
use Rattle.round_rules.specs.View.{no_dir}
use Rattle.round_rules.specs.Amounts.{toll_of}
use Rattle.limit_rounds.proofs.Routing.{delivers_most, routes_turn}
use Rattle.limit_rounds.proofs.routes.routes.Goals as goal

pub route-requires-clause-delivered : goal.route-requires-clause-delivered
route-requires-clause-delivered c =
    let h = delivers_most c.args.parts.now c.args.demand c.args.unit c.args.ask.now.amount c.loop-i.i c.index-parts-i.result c.requires.sum c.requires.some c.requires.low c.requires.high c.loop-i-test.true in
    let e = c.less_at-less.ensures in
    let m = c.requires.amount in
    omega (arith, h, e, m)

pub loop-i-preserved : goal.loop-i-preserved
loop-i-preserved c =
    let i = c.loop-i.i in
    let l = c.loop-i-test.true in
    let unit = c.args.unit in
    let d = c.index-parts-i.result in
    let p = slice_index_or c.args.parts.now i d in
    let delivered = ap (λ n. p.units * unit - n) c.less_at-less.ensures in
    let path = c.as_slice.ensures ∙ ap (λ x. x.path) (get_or_default c.args.parts.now i _ d l) in
    let dirs = c.dirs-dirs.ensures.list in
    let is = c.in_ok-route.ensures ∙ (λ k. record { delivered = delivered k; path = path k; hops = amounts_of (map (λ x. toll_of (slice_index_or (dirs k) x no_dir)) (path k)) (delivered k) c.args.ask.now.final_cltv }) in
    routes_turn c.args.view.now c.args.ask.now unit (c.args.demand * unit - c.args.ask.now.amount) i c.args.parts.now d c.loop-i.routes.items c.push.new.self.items c.in_ok-route.field-0 _ l is c.in_ok-push.ensures.items c.loop-i.invariant
