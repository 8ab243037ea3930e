use Rattle.std.proofs.Common.{◌∙◌, sym, ap, subst, arith, ◌≡◌, ◌<◌, length, false}
use Rattle.std.specs.Prelude.{map, nat_lt, slice_index}
use Rattle.std.proofs.lemmas.Bool.{ltb-false}
use Rattle.std.proofs.lemmas.Grind.{get_or_default_zero}
use Rattle.flow_model.specs.Instance.{Net}
use Rattle.flow_model.specs.Side.{Cuts}
use Rattle.flow_solver.specs.declared.labels.TheConstants.{UNREACHED}
use Rattle.flow_solver.specs.Search.{IsSearchResult}
use Rattle.flow_solver.proofs.Advances.{reached_cut}
use Rattle.flow_solver.proofs.correcting.CorrectingSearchAugment.augment.Goals as goal

pub returns-then-not-is_reached-clause-cuts : goal.returns-then-not-is_reached-clause-cuts
returns-then-not-is_reached-clause-cuts c =
    let p = c.args.self.now.potentials.items in
    let found = subst (λ q. IsSearchResult c.args.residual.now q c.in_ok-found.found.labels.items c.in_ok-found.found.parents.items) c.deref.ensures.value c.in_ok-found.ensures in
    let labels = c.in_ok-found.found.labels.items in
    let state = c.requires.partial in
    let demand = ap (λ (n : Net). n.demand) c.requires.net in
    let t_is = c.destination.ensures ∙ sym (ap (λ (n : Net). n.destination) c.requires.net) in
    let off : nat_lt c.index.result.now UNREACHED ≡ false = sym c.is_reached.ensures ∙ c.if-not-is_reached.true in
    let far = ltb-false c.index.result.now UNREACHED off in
    let known : c.destination.result < length labels = (let l = state.ok.good.ranges.ends.destination_in in let n = found.tree.long in omega (arith, l, n, t_is)) in
    let at = c.index.ensures ∙ get_or_default_zero labels c.destination.result c.index.result.now known ∙ ap (slice_index labels) t_is in
    let side = c.in_ok-side.ensures ∙ ap (map (λ label. nat_lt label UNREACHED)) c.deref-then-not-is_reached.ensures.value in
    let less = c.requires.less in
    subst (λ (n : Net). Cuts n c.in_ok-side.side.items) c.requires.net (reached_cut c.args.residual.now p c.args.sent labels c.in_ok-found.found.parents.items c.in_ok-side.side.items state found (omega (arith, less, demand)) (omega (arith, far, at)) side)
