use Rattle.std.proofs.Common.{◌∙◌, sym, length, ap, cond, ◌++◌, [], ◌∷◌}
use Rattle.std.specs.Prelude.{nat_lt, slice_index_or}
use Rattle.view_build.specs.declared.view.ViewDir.{ViewDir}
use Rattle.limit_rounds.specs.declared.loads.Load.{Load}
use Rattle.limit_rounds.specs.Loads.{oversize_at}
use Rattle.limit_rounds.proofs.Listing.{oversize_is, list_turn}
use Rattle.limit_rounds.proofs.fault.oversize_dirs.Goals as goal

pub loop-d-preserved : goal.loop-d-preserved
loop-d-preserved c =
    let none : Load = record { total = 0; least = 0; most = 0 } in
    let is = oversize_is c.args.dirs.now c.args.loads.now c.loop-d.d c.index-dirs-d.result _ none c.loop-d-test.true c.requires.long c.index-dirs-d.is in
    list_turn (oversize_at c.args.dirs.now c.args.loads.now) c.loop-d.oversize.items c.push_if.new.out.items c.loop-d.d (length c.args.dirs.now) (nat_lt c.index-dirs-d.result.htlc_max (slice_index_or c.args.loads.now c.loop-d.d none).most) _ c.loop-d-test.true (sym is) (c.in_ok-push_if.ensures ∙ ap (λ (v : ViewDir). c.loop-d.oversize.items ++ cond (nat_lt v.htlc_max (slice_index_or c.args.loads.now c.loop-d.d none).most) (c.loop-d.d ∷ []) []) (sym c.index-dirs-d.is)) c.loop-d.invariant
