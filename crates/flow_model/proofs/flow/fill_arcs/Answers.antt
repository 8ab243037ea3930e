use Rattle.std.proofs.Common.{◌≡◌, ◌<◌, ◌∙◌, ap, sym, length, arith}
use Rattle.std.specs.Prelude.{min, slice_index, slice_index_or}
use Rattle.std.proofs.lemmas.Grind.{get_or_default_zero}
use lib.ListN.{length-set}
use Rattle.flow_model.specs.declared.instance.Arc.{Arc}
use Rattle.flow_model.proofs.Filled.{fill_turn}
use Rattle.flow_model.proofs.flow.fill_arcs.Goals as goal

pub loop-arc-preserved : goal.loop-arc-preserved
loop-arc-preserved c =
    let none : Arc = record { from = 0; to = 0; room = 0; cost = 0; dir = 0 } in
    let arc = slice_index_or c.args.arcs.now c.loop-arc.arc-index none in
    let dir_in = c.requires c.loop-arc.arc-index none c.loop-arc-test.true in
    let known : arc.dir < length c.loop-arc.left.items = omega (arith, dir_in, c.loop-arc.invariant.1) in
    let was : c.index_mut.result.now ≡ slice_index c.loop-arc.left.items arc.dir = c.index_mut.ensures.value ∙ get_or_default_zero _ _ _ known in
    let read : c.index.result.now ≡ slice_index c.loop-arc.left.items arc.dir = c.index.ensures ∙ get_or_default_zero _ _ _ known in
    let takes : c.min-given.result ≡ min arc.room c.index_mut.result.now = c.min-given.ensures ∙ ap (min arc.room) (read ∙ sym was) in
    (fill_turn _ _ _ c.args.arcs.now c.loop-arc.arc-index _ _ none c.loop-arc-test.true known was takes c.in_ok-push.ensures.items ∙ c.loop-arc.invariant.0, length-set c.loop-arc.left.items _ _ ∙ c.loop-arc.invariant.1)
