use Rattle.std.proofs.Common.{sym}
use Rattle.askrene_state.specs.LayerSteps.{listed_of}
use Rattle.askrene_state.proofs.Entries.{take_next}
use Rattle.askrene_state.proofs.listing.list_all.Goals as goal

pub loop-place-preserved : goal.loop-place-preserved
loop-place-preserved c =
    rw (c.in_ok-push.ensures.ok, c.loop-place.invariant, c.in_ok-listed.ensures) (sym (take_next listed_of c.args.layers.now.entries c.loop-place.place (c.in-Some.name.now, c.in-Some.layer.now) (sym c.in-Some.ensures.entry)))
