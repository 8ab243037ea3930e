use Rattle.std.proofs.Common.{◌≡◌, refl}
use Rattle.std.specs.Prelude.{slice_index_or}
use Rattle.layer_ops.proofs.Places.{updated_in_place}
use Rattle.layer_ops.proofs.changes.update.Goals as goal

pub returns-clause-ok : goal.returns-clause-ok
returns-clause-ok c =
    let updates = c.args.layer.now.updates in
    let old = c.index-updates-place.result in
    let place = c.in-Some.place in
    let read : old ≡ slice_index_or updates place old = rw c.updates.ensures.list at c.index-updates-place.is in
    rw (c.in_ok-set_update.ensures.ok, c.merge-merged.ensures.value, ← c.in-Some.ensures.place, updated_in_place updates old c.args.change place c.in-Some.ensures.within read) refl
