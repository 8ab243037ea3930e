use Rattle.std.proofs.Common.{refl, subst}
use Rattle.channel_map.specs.declared.nodes.Ends.{Ends}
use Rattle.view_build.specs.Ends.{IsPlace}
use Rattle.view_build.proofs.Opening.{opens_one}
use Rattle.view_build.proofs.open.push_created.Goals as goal

pub returns-clause-opens : goal.returns-clause-opens
returns-clause-opens c =
    let ids = c.args.table.now.ids.items in
    let edge = c.args.edge.now in
    let from = subst (λ list. IsPlace list edge.source c.place_of.result) c.deref.ensures.value c.place_of.ensures in
    let to = subst (λ list. IsPlace list edge.destination c.place_of-2.result) c.deref-2.ensures.value c.place_of-2.ensures in
    let ends : Ends = record { from = c.place_of.result; to = c.place_of-2.result } in
    opens_one ids c.args.changes.now edge ends c.args.dirs.now.items c.push_open.new.dirs.items c.requires.edge
    (rw (from.is, to.is) refl) (record { from = from.within; to = to.within }) c.in_ok-push_open.ensures.dirs
