use Rattle.std.proofs.Common.{◌+◌, ◌<◌, ◌∷◌, [], drop, length, sym, subst, arith}
use Rattle.channel_map.specs.Nodes.{HasBothEnds}
use Rattle.view_build.specs.Opened.{opened_by}
use Rattle.view_build.proofs.Opening.{at_place, opens_more}
use Rattle.view_build.proofs.open.open_rest.Goals as goal

pub push_created-requires-clause-ends : goal.push_created-requires-clause-ends
push_created-requires-clause-ends c =
    let e = c.index-created-next.result in
    subst (HasBothEnds c.args.table.now.ids.items) (sym c.index-created-next.is) (c.requires.ends c.loop-next.next e (omega arith))

pub loop-next-preserved : goal.loop-next-preserved
loop-next-preserved c =
    let l = c.loop-next in
    let created = c.args.created.now in
    let e = c.index-created-next.result in
    let within : l.next < length created = omega arith in
    let opens = c.in_ok-push_created.ensures.opens in
    record {
      named = opens_more c.args.table.now.ids.items (opened_by c.args.changes.now) (e ∷ []) (drop l.next created) (drop (l.next + 1) created) l.dirs.items c.push_created.new.dirs.items _ opens (at_place created l.next e within c.index-created-next.is) l.invariant.named;
      places = λ all. opens.places (l.invariant.places all);
      good = c.in_ok-push_created.ensures.good;
    }
