use Rattle.std.proofs.Common.{◌≡◌, ◌+◌, ◌<◌, ◌∷◌, [], true, drop, length, sym, subst, ◌∙◌, arith}
use Rattle.std.specs.Ordering.{is_lt}
use Rattle.plan_base.specs.Dir.{dir_order}
use Rattle.channel_map.specs.Nodes.{HasBothEnds}
use Rattle.view_build.specs.Merged.{below}
use Rattle.view_build.specs.Opened.{opened_by}
use Rattle.view_build.proofs.Opening.{below_more, from_more, opens_more}
use Rattle.view_build.proofs.open.open_below.Goals as goal

pub push_created-requires-clause-ends : goal.push_created-requires-clause-ends
push_created-requires-clause-ends c =
    let e = c.index-created-next.result in
    subst (HasBothEnds c.args.table.now.ids.items) (sym c.index-created-next.is) (c.requires.ends c.loop-next.next e (omega arith))

pub loop-next-preserved : goal.loop-next-preserved
loop-next-preserved c =
    let l = c.loop-next in
    let dir = c.args.dir in
    let created = c.args.created.now in
    let e = c.index-created-next.result in
    let is = c.index-created-next.is in
    let within : l.next < length created = omega arith in
    let less : is_lt (dir_order e.dir dir) ≡ true = grind arith in
    let opens = c.in_ok-push_created.ensures.opens in
    record {
      named = opens_more c.args.table.now.ids.items (opened_by c.args.changes.now) (e ∷ []) (below dir (drop l.next created)) (below dir (drop (l.next + 1) created)) l.dirs.items c.push_created.new.dirs.items _ opens (below_more dir created l.next e within is less) l.invariant.named;
      places = λ all. opens.places (l.invariant.places all);
      good = c.in_ok-push_created.ensures.good;
      rest = sym (from_more dir created l.next e within is less) ∙ l.invariant.rest;
    }
