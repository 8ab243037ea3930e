use Rattle.std.proofs.Common.{◌≡◌, ℕ, ◌+◌, ◌<◌, ◌≤◌, ◌∷◌, [], ◌++◌, false, List, drop, get_or, length, map, refl, sym, ap, subst, ◌∙◌, arith}
use Rattle.std.specs.Prelude.{All}
use Rattle.std.specs.List.{filter_map, list_any}
use Rattle.std.specs.Ordering.{is_lt}
use Rattle.std.specs.declared.cmp.Ordering.TheVariants.{Less}
use Rattle.std.proofs.Math.ListN.{drop_of_length-le}
use Rattle.plan_base.specs.Dir.{dir_order, same_dir}
use Rattle.channel_map.specs.declared.edge.Edge.{Edge}
use Rattle.channel_map.specs.Edge.{IsGoodEdge}
use Rattle.channel_map.specs.Nodes.{ArePlaces, named_ends}
use Rattle.view_build.specs.Built.{named_direction}
use Rattle.view_build.specs.Disabled.{has_node}
use Rattle.view_build.specs.Merged.{below, merged}
use Rattle.view_build.specs.Opened.{Opens, opened_by}
use Rattle.view_build.specs.Table.{moved_ends}
use Rattle.view_build.proofs.Opening.{as_many, long, marked_ends, merged_more, moved_named, moved_within, nodes_at, opens_more, opens_one, within_marks}
use Rattle.view_build.proofs.Walking.{passed_here, passed_more}
use Rattle.view_build.proofs.open.open_all.Goals as goal

pub is_at-affected-requires : goal.is_at-affected-requires
is_at-affected-requires c =
    let l = c.loop-i in
    let edges = c.args.edges.now in
    let dirs = c.args.changes.now.affected.items in
    let edge = c.index-edges-i.result in
    let place = c.seek-at.result in
    let within : l.i < length edges = omega arith in
    let first = c.deref-in-loop-i.ensures.value in
    let second = c.deref-in-loop-i-2.ensures.value in
    let passed = subst (λ ds. (k : ℕ) → l.at ≤ k → k < place → dir_order (get_or ds k edge.dir) edge.dir ≡ Less) first c.seek-at.ensures.passed in
    record {
      ascend = rw second c.requires.affected.ascend;
      passed = subst (λ ds. (k : ℕ) → k < place → dir_order (get_or ds k edge.dir) edge.dir ≡ Less) (sym second)
          (passed_here dirs edges l.at place l.i edge within c.index-edges-i.is passed l.invariant.passed);
      stops = subst (λ ds. place < length ds → is_lt (dir_order (get_or ds place edge.dir) edge.dir) ≡ false) (first ∙ sym second) c.seek-at.ensures.stops;
    }

pub place_at-place-requires : goal.place_at-place-requires
place_at-place-requires c =
    let nodes = c.args.nodes.now in
    let table = c.requires.table in
    let ids = c.args.table.now.ids.items in
    let moved = c.args.table.now.moved.items in
    let marks = c.in_ok-marks.marks.items in
    let old = c.index.result.now in
    let third = c.deref-in-loop-i-3.ensures.value in
    let fourth = c.deref-in-loop-i-4.ensures.value in
    let marks_are = c.in_ok-marks.ensures ∙ ap (map (has_node c.args.changes.now.disabled)) c.deref.ensures.value in
    let many : c.loop-i.i < length nodes.ends.items = omega (arith, as_many c.args.edges.now nodes c.requires.nodes) in
    let at = subst (ArePlaces (length nodes.ids.items)) (sym c.index.ensures) (c.requires.nodes.within c.loop-i.i old many) in
    record {
      ends = subst (λ n. ArePlaces n old) (sym (ap length third ∙ long nodes.ids.items ids moved table.named table.within)) at;
      marks = subst (λ ms. All (λ place. place < length ms) c.deref-in-loop-i-3.result.now) (sym fourth)
          (subst (All (λ place. place < length marks)) (sym third) (within_marks c.args.changes.now ids marks moved marks_are table.within));
    }

pub push_edge-requires : goal.push_edge-requires
push_edge-requires c =
    let l = c.loop-i in
    let nodes = c.args.nodes.now in
    let edges = c.args.edges.now in
    let table = c.requires.table in
    let ids = c.args.table.now.ids.items in
    let moved = c.args.table.now.moved.items in
    let marks = c.in_ok-marks.marks.items in
    let edge = c.index-edges-i.result in
    let old = c.index.result.now in
    let third = c.deref-in-loop-i-3.ensures.value in
    let fourth = c.deref-in-loop-i-4.ensures.value in
    let marks_are = c.in_ok-marks.ensures ∙ ap (map (has_node c.args.changes.now.disabled)) c.deref.ensures.value in
    let within : l.i < length edges = omega arith in
    let many : l.i < length nodes.ends.items = omega (arith, within, as_many edges nodes c.requires.nodes) in
    let at = subst (ArePlaces (length nodes.ids.items)) (sym c.index.ensures) (c.requires.nodes.within l.i old many) in
    let named = moved_named nodes.ids.items ids moved table.named table.within old at ∙ nodes_at edges nodes l.i edge old c.requires.nodes within c.index-edges-i.is c.index.ensures in
    let mark = λ (p : ℕ). ap (λ ms. get_or ms (get_or c.deref-in-loop-i-3.result.now p 0) false) fourth ∙ ap (λ mv. get_or marks (get_or mv p 0) false) third in
    record {
      changes = c.requires.changes;
      all = c.requires.affected;
      affected = c.is_at-affected.ensures ∙ ap (list_any (same_dir edge.dir)) c.deref-in-loop-i-2.ensures.value;
      edge = subst IsGoodEdge (sym c.index-edges-i.is) (c.requires.edges l.i edge within);
      place = marked_ends c.args.changes.now edge ids marks (moved_ends moved old) c.place_at-place.result marks_are named (moved_within nodes.ids.items ids moved table.named table.within old at)
          (c.place_at-place.ensures.source ∙ mark old.from) (c.place_at-place.ensures.destination ∙ mark old.to);
      dirs = c.in_ok-next.ensures.good;
    }

pub loop-i-preserved : goal.loop-i-preserved
loop-i-preserved c =
    let l = c.loop-i in
    let changes = c.args.changes.now in
    let rule = opened_by changes in
    let table = c.requires.table in
    let ids = c.args.table.now.ids.items in
    let moved = c.args.table.now.moved.items in
    let nodes = c.args.nodes.now in
    let edges = c.args.edges.now in
    let created = drop l.next c.args.created.now in
    let e = c.index-edges-i.result in
    let old = c.index.result.now in
    let middle = c.open_below.new.dirs.items in
    let within : l.i < length edges = omega arith in
    let many : l.i < length nodes.ends.items = omega (arith, within, as_many edges nodes c.requires.nodes) in
    let at = subst (ArePlaces (length nodes.ids.items)) (sym c.index.ensures) (c.requires.nodes.within l.i old many) in
    let named = moved_named nodes.ids.items ids moved table.named table.within old at ∙ nodes_at edges nodes l.i e old c.requires.nodes within c.index-edges-i.is c.index.ensures in
    let first : Opens ids rule (below e.dir created) l.dirs.items middle = c.in_ok-next.ensures.opens in
    let ends = c.place_at-place.result.ends in
    let ends_is : ends ≡ moved_ends moved old = c.place_at-place.ensures.ends ∙ ap (λ m. moved_ends m old) c.deref-in-loop-i-3.ensures.value in
    let placed = subst (ArePlaces (length ids)) (sym ends_is) (moved_within nodes.ids.items ids moved table.named table.within old at) in
    let good = subst IsGoodEdge (sym c.index-edges-i.is) (c.requires.edges l.i e within) in
    let second : Opens ids rule (e ∷ []) middle c.push_edge.new.dirs.items =
    opens_one ids changes e ends middle c.push_edge.new.dirs.items good (ap (named_ends ids) ends_is ∙ named) placed c.in_ok-push_edge.ensures.dirs in
    let rest = merged (drop (l.i + 1) edges) (drop c.in_ok-next.next c.args.created.now) in
    let split = merged_more edges created l.i e (drop c.in_ok-next.next c.args.created.now) within c.index-edges-i.is c.in_ok-next.ensures.rest in
    let affected = changes.affected.items in
    let is = c.deref-in-loop-i.ensures.value in
    let walked : c.seek-at.result ≤ length affected = subst (λ ds. c.seek-at.result ≤ length ds) is c.seek-at.ensures.within in
    let passed = subst (λ ds. (k : ℕ) → l.at ≤ k → k < c.seek-at.result → dir_order (get_or ds k e.dir) e.dir ≡ Less) is c.seek-at.ensures.passed in
    record {
      named = opens_more ids rule (e ∷ []) (e ∷ rest) rest middle c.push_edge.new.dirs.items _ second refl
          (opens_more ids rule (below e.dir created) (merged (drop l.i edges) created) (e ∷ rest) l.dirs.items middle _ first split l.invariant.named);
      places = second.places (first.places l.invariant.places);
      good = c.in_ok-push_edge.ensures.good;
      within = c.in_ok-next.ensures.within;
      walked = walked;
      passed = passed_more affected edges l.at c.seek-at.result l.i e c.requires.ascend walked within c.index-edges-i.is passed l.invariant.passed;
    }

pub returns-clause-opens : goal.returns-clause-opens
returns-clause-opens c =
    let l = c.loop-i in
    let rule = opened_by c.args.changes.now in
    let ids = c.args.table.now.ids.items in
    let created = drop l.next c.args.created.now in
    let opens = c.in_ok-open_rest.ensures.opens in
    let none : drop l.i c.args.edges.now ≡ [] = drop_of_length-le c.args.edges.now (omega arith) in
    record {
      named = opens.named ∙ ap (λ (list : List Edge). map (named_direction ids) l.dirs.items ++ filter_map rule (merged list created)) (sym none) ∙ l.invariant.named;
      places = λ none. opens.places l.invariant.places;
    }
