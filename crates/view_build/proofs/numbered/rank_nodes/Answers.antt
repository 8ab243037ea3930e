use Rattle.std.proofs.Common.{◌≡◌, ◌+◌, ◌<◌, [], ◌∷◌, ◌++◌, length, get_or, false, sym, ap, ◌∙◌, arith}
use Rattle.std.proofs.lemmas.List.{get_or_default, length-append}
use Rattle.view_build.proofs.Ranking.{none_ranked, ranked_more}
use Rattle.view_build.proofs.numbered.rank_nodes.Goals as goal

pub loop-place-init : goal.loop-place-init
loop-place-init c = record {
  ranked = none_ranked c.args.ids.now c.args.used.now c.in_ok-nodes.nodes.items c.in_ok-ranks.ranks.items c.in_ok-nodes.ensures.items c.in_ok-ranks.ensures.items;
  ranks = ap length c.in_ok-ranks.ensures.items;
}

pub loop-place-preserved : goal.loop-place-preserved
loop-place-preserved c =
    let l = c.loop-place in
    let ids = c.args.ids.now in
    let used = c.args.used.now in
    let id = c.index-ids-place.result in
    let within : length l.ranks.items < length ids = omega (arith, l.invariant.ranks, c.loop-place-test.true) in
    let id_is : get_or ids (length l.ranks.items) [] ≡ id = get_or_default ids (length l.ranks.items) [] id within ∙ ap (λ n. get_or ids n id) l.invariant.ranks ∙ sym c.index-ids-place.is in
    let count : c.len.result ≡ length l.nodes.items = omega arith in
    let ranks : c.push.new.self.items ≡ l.ranks.items ++ length l.nodes.items ∷ [] = c.in_ok-push.ensures.items ∙ ap (λ n. l.ranks.items ++ n ∷ []) count in
    record {
      ranked = rw (c.in_ok-push_marked.ensures, ranks) (ranked_more ids used l.nodes.items l.ranks.items id c.requires.ascend within c.requires.marks id_is l.invariant.ranked _ (ap (λ n. get_or used n false) l.invariant.ranks));
      ranks = ap length ranks ∙ length-append l.ranks.items (length l.nodes.items ∷ []) ∙ ap (λ n. n + 1) l.invariant.ranks;
    }
