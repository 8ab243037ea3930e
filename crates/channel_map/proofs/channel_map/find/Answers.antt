use Rattle.std.proofs.Common.{Some, sym, ap, ◌∙◌, rules}
use Rattle.std.proofs.lemmas.List.Sorted.{answers_always}
use Rattle.channel_map.proofs.Search.{searchable, found_edge, no_edge}
use Rattle.channel_map.proofs.channel_map.find.Goals as goal

pub returns-in-Ok : goal.returns-in-Ok
returns-in-Ok c =
    let edges = c.args.edges.now in
    let edge = c.index-edges-place.result in
    let holds = c.in-Ok.ensures.position (λ edge. edge.dir) (answers_always _ _ _ (λ f a r g h. search rules)) in
    ap Some c.index-edges-place.is ∙ sym (found_edge edges c.in-Ok.place c.args.dir.now edge c.requires c.in-Ok.ensures.bound (holds edge))

pub returns-in-Err : goal.returns-in-Err
returns-in-Err c =
    let edges = c.args.edges.now in
    let point = c.in-Err.ensures.position (λ edge. edge.dir) (answers_always _ _ _ (λ f a r g h. search rules)) (searchable edges c.args.dir.now c.requires) in
    sym (no_edge edges c.in-Err.field-0 c.args.dir.now point)
