use Rattle.std.proofs.Common.{◌≡◌, ◌+◌, ◌<◌, ◌∷◌, [], ◌++◌, length, take, map, sym, ap, subst, ◌∙◌}
use Rattle.std.specs.List.{Contains}
use Rattle.std.proofs.lemmas.List.{take_more, map-append}
use Rattle.std.proofs.lemmas.List.Elements.{All-push}
use Rattle.channel_map.specs.Nodes.{id_at}
use Rattle.channel_map.proofs.nodes.places.Goals as goal

pub place_of-requires-clause-among : goal.place_of-requires-clause-among
place_of-requires-clause-among c =
    subst (Contains c.args.nodes.now.keys) (sym c.node-item.is) (c.requires.all c.loop-node.node-index c.node-item.result c.loop-node-test.true)

pub loop-node-preserved : goal.loop-node-preserved
loop-node-preserved c =
    let l = c.loop-node in
    let before = c.args.before.now in
    let keys = c.args.nodes.now.keys in
    let item = c.node-item.result in
    let more : take (l.node-index + 1) before ≡ take l.node-index before ++ item ∷ [] =
    take_more before l.node-index item c.loop-node-test.true ∙ ap (λ y. take l.node-index before ++ y ∷ []) (sym c.node-item.is) in
    record {
      named = ap (map (id_at keys)) c.in_ok-push.ensures.items ∙ map-append (id_at keys) l.places.items (c.place_of.result ∷ [])
          ∙ ap (λ list. list ++ id_at keys c.place_of.result ∷ []) l.invariant.named ∙ ap (λ id. take l.node-index before ++ id ∷ []) c.place_of.ensures.is
          ∙ sym more;
      within = rw c.in_ok-push.ensures.items (All-push (λ place. place < length keys) l.places.items c.place_of.result l.invariant.within c.place_of.ensures.within);
    }
