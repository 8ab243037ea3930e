use Rattle.std.proofs.Common.{◌≡◌, ◌+◌, ◌∷◌, [], ◌++◌, length, take, drop, fold, map, All, sym, ap, subst, ◌∙◌, arith}
use Rattle.std.proofs.lemmas.List.{take_more, map-append}
use Rattle.std.proofs.lemmas.List.Elements.{All-push}
use Rattle.channel_map.specs.Nodes.{ArePlaces, ends_of, named_ends}
use Rattle.channel_map.specs.Reading.{with_ends}
use Rattle.channel_map.proofs.Places.{still_named, still_within, two_more}
use Rattle.channel_map.proofs.Turning.{ends_more}
use Rattle.channel_map.proofs.nodes.find_nodes.Goals as goal

pub loop-edge-preserved : goal.loop-edge-preserved
loop-edge-preserved c =
    let l = c.loop-edge in
    let edges = c.args.edges.now in
    let edge = c.edge-item.result in
    let old = l.nodes.keys in
    let new = c.add_ends.new.nodes.keys in
    let places = c.in_ok-places.places in
    let is : new ≡ with_ends old edge = c.in_ok-places.ensures.keys in
    let more : take (l.edge-index + 1) edges ≡ take l.edge-index edges ++ edge ∷ [] =
    take_more edges l.edge-index edge c.loop-edge-test.true ∙ ap (λ y. take l.edge-index edges ++ y ∷ []) (sym c.edge-item.is) in
    let same : map (named_ends new) l.ends.items ≡ map (named_ends old) l.ends.items =
    ap (λ keys. map (named_ends keys) l.ends.items) is ∙ still_named old edge l.ends.items l.invariant.within in
    let within : All (ArePlaces (length new)) l.ends.items = subst (λ keys. All (ArePlaces (length keys)) l.ends.items) (sym is) (still_within old edge l.ends.items l.invariant.within) in
    record {
      few = omega (arith, ap length is, two_more old edge, l.invariant.few);
      gathered = ap (λ keys. fold with_ends keys (drop (l.edge-index + 1) edges)) is
          ∙ sym (ends_more edges l.edge-index edge (omega arith) c.edge-item.is old) ∙ l.invariant.gathered;
      named = ap (map (named_ends new)) c.in_ok-push.ensures.items ∙ map-append (named_ends new) l.ends.items (places ∷ [])
          ∙ ap (λ list. list ++ named_ends new places ∷ []) (same ∙ l.invariant.named) ∙ ap (λ o. map ends_of (take l.edge-index edges) ++ o ∷ []) c.in_ok-places.ensures.named
          ∙ sym (map-append ends_of (take l.edge-index edges) (edge ∷ [])) ∙ ap (map ends_of) (sym more);
      within = rw c.in_ok-push.ensures.items (All-push (ArePlaces (length new)) l.ends.items places within c.in_ok-places.ensures.within);
    }
