use Rattle.std.proofs.Common.{◌≡◌, length, map, All, sym, ap, subst, ◌∙◌, arith}
use Rattle.std.proofs.lemmas.List.Sorted.{length_permutation}
use Rattle.channel_map.specs.Nodes.{ArePlaces, ends_at, id_at}
use Rattle.channel_map.proofs.Numbered.{ids_up}
use Rattle.channel_map.proofs.Places.{all_among, as_many, moved_names, moved_within}
use Rattle.channel_map.proofs.nodes.number_nodes.Goals as goal

pub places-requires-clause-few : goal.places-requires-clause-few
places-requires-clause-few c = omega (arith, length_permutation c.args.found.nodes.keys c.sort_unstable.new.self.keys c.sort_unstable.ensures.reordered.0)

pub places-requires-clause-all : goal.places-requires-clause-all
places-requires-clause-all c =
    let before = c.args.found.nodes.keys in
    let is : c.deref.result.now ≡ before = c.deref.ensures.value ∙ c.in_ok-before.ensures in
    rw is (all_among before c.sort_unstable.new.self.keys c.sort_unstable.ensures.reordered.0)

pub moved-requires : goal.moved-requires
moved-requires c =
    let before = c.args.found.nodes.keys in
    let is : c.deref.result.now ≡ before = c.deref.ensures.value ∙ c.in_ok-before.ensures in
    let long : length c.deref-2.result.now ≡ length before =
    ap length c.deref-2.ensures.value ∙ as_many c.sort_unstable.new.self.keys c.deref.result.now c.in_ok-places.places.items c.in_ok-places.ensures.named ∙ ap length is in
    subst (λ n. All (ArePlaces n) c.deref-3.result.now) (sym long) (subst (All (ArePlaces (length before))) (sym c.deref-3.ensures.value) c.requires.within)

pub returns : goal.returns
returns c =
    let before = c.args.found.nodes.keys in
    let old = c.args.found.ends.items in
    let sorted = c.sort_unstable.new.self.keys in
    let places = c.in_ok-places.places.items in
    let moved = c.sort_unstable.ensures.reordered.0 in
    let ids_are : c.in_ok-ids.ids.items ≡ sorted = c.in_ok-ids.ensures in
    let ends_are : c.in_ok-ends.ends.items ≡ map (ends_at places) old =
    c.in_ok-ends.ensures ∙ ap (λ list. map (ends_at list) c.deref-3.result.now) c.deref-2.ensures.value ∙ ap (map (ends_at places)) c.deref-3.ensures.value in
    let named : map (id_at sorted) places ≡ before = c.in_ok-places.ensures.named ∙ c.deref.ensures.value ∙ c.in_ok-before.ensures in
    record {
      same = rw ids_are moved;
      ascend = rw ids_are (ids_up sorted c.in_ok-sort_unstable.ensures.sorted c.sort_unstable.ensures.unique);
      named = rw (ids_are, ends_are) (moved_names sorted before places named old c.requires.within);
      within = rw (ids_are, ends_are) (moved_within sorted before places named old c.in_ok-places.ensures.within c.requires.within);
    }
