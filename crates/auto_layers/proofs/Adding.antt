-- What one more direction changes in the layer of the payer's own channels.
use Rattle.std.proofs.Common.{◌≡◌, ℕ, ◌+◌, ◌*◌, ◌≤◌, ◌<◌, take, get_or, Option, sym, List, [], ◌∷◌, ◌++◌, length, Bool, true, false, Some, None, refl, ap, ◌∙◌, arith, cond}
use Rattle.std.specs.Prelude.{map}
use Rattle.std.specs.List.{flat_map}
use Rattle.std.proofs.lemmas.Bool.Decides.{nat_tests}
use Rattle.std.proofs.lemmas.Grind.{common_steps, flat_map-append}
use Rattle.std.proofs.lemmas.List.{length-map, map-append, take_more, length-take}
use Rattle.channel_map.specs.declared.edge.Edge.{Edge}
use Rattle.layer.specs.Layer.{LayerLists, count_entries}
use Rattle.auto_layers.specs.LocalLayer.{local_lists, local_channel, local_update, local_constraints, after_channel, first_directions}
use Rattle.auto_layers.specs.Added.{is_channel, last_channel, with_edge}

after_push : (scid : ℕ) (edges : List Edge) (edge : Edge)
    → after_channel scid (edges ++ edge ∷ []) ≡ after_channel scid edges ++ cond (is_channel (last_channel (Some scid) edges) edge) [] (edge ∷ [])
after_push scid [] edge = grind (arith, nat_tests)
after_push scid (x ∷ edges) edge = grind (arith, nat_tests, after_push scid edges edge, after_push x.dir.scid edges edge)

pub first_push : (edges : List Edge) (edge : Edge)
    → first_directions (edges ++ edge ∷ []) ≡ first_directions edges ++ cond (is_channel (last_channel None edges) edge) [] (edge ∷ [])
first_push [] edge = refl
first_push (x ∷ edges) edge = ap (λ rest. x ∷ rest) (after_push x.dir.scid edges edge)

pub last_push : (edges : List Edge) (edge : Edge) → last_channel None (edges ++ edge ∷ []) ≡ Some edge.dir.scid
last_push edges edge = by None edges
  where
    by : (last : _) (edges : List Edge) → last_channel last (edges ++ edge ∷ []) ≡ Some edge.dir.scid
    by last [] = refl
    by last (x ∷ edges) = by (Some x.dir.scid) edges

map_push : {X Y : Type 0} (f : X → Y) (xs : List X) (x : X) → map f (xs ++ x ∷ []) ≡ map f xs ++ f x ∷ []
map_push f xs x = map-append f xs (x ∷ [])

constraints_push : (edges : List Edge) (edge : Edge) → flat_map local_constraints (edges ++ edge ∷ []) ≡ flat_map local_constraints edges ++ local_constraints edge
constraints_push edges edge = flat_map-append local_constraints edges (edge ∷ [])

pub local_push : (edges : List Edge) (edge : Edge) → local_lists (edges ++ edge ∷ []) ≡ with_edge (local_lists edges) (last_channel None edges) edge
local_push edges edge = by (is_channel (last_channel None edges) edge) refl
  where
    by : (same : Bool) → is_channel (last_channel None edges) edge ≡ same → local_lists (edges ++ edge ∷ []) ≡ with_edge (local_lists edges) (last_channel None edges) edge
    by true same = grind (arith, common_steps, first_push edges edge, map_push local_update edges edge, constraints_push edges edge, same)
    by false same = grind (arith, common_steps, first_push edges edge, map_push local_channel (first_directions edges) edge, map_push local_update edges edge, constraints_push edges edge, same)

after_length : (scid : ℕ) (edges : List Edge) → length (after_channel scid edges) ≤ length edges
after_length scid [] = omega arith
after_length scid (x ∷ edges) = grind (arith, nat_tests, after_length scid edges, after_length x.dir.scid edges)

first_length : (edges : List Edge) → length (first_directions edges) ≤ length edges
first_length [] = omega arith
first_length (x ∷ edges) = grind (arith, after_length x.dir.scid edges)

constraints_length : (edges : List Edge) → length (flat_map local_constraints edges) ≡ 2 * length edges
constraints_length [] = omega arith
constraints_length (x ∷ edges) = grind (arith, common_steps, constraints_length edges)

pub count_local : (edges : List Edge) → count_entries (local_lists edges) ≤ 4 * length edges
count_local edges = omega (arith, first_length edges, constraints_length edges, length-map (first_directions edges) local_channel, length-map edges local_update)

-- one turn of the loop over the directions
module _ (edges : List Edge) (i : ℕ) (edge : Edge) (within : i < length edges) (is : edge ≡ get_or edges i edge) where
  one_more : take (i + 1) edges ≡ take i edges ++ edge ∷ []
  one_more = take_more edges i edge within ∙ ap (λ x. take i edges ++ x ∷ []) (sym is)

  pub next_layer : (layer new : LayerLists) (last : Option ℕ) → layer ≡ local_lists (take i edges) → last ≡ last_channel None (take i edges)
      → new ≡ with_edge layer last edge → new ≡ local_lists (take (i + 1) edges)
  next_layer layer new last layer_is last_is new_is =
      new_is ∙ ap (λ l. with_edge l last edge) layer_is ∙ ap (λ l. with_edge (local_lists (take i edges)) l edge) last_is
      ∙ sym (local_push (take i edges) edge) ∙ ap local_lists (sym one_more)

  pub next_last : Some edge.dir.scid ≡ last_channel None (take (i + 1) edges)
  next_last = sym (ap (last_channel None) one_more ∙ last_push (take i edges) edge)

  pub next_room : (layer : LayerLists) → layer ≡ local_lists (take i edges) → length edges ≤ 4096 → count_entries layer + 4 ≤ 65536
  next_room layer layer_is few =
      let count : count_entries layer ≤ 4 * length (take i edges) = rw layer_is (count_local (take i edges)) in
      omega (arith, length-take {A = Edge}, count)
