-- What a binary search finds in directions that ascend.
use Rattle.std.proofs.Common.{◌≡◌, ℕ, zero, suc, ◌+◌, ◌<◌, ◌≤◌, ◌⊎◌, inl, inr, List, [], ◌∷◌, length, get_or, false, All, Some, None, if◌then◌else◌, refl, sym, ap, subst, ◌∙◌, arith}
use Rattle.std.specs.Cmp.{alike_right}
use Rattle.std.specs.List.Sorted.{IsSortedByKey, IsNonDecreasingBy, IsPartitionPoint, IsPermutation}
use Rattle.std.specs.Ordering.{ordering_index, ordering_reverse, is_lt, is_eq}
use Rattle.std.specs.declared.cmp.Ordering.{Ordering}
use Rattle.std.specs.declared.cmp.Ordering.TheVariants.{Less, Equal, Greater}
use Rattle.std.proofs.lemmas.Bool.{cases_lt}
use Rattle.std.proofs.lemmas.List.{get_or-map, length-map}
use Rattle.std.proofs.lemmas.List.Sorted.{searchable_from_sorted, All-permutation, length_permutation}
use Rattle.std.proofs.lemmas.Map.Keys.{Less-from_sorted, sorted_tail, sorted_from_all_adjacent}
use Rattle.std.proofs.lemmas.List.Elements.{All-nil}
use Rattle.plan_base.specs.Dir.{Direction, same_dir, dir_order}
use Rattle.channel_map.specs.declared.edge.Edge.{Edge}
use Rattle.channel_map.specs.Edge.{directions_of, IsAscending, IsGoodEdge, IsGoodMap}
use Rattle.channel_map.specs.Listed.{edge_for}
use Rattle.channel_map.proofs.Ascending.{dir_order_total, order_of_same}

abbrev dir_of : Edge → Direction
dir_of edge = edge.dir

-- an earlier direction is below a later one
earlier_less : (edges : List Edge) (i j : ℕ) (d : Edge) → IsAscending edges → i < j → j < length edges → dir_order (get_or edges i d).dir (get_or edges j d).dir ≡ Less
earlier_less edges i j d up below within =
    let first : i < length edges = omega arith in
    let long : length (directions_of edges) ≡ length edges = length-map edges dir_of in
    rw (← get_or-map dir_of edges i d d.dir first, ← get_or-map dir_of edges j d d.dir within) (Less-from_sorted dir_order (directions_of edges) i j d.dir up below (omega (arith, long)))

sorted_by_dir : (edges : List Edge) → IsAscending edges → IsSortedByKey (λ edge. edge.dir) dir_order edges
sorted_by_dir edges up k d low within =
    let less = earlier_less edges k (k + 1) d up (omega arith) within in
    ap is_lt (dir_order_total.antisymm (get_or edges (k + 1) d).dir (get_or edges k d).dir ∙ ap ordering_reverse less)

pub searchable : (edges : List Edge) (dir : Direction) → IsAscending edges → IsNonDecreasingBy (λ edge. ordering_index (dir_order edge.dir dir)) edges
searchable edges dir up = searchable_from_sorted dir_order_total dir_of edges dir (sorted_by_dir edges up)

-- a direction that another order than `Equal` tells apart
differs : (a b : Direction) (r : Ordering) → dir_order a b ≡ r → is_eq r ≡ false → same_dir a b ≡ false
differs a b r e f = order_of_same a b ∙ ap is_eq e ∙ f

pub found_edge : (edges : List Edge) (i : ℕ) (dir : Direction) (d : Edge) → IsAscending edges → i < length edges → dir_order (get_or edges i d).dir dir ≡ Equal → edge_for dir edges ≡ Some (get_or edges i d)
found_edge [] i dir d up within e = absurd (omega arith)
found_edge (edge ∷ edges) zero dir d up within e = ap (λ b. if b then Some edge else edge_for dir edges) (order_of_same edge.dir dir ∙ ap is_eq e)
found_edge (edge ∷ edges) (suc i) dir d up within e =
    let less = earlier_less (edge ∷ edges) 0 (suc i) d up (omega arith) within in
    let apart = differs edge.dir dir Less (sym (alike_right dir_order_total (get_or edges i d).dir dir edge.dir e) ∙ less) refl in
    ap (λ b. if b then Some edge else edge_for dir edges) apart ∙ found_edge edges i dir d (sorted_tail dir_order edge.dir (directions_of edges) up) (omega arith) e

none_listed : (edges : List Edge) (dir : Direction) → ((k : ℕ) (d : Edge) → k < length edges → same_dir (get_or edges k d).dir dir ≡ false) → edge_for dir edges ≡ None
none_listed [] dir h = refl
none_listed (edge ∷ edges) dir h =
    ap (λ b. if b then Some edge else edge_for dir edges) (h 0 edge (omega arith)) ∙ none_listed edges dir (λ k d within. h (suc k) d (omega arith))

pub no_edge : (edges : List Edge) (i : ℕ) (dir : Direction) → IsPartitionPoint (λ edge. dir_order edge.dir dir ≡ Less) (λ edge. dir_order edge.dir dir ≡ Greater) edges i → edge_for dir edges ≡ None
no_edge edges i dir h = none_listed edges dir (λ k d within. by k d within (cases_lt k i))
  where
    by : (k : ℕ) (d : Edge) → k < length edges → (k < i) ⊎ (i ≤ k) → same_dir (get_or edges k d).dir dir ≡ false
    by k d within (inl below) = differs (get_or edges k d).dir dir Less (h.0 k d (omega arith) below) refl
    by k d within (inr above) = differs (get_or edges k d).dir dir Greater (h.1 k d above within) refl

pub no_edges : (most : ℕ) (edges : List Edge) → edges ≡ [] → IsGoodMap most edges
no_edges most edges e = subst (IsGoodMap most) (sym e) (record {
  few = omega arith;
  ascending = sorted_from_all_adjacent dir_order_total [] (record { scid = 0; side = 0 }) (λ k l. absurd (omega arith));
  good = All-nil IsGoodEdge;
})

-- the same directions in ascending order
pub sorted_map : (most : ℕ) (old edges : List Edge) → length old ≤ most → All IsGoodEdge old → IsPermutation old edges → IsAscending edges → IsGoodMap most edges
sorted_map most old edges few good moved up = record {
  few = omega (arith, length_permutation old edges moved);
  ascending = up;
  good = All-permutation IsGoodEdge old edges moved good;
}
