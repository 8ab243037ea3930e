-- The nodes that are ends of directions, gathered and put in order.
use Rattle.std.proofs.Common.{◌≡◌, ℕ, ◌+◌, ◌⊎◌, inl, inr, zero, suc, List, [], ◌∷◌, ◌++◌, get_or, Bool, true, false, All, if◌then◌else◌, fold, refl, sym, ap, ◌∙◌, arith, true≢false}
use Rattle.std.specs.Prelude.{bytes_eq}
use Rattle.std.specs.List.{AllByRecursion, Contains, IsDistinct, list_any}
use Rattle.std.specs.List.Sorted.{IsPermutation, IsSorted, IsStrictlySortedBy}
use Rattle.std.specs.Cmp.{IsTotalOrder, total}
use Rattle.std.specs.Cmp.Lexicographic.{slice_cmp, texts_po}
use Rattle.std.specs.Ordering.{nat_cmp, is_lt, is_eq, ordering_reverse}
use Rattle.std.specs.declared.cmp.Ordering.{Ordering}
use Rattle.std.specs.declared.cmp.Ordering.TheVariants.{Less, Equal, Greater}
use Rattle.std.proofs.lemmas.List.Elements.{All-from_recursion, All-nil, Contains-append_left, Contains-get_or, Contains-push, Contains-push_cases}
use Rattle.std.proofs.lemmas.List.Sorted.{All-permutation, Contains-permutation}
use Rattle.std.proofs.lemmas.Map.Keys.{apart_from_distinct, sorted_from_all_adjacent}
use Rattle.std.proofs.lemmas.Map.Text.{is_eq-slice_cmp}
use Rattle.std.proofs.lemmas.Map.Views.{Contains-from_any}
use Rattle.std.proofs.lemmas.Slice.Eq.{bytes_eq-Decides}
use Rattle.channel_map.specs.declared.edge.Edge.{Edge}
use Rattle.channel_map.specs.declared.nodes.MapNodes.{MapNodes}
use Rattle.channel_map.specs.Nodes.{AreNodesOf, ArePlaces, HasBothEnds, IsEnd}
use Rattle.channel_map.specs.Reading.{nodes_of, with_ends, with_node}

-- ---- one more node

has_more : (nodes : List (List ℕ)) (node x : List ℕ) → Contains nodes x → Contains (with_node nodes node) x
has_more nodes node x among = by (list_any (bytes_eq node) nodes)
  where
    by : (b : Bool) → Contains (if b then nodes else nodes ++ node ∷ []) x
    by true = among
    by false = Contains-append_left nodes (node ∷ []) x among

has_itself : (nodes : List (List ℕ)) (node : List ℕ) → Contains (with_node nodes node) node
has_itself nodes node = by (list_any (bytes_eq node) nodes) refl
  where
    by : (b : Bool) → list_any (bytes_eq node) nodes ≡ b → Contains (if b then nodes else nodes ++ node ∷ []) node
    by true e = Contains-from_any (λ x y. (bytes_eq-Decides x y).0) node nodes e
    by false e = Contains-push nodes node

was : (nodes : List (List ℕ)) (node x : List ℕ) → Contains (with_node nodes node) x → Contains nodes x ⊎ (node ≡ x)
was nodes node x = by (list_any (bytes_eq node) nodes)
  where
    by : (b : Bool) → Contains (if b then nodes else nodes ++ node ∷ []) x → Contains nodes x ⊎ (node ≡ x)
    by true among = inl among
    by false among = Contains-push_cases nodes node x among

-- ---- the nodes of all directions

fold_has : (edges : List Edge) (seen : List (List ℕ)) (x : List ℕ) → Contains seen x → Contains (fold with_ends seen edges) x
fold_has [] seen x among = among
fold_has (e ∷ edges) seen x among = fold_has edges (with_ends seen e) x (has_more (with_node seen e.source) e.destination x (has_more seen e.source x among))

ends_gathered : (edges : List Edge) (seen : List (List ℕ)) → AllByRecursion (HasBothEnds (fold with_ends seen edges)) edges
ends_gathered [] seen = tt
ends_gathered (e ∷ edges) seen =
    let source = has_more (with_node seen e.source) e.destination e.source (has_itself seen e.source) in
    let destination = has_itself (with_node seen e.source) e.destination in
    (record { source = fold_has edges (with_ends seen e) e.source source; destination = fold_has edges (with_ends seen e) e.destination destination }, ends_gathered edges (with_ends seen e))

from_ends : (edges : List Edge) (seen : List (List ℕ)) (x : List ℕ) → Contains (fold with_ends seen edges) x → Contains seen x ⊎ IsEnd edges x
from_ends [] seen x among = inl among
from_ends (e ∷ edges) seen x among = by (from_ends edges (with_ends seen e) x among)
  where
    first : (e.source ≡ x) ⊎ (e.destination ≡ x) → IsEnd (e ∷ edges) x
    first is = record { edge = e; among = (zero, omega arith, refl); is = is }

    source : Contains seen x ⊎ (e.source ≡ x) → Contains seen x ⊎ IsEnd (e ∷ edges) x
    source (inl before) = inl before
    source (inr is) = inr (first (inl is))

    destination : Contains (with_node seen e.source) x ⊎ (e.destination ≡ x) → Contains seen x ⊎ IsEnd (e ∷ edges) x
    destination (inl before) = source (was seen e.source x before)
    destination (inr is) = inr (first (inr is))

    by : Contains (with_ends seen e) x ⊎ IsEnd edges x → Contains seen x ⊎ IsEnd (e ∷ edges) x
    by (inl before) = destination (was (with_node seen e.source) e.destination x before)
    by (inr end) = inr (record { edge = end.edge; among = (suc end.among.0, omega (arith, end.among.1), end.among.2); is = end.is })

only_ends : (edges : List Edge) → All (IsEnd edges) (nodes_of edges)
only_ends edges k d within = by (from_ends edges [] (get_or (nodes_of edges) k d) (Contains-get_or (nodes_of edges) k d within))
  where
    by : Contains [] (get_or (nodes_of edges) k d) ⊎ IsEnd edges (get_or (nodes_of edges) k d) → IsEnd edges (get_or (nodes_of edges) k d)
    by (inl none) = absurd (omega (arith, none.1))
    by (inr end) = end

-- ---- the same directions in another order

pub both_ends : (old edges : List Edge) (nodes : List (List ℕ)) → nodes ≡ nodes_of old → IsPermutation old edges → All (HasBothEnds nodes) edges
both_ends old edges nodes is moved = All-permutation (HasBothEnds nodes) old edges moved (rw is (All-from_recursion (HasBothEnds (nodes_of old)) old (ends_gathered old [])))

pub all_are_ends : (old edges : List Edge) (nodes : List (List ℕ)) → nodes ≡ nodes_of old → IsPermutation old edges → All (IsEnd edges) nodes
all_are_ends old edges nodes is moved = rw is (λ k d within.
    (let end = only_ends old k d within in
    record { edge = end.edge; among = Contains-permutation old edges end.edge moved end.among; is = end.is }))

-- ---- the nodes in order

pub id_total : IsTotalOrder (slice_cmp nat_cmp)
id_total = total texts_po (λ x y. refl)

less : (a b : List ℕ) → is_lt (slice_cmp nat_cmp b a) ≡ false → bytes_eq a b ≡ false → slice_cmp nat_cmp a b ≡ Less
less a b f g = by (slice_cmp nat_cmp a b) refl
  where
    by : (r : Ordering) → slice_cmp nat_cmp a b ≡ r → slice_cmp nat_cmp a b ≡ Less
    by Less e = e
    by Equal e = absurd (true≢false (sym (ap is_eq e) ∙ is_eq-slice_cmp a b ∙ g))
    by Greater e = absurd (true≢false (sym (ap is_lt (id_total.antisymm b a ∙ ap ordering_reverse e)) ∙ f))

pub ids_up : (ids : List (List ℕ)) → IsSorted (slice_cmp nat_cmp) ids → IsDistinct bytes_eq ids → IsStrictlySortedBy (slice_cmp nat_cmp) ids
ids_up ids sorted distinct = sorted_from_all_adjacent id_total ids [] (λ k within.
    less (get_or ids k []) (get_or ids (k + 1) []) (sorted k [] (omega arith) within) (apart_from_distinct bytes_eq ids k (k + 1) [] distinct (omega arith) within))

-- ---- no nodes

pub no_nodes : (edges : List Edge) (nodes : MapNodes) → edges ≡ [] → nodes.ids.items ≡ [] → nodes.ends.items ≡ [] → AreNodesOf edges nodes
no_nodes edges nodes none no_ids no_ends = record {
  few = rw no_ids (omega arith);
  ascend = rw no_ids (sorted_from_all_adjacent id_total [] [] (λ k l. absurd (omega arith)));
  only = rw no_ids (All-nil (IsEnd edges));
  named = rw (none, no_ids, no_ends) refl;
  within = rw (no_ids, no_ends) (All-nil (ArePlaces 0));
}
