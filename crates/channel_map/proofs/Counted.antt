-- The nodes of directions: as many in another order, and numbered.
use Rattle.std.proofs.Common.{◌≡◌, ℕ, ◌<◌, ◌≤◌, ◌⊎◌, inl, inr, List, [], ◌∷◌, ◌++◌, length, map, Bool, true, false, All, if◌then◌else◌, fold, None, refl, sym, ap, subst, ◌∙◌, arith}
use Rattle.std.specs.Prelude.{bytes_eq}
use Rattle.std.specs.List.{Contains, IsDistinct, list_any}
use Rattle.std.specs.List.Sorted.{IsPermutation}
use Rattle.std.proofs.Math.Nat.{le_antisymm}
use Rattle.std.proofs.lemmas.Bool.Decides.{nat_tests}
use Rattle.std.proofs.lemmas.Cmp.{nat_list_eq_equiv}
use Rattle.std.proofs.lemmas.List.Sorted.{All-permutation, IsPermutation-refl, IsPermutation-sym, length_permutation}
use Rattle.std.proofs.lemmas.Map.Keys.{IsDistinct-push}
use Rattle.std.proofs.lemmas.Map.Made.{length-le_from_is_member}
use Rattle.std.proofs.lemmas.Map.Views.{Contains-from_any, list_any-from_Contains}
use Rattle.std.proofs.lemmas.Slice.Eq.{bytes_eq-Decides}
use Rattle.channel_map.specs.declared.channel_map.TheConstants.{MAP_DIRECTIONS_MAX, MAP_NODES_MAX}
use Rattle.channel_map.specs.declared.edge.Edge.{Edge}
use Rattle.channel_map.specs.declared.nodes.Ends.{Ends}
use Rattle.channel_map.specs.declared.nodes.MapNodes.{MapNodes}
use Rattle.channel_map.specs.Nodes.{AreNodesOf, HasBothEnds, IsEnd, IsNumbered, ends_of, named_ends}
use Rattle.channel_map.specs.Reading.{accepted, too_many, is_large_map, reading_of_distinct, nodes_of, with_ends, with_node}
use Rattle.channel_map.proofs.Numbered.{all_are_ends, both_ends}

none_distinct : IsDistinct bytes_eq []
unfolding IsDistinct
none_distinct = tt

more_distinct : (nodes : List (List ℕ)) (node : List ℕ) → IsDistinct bytes_eq nodes → IsDistinct bytes_eq (with_node nodes node)
more_distinct nodes node distinct = by (list_any (bytes_eq node) nodes) refl
  where
    by : (b : Bool) → list_any (bytes_eq node) nodes ≡ b → IsDistinct bytes_eq (if b then nodes else nodes ++ node ∷ [])
    by true e = distinct
    by false e = IsDistinct-push nat_list_eq_equiv nodes node distinct e

all_distinct : (edges : List Edge) (seen : List (List ℕ)) → IsDistinct bytes_eq seen → IsDistinct bytes_eq (fold with_ends seen edges)
all_distinct [] seen distinct = distinct
all_distinct (e ∷ edges) seen distinct = all_distinct edges (with_ends seen e) (more_distinct (with_node seen e.source) e.destination (more_distinct seen e.source distinct))

among : (nodes : List (List ℕ)) (edges : List Edge) (x : List ℕ) → All (HasBothEnds nodes) edges → IsEnd edges x → Contains nodes x
among nodes edges x all end = by end.is
  where
    ends : HasBothEnds nodes end.edge
    ends = subst (HasBothEnds nodes) end.among.2 (all end.among.0 end.edge end.among.1)

    by : (end.edge.source ≡ x) ⊎ (end.edge.destination ≡ x) → Contains nodes x
    by (inl is) = subst (Contains nodes) is ends.source
    by (inr is) = subst (Contains nodes) is ends.destination

no_more : (old edges : List Edge) → IsPermutation old edges → length (nodes_of edges) ≤ length (nodes_of old)
no_more old edges moved = length-le_from_is_member nat_list_eq_equiv (nodes_of edges) (nodes_of old) (all_distinct edges [] none_distinct) (λ q found.
    (let here = Contains-from_any (λ x y. (bytes_eq-Decides x y).0) q (nodes_of edges) found in
    let end = all_are_ends edges edges (nodes_of edges) refl (IsPermutation-refl edges) here.0 q here.1 in
    list_any-from_Contains nat_list_eq_equiv q (nodes_of old) (among (nodes_of old) edges q (both_ends old edges (nodes_of old) refl moved) (subst (IsEnd edges) here.2 end))))

pub as_many_nodes : (old edges : List Edge) → IsPermutation old edges → length (nodes_of old) ≡ length (nodes_of edges)
as_many_nodes old edges moved = le_antisymm (no_more edges old (IsPermutation-sym old edges moved)) (no_more old edges moved)

pub are_nodes : (edges : List Edge) (nodes : List (List ℕ)) (ends : List Ends) (numbered : MapNodes) → length nodes ≤ MAP_NODES_MAX → nodes ≡ nodes_of edges → map (named_ends nodes) ends ≡ map ends_of edges → IsNumbered nodes ends numbered → AreNodesOf edges numbered
are_nodes edges nodes ends numbered few are named is = record {
  few = omega (arith, length_permutation nodes numbered.ids.items is.same, few);
  ascend = is.ascend;
  only = All-permutation (IsEnd edges) nodes numbered.ids.items is.same (all_are_ends edges edges nodes are (IsPermutation-refl edges));
  named = is.named ∙ named;
  within = is.within;
}

-- ---- what the text of a map is read as

module _ (old edges : List Edge) (nodes : List (List ℕ)) (moved : IsPermutation old edges) (are : nodes ≡ nodes_of edges) where
  as_many : length (nodes_of old) ≡ length nodes
  as_many = as_many_nodes old edges moved ∙ ap length (sym are)

  pub accepted_map : length old ≤ MAP_DIRECTIONS_MAX → length nodes ≤ MAP_NODES_MAX → reading_of_distinct is_large_map old None ≡ accepted old
  accepted_map few few_nodes =
      let n : length (nodes_of old) ≤ MAP_NODES_MAX = omega (arith, as_many, few_nodes) in
      let small : is_large_map old ≡ false = grind (arith, nat_tests) in
      ap (λ b. if b then too_many (length old) (length (nodes_of old)) else accepted old) small

  pub too_many_nodes : MAP_NODES_MAX < length nodes → reading_of_distinct is_large_map old None ≡ too_many (length old) (length nodes)
  too_many_nodes many =
      let n : MAP_NODES_MAX < length (nodes_of old) = omega (arith, as_many, many) in
      let large : is_large_map old ≡ true = grind (arith, nat_tests) in
      ap (λ b. if b then too_many (length old) (length (nodes_of old)) else accepted old) large ∙ ap (too_many (length old)) as_many

pub too_many_directions : (old edges : List Edge) → IsPermutation old edges → MAP_DIRECTIONS_MAX < length edges → reading_of_distinct is_large_map old None ≡ too_many (length edges) (length (nodes_of edges))
too_many_directions old edges moved many =
    let long : length old ≡ length edges = sym (length_permutation old edges moved) in
    let n : MAP_DIRECTIONS_MAX < length old = omega (arith, long, many) in
    let large : is_large_map old ≡ true = grind (arith, nat_tests) in
    ap (λ b. if b then too_many (length old) (length (nodes_of old)) else accepted old) large
    ∙ ap (λ count. too_many count (length (nodes_of old))) long ∙ ap (too_many (length edges)) (as_many_nodes old edges moved)
