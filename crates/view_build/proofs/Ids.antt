-- Sets and lists of nodes.
use Rattle.std.proofs.Common.{◌≡◌, ℕ, ◌+◌, ◌<◌, ◌≤◌, ◌⊎◌, inl, inr, List, [], ◌∷◌, ◌++◌, get_or, Bool, true, false, true≢false, cond, refl, sym, ap, ◌∙◌, arith}
use Rattle.std.specs.Prelude.{◌||◌, nat_eq, bytes_eq}
use Rattle.std.specs.List.{list_any, Contains}
use Rattle.std.specs.List.Sorted.{IsStrictlySortedBy, IsNonDecreasingBy, IsPartitionPoint}
use Rattle.std.specs.declared.cmp.Ordering.{Ordering}
use Rattle.std.specs.declared.cmp.Ordering.TheVariants.{Less, Equal, Greater}
use Rattle.std.specs.Ordering.{nat_cmp, is_eq, is_lt, ordering_index, ordering_reverse}
use Rattle.std.specs.Cmp.{IsTotalOrder, both_ways, total}
use Rattle.std.specs.Cmp.Lexicographic.{slice_cmp, pointwise, texts_po}
use Rattle.std.proofs.lemmas.Map.Text.{is_eq-slice_cmp}
use Rattle.std.proofs.lemmas.Slice.Eq.{bytes_eq-Decides}
use Rattle.std.proofs.lemmas.Bool.{cases_lt}
use Rattle.std.proofs.lemmas.List.Folds.{list_any-append}
use Rattle.std.proofs.lemmas.List.Sorted.{searchable_from_sorted}
use Rattle.std.proofs.lemmas.Map.Keys.{Less-from_sorted}

pub id_total : IsTotalOrder (slice_cmp nat_cmp)
id_total = total texts_po (λ x y. refl)

-- ids that have no order are equal
pub same_ids : (a b : List ℕ) → slice_cmp nat_cmp a b ≡ Equal → a ≡ b
same_ids a b e = (bytes_eq-Decides a b).0 (sym (is_eq-slice_cmp a b) ∙ ap is_eq e)

pub is_itself : (a : List ℕ) → is_eq (slice_cmp nat_cmp a a) ≡ true
is_itself a = is_eq-slice_cmp a a ∙ (bytes_eq-Decides a a).1 refl

pub same_node : (a b : List ℕ) → bytes_eq a b ≡ true → a ≡ b
same_node a b = (bytes_eq-Decides a b).0

bytes_eq_symm : (a b : List ℕ) → bytes_eq a b ≡ bytes_eq b a
bytes_eq_symm a b = both_ways (bytes_eq a b) (bytes_eq b a) (λ e. (bytes_eq-Decides b a).1 (sym ((bytes_eq-Decides a b).0 e))) (λ e. (bytes_eq-Decides a b).1 (sym ((bytes_eq-Decides b a).0 e)))

-- one more node of a set
pub one_more_node : (x node : List ℕ) (before : Bool) (xs : List (List ℕ))
    → cond (is_eq (slice_cmp nat_cmp x node)) true (before || list_any (pointwise nat_eq node) xs) ≡ (before || list_any (pointwise nat_eq node) (xs ++ x ∷ []))
one_more_node x node before xs =
    ap (λ b. cond b true (before || list_any (pointwise nat_eq node) xs)) (is_eq-slice_cmp x node ∙ bytes_eq_symm x node)
    ∙ by (bytes_eq node x) before (list_any (pointwise nat_eq node) xs) ∙ ap (λ b. before || b) (sym (list_any-append (pointwise nat_eq node) xs (x ∷ [])))
  where
    by : (here before seen : Bool) → cond here true (before || seen) ≡ (before || (seen || (here || false)))
    by true true seen = refl
    by true false true = refl
    by true false false = refl
    by false true seen = refl
    by false false true = refl
    by false false false = refl

-- ids that ascend can be searched
pub searchable_ids : (nodes : List (List ℕ)) (node : List ℕ) → IsStrictlySortedBy (slice_cmp nat_cmp) nodes → IsNonDecreasingBy (λ y. ordering_index (slice_cmp nat_cmp y node)) nodes
searchable_ids nodes node up = searchable_from_sorted id_total (λ y. y) nodes node (λ k d low within.
    (let less = Less-from_sorted (slice_cmp nat_cmp) nodes k (k + 1) d up (omega arith) within in
    ap is_lt (id_total.antisymm (get_or nodes (k + 1) d) (get_or nodes k d) ∙ ap ordering_reverse less)))

-- where a search finds nothing, the id is not there
pub not_among : (nodes : List (List ℕ)) (i : ℕ) (node : List ℕ) → IsPartitionPoint (λ y. slice_cmp nat_cmp y node ≡ Less) (λ y. slice_cmp nat_cmp y node ≡ Greater) nodes i → ¬ (Contains nodes node)
not_among nodes i node point among = by (cases_lt among.0 i)
  where
    differs : (r : Ordering) → slice_cmp nat_cmp (get_or nodes among.0 node) node ≡ r → is_eq r ≡ false → ⊥
    differs r e f = true≢false (sym (is_itself node) ∙ ap (λ a. is_eq (slice_cmp nat_cmp a node)) (sym among.2) ∙ ap is_eq e ∙ f)

    by : (among.0 < i) ⊎ (i ≤ among.0) → ⊥
    by (inl before) = differs Less (point.0 among.0 node (omega arith) before) refl
    by (inr after) = differs Greater (point.1 among.0 node after among.1) refl
