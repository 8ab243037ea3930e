-- The marked nodes and their ranks, one node after another.
use Rattle.std.proofs.Common.{◌≡◌, ℕ, ◌+◌, ◌<◌, ◌≤◌, ◌⊎◌, inl, inr, List, [], ◌∷◌, ◌++◌, length, get_or, take, Bool, true, false, true≢false, cond, refl, sym, ap, subst, ◌∙◌, arith}
use Rattle.std.specs.Prelude.{All}
use Rattle.std.specs.List.{AllByRecursion, count_by}
use Rattle.std.specs.List.Sorted.{IsStrictlySortedBy}
use Rattle.std.specs.Ordering.{nat_cmp}
use Rattle.std.specs.declared.cmp.Ordering.{Ordering}
use Rattle.std.specs.declared.cmp.Ordering.TheVariants.{Less}
use Rattle.std.specs.Cmp.Lexicographic.{slice_cmp}
use Rattle.std.proofs.lemmas.Bool.{cases_lt}
use Rattle.std.proofs.lemmas.List.{append-nil, get_or_append_left, get_or_at, length-append}
use Rattle.std.proofs.lemmas.List.Elements.{All-push, All-weaker, recursion_from_All}
use Rattle.std.proofs.lemmas.List.Sums.{count_by_more_no, count_by_more_yes}
use Rattle.std.proofs.lemmas.Map.Keys.{Less-from_sorted}
use Rattle.view_build.specs.Ends.{IsPlace}
use Rattle.view_build.specs.Ranked.{AreRanked, IsKept, is_set}
use Rattle.view_build.proofs.Each.{each_append}

-- one more key above all
pub sorted_push : {K : Type 0} (c : K → K → Ordering) (ks : List K) (k : K) → IsStrictlySortedBy c ks → AllByRecursion (λ y. c y k ≡ Less) ks → IsStrictlySortedBy c (ks ++ k ∷ [])
unfolding IsStrictlySortedBy
sorted_push c [] k up h = (tt, tt)
sorted_push c (x ∷ ks) k up h = (each_append (λ y. c x y ≡ Less) ks (k ∷ []) up.0 (h.0, tt), sorted_push c ks k up.1 h.1)

kept_more : (ids : List (List ℕ)) (used : List Bool) (m n : ℕ) → m ≤ n → (node : List ℕ) → IsKept ids used m node → IsKept ids used n node
kept_more ids used m n less node kept = record { place = kept.place; below = omega (arith, kept.below, less); marked = kept.marked; is = kept.is }

place_more : (nodes : List (List ℕ)) (id node : List ℕ) (place : ℕ) → IsPlace nodes node place → IsPlace (nodes ++ id ∷ []) node place
place_more nodes id node place at = record {
  within = omega (arith, length-append nodes (id ∷ []), at.within);
  is = get_or_append_left nodes (id ∷ []) [] place at.within ∙ at.is;
}

module _ (ids : List (List ℕ)) (used : List Bool) (nodes : List (List ℕ)) (ranks : List ℕ) (id : List ℕ)
    (up : IsStrictlySortedBy (slice_cmp nat_cmp) ids) (within : length ranks < length ids) (same : length used ≡ length ids)
    (id_is : get_or ids (length ranks) [] ≡ id) (are : AreRanked ids used nodes ranks) where
  long : length (ranks ++ length nodes ∷ []) ≡ length ranks + 1
  long = length-append ranks (length nodes ∷ [])

  only_more : All (IsKept ids used (length (ranks ++ length nodes ∷ []))) nodes
  only_more = All-weaker (IsKept ids used (length ranks)) (IsKept ids used (length (ranks ++ length nodes ∷ []))) (kept_more ids used (length ranks) (length (ranks ++ length nodes ∷ [])) (omega (arith, long))) nodes are.only

  earlier : (place : ℕ) → place < length ranks → get_or used place false ≡ true → IsPlace nodes (get_or ids place []) (get_or (ranks ++ length nodes ∷ []) place 0)
  earlier place before mark = rw (get_or_append_left ranks (length nodes ∷ []) 0 place before) (are.ranked place before mark)

  below_id : (node : List ℕ) → IsKept ids used (length ranks) node → slice_cmp nat_cmp node id ≡ Less
  below_id node kept = rw (← kept.is, ← id_is) (Less-from_sorted (slice_cmp nat_cmp) ids kept.place (length ranks) [] up kept.below within)

  pub ranked_yes : get_or used (length ranks) false ≡ true → AreRanked ids used (nodes ++ id ∷ []) (ranks ++ length nodes ∷ [])
  ranked_yes marked = record {
    ascend = sorted_push (slice_cmp nat_cmp) nodes id are.ascend (recursion_from_All (λ y. slice_cmp nat_cmp y id ≡ Less) nodes (All-weaker (IsKept ids used (length ranks)) (λ y. slice_cmp nat_cmp y id ≡ Less) below_id nodes are.only));
    few = length-append nodes (id ∷ []) ∙ ap (λ n. n + 1) are.few ∙ sym (count_by_more_yes is_set used (length ranks) false (omega (arith, same)) marked) ∙ ap (λ n. count_by is_set (take n used)) (sym long);
    ranked = λ place below mark. by place below mark (cases_lt place (length ranks));
    only = All-push (IsKept ids used (length (ranks ++ length nodes ∷ []))) nodes id only_more (record { place = length ranks; below = omega (arith, long); marked = marked; is = id_is });
  }
    where
      last : (place : ℕ) → place ≡ length ranks → IsPlace (nodes ++ id ∷ []) (get_or ids place []) (get_or (ranks ++ length nodes ∷ []) place 0)
      last place is = rw (is, get_or_at ranks (length nodes) [] 0 (length ranks) refl) (record {
        within = omega (arith, length-append nodes (id ∷ []));
        is = get_or_at nodes id [] [] (length nodes) refl ∙ sym id_is;
      })

      by : (place : ℕ) → place < length (ranks ++ length nodes ∷ []) → get_or used place false ≡ true → (place < length ranks) ⊎ (length ranks ≤ place)
          → IsPlace (nodes ++ id ∷ []) (get_or ids place []) (get_or (ranks ++ length nodes ∷ []) place 0)
      by place below mark (inl before) = place_more nodes id (get_or ids place []) (get_or (ranks ++ length nodes ∷ []) place 0) (earlier place before mark)
      by place below mark (inr after) = last place (omega (arith, long, below, after))

  pub ranked_no : get_or used (length ranks) false ≡ false → AreRanked ids used nodes (ranks ++ length nodes ∷ [])
  ranked_no unmarked = record {
    ascend = are.ascend;
    few = are.few ∙ sym (count_by_more_no is_set used (length ranks) false (omega (arith, same)) unmarked) ∙ ap (λ n. count_by is_set (take n used)) (sym long);
    ranked = λ place below mark. by place below mark (cases_lt place (length ranks));
    only = only_more;
  }
    where
      by : (place : ℕ) → place < length (ranks ++ length nodes ∷ []) → get_or used place false ≡ true → (place < length ranks) ⊎ (length ranks ≤ place)
          → IsPlace nodes (get_or ids place []) (get_or (ranks ++ length nodes ∷ []) place 0)
      by place below mark (inl before) = earlier place before mark
      by place below mark (inr after) =
          let is : place ≡ length ranks = omega (arith, long, below, after) in
          absurd (true≢false (sym mark ∙ ap (λ p. get_or used p false) is ∙ unmarked))

  pub ranked_more : (mark : Bool) → get_or used (length ranks) false ≡ mark → AreRanked ids used (nodes ++ cond mark (id ∷ []) []) (ranks ++ length nodes ∷ [])
  ranked_more true marked = ranked_yes marked
  ranked_more false unmarked = subst (λ ns. AreRanked ids used ns (ranks ++ length nodes ∷ [])) (sym (append-nil nodes)) (ranked_no unmarked)

no_ids : IsStrictlySortedBy (slice_cmp nat_cmp) []
unfolding IsStrictlySortedBy
no_ids = tt

pub none_ranked : (ids : List (List ℕ)) (used : List Bool) (nodes : List (List ℕ)) (ranks : List ℕ) → nodes ≡ [] → ranks ≡ [] → AreRanked ids used nodes ranks
none_ranked ids used nodes ranks no_nodes no_ranks = rw (no_nodes, no_ranks) (record {
  ascend = no_ids;
  few = refl;
  ranked = λ place below mark. absurd (omega (arith, below));
  only = λ k d below. absurd (omega (arith, below));
})
