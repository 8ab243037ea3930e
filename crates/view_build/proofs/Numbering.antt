-- Directions between the nodes that they touch.
use Rattle.std.proofs.Common.{◌≡◌, ℕ, suc, ◌+◌, ◌++◌, ◌*◌, ◌<◌, ◌≤◌, ◌⊎◌, inl, inr, List, [], ◌∷◌, length, get_or, set, take, drop, Bool, true≢false, refl, sym, ap, ◌∙◌, arith}
use Rattle.std.specs.Prelude.{All, map}
use Rattle.std.specs.List.{Contains, count_by}
use Rattle.std.specs.List.Sorted.{IsStrictlySortedBy}
use Rattle.std.specs.Ordering.{nat_cmp, is_eq}
use Rattle.std.specs.Cmp.Lexicographic.{slice_cmp}
use Rattle.std.proofs.lemmas.Bool.{cases_lt}
use Rattle.std.proofs.lemmas.List.{append_assoc, drop_more, get_or_at, get_or_default, length-map, length-take-le, map-append, set_at, take_all, take_more}
use Rattle.std.proofs.lemmas.List.Elements.{All-contains, All-map, All-weaker, Contains-get_or}
use Rattle.std.proofs.lemmas.Map.Keys.{Less-from_sorted}
use Rattle.view_build.specs.declared.view.ViewDir.{ViewDir}
use Rattle.view_build.specs.Built.{named_direction}
use Rattle.view_build.specs.View.{IsGoodViewDir}
use Rattle.view_build.specs.Ends.{AreUsed, HasEnd, IsPlace}
use Rattle.view_build.specs.Ranked.{AreRanked, IsKept, is_set, with_ranks}
use Rattle.view_build.proofs.Ids.{is_itself}

not_below : (ids : List (List ℕ)) (i j : ℕ) → IsStrictlySortedBy (slice_cmp nat_cmp) ids → j < length ids → get_or ids i [] ≡ get_or ids j [] → ¬ (i < j)
not_below ids i j up within same before =
    let less = Less-from_sorted (slice_cmp nat_cmp) ids i j [] up before within in
    true≢false (sym (is_itself (get_or ids j [])) ∙ ap (λ a. is_eq (slice_cmp nat_cmp a (get_or ids j []))) (sym same) ∙ ap is_eq less)

-- ids that ascend stand at one place each
pub same_place : (ids : List (List ℕ)) (i j : ℕ) → IsStrictlySortedBy (slice_cmp nat_cmp) ids → i < length ids → j < length ids → get_or ids i [] ≡ get_or ids j [] → i ≡ j
same_place ids i j up first second same = by (cases_lt i j) (cases_lt j i)
  where
    by : (i < j) ⊎ (j ≤ i) → (j < i) ⊎ (i ≤ j) → i ≡ j
    by (inl less) other = absurd (not_below ids i j up second same less)
    by (inr more) (inl less) = absurd (not_below ids j i up first (sym same) less)
    by (inr more) (inr less) = omega (arith, more, less)

renamed : (ids nodes : List (List ℕ)) (ranks : List ℕ) (list : List ViewDir) → ((d : ViewDir) → Contains list d → named_direction nodes (with_ranks ranks d) ≡ named_direction ids d)
    → map (named_direction nodes) (map (with_ranks ranks) list) ≡ map (named_direction ids) list
renamed ids nodes ranks [] h = refl
renamed ids nodes ranks (d ∷ list) h =
    ap (λ o. o ∷ map (named_direction nodes) (map (with_ranks ranks) list)) (h d (0, omega arith, refl))
    ∙ ap (λ os. named_direction ids d ∷ os) (renamed ids nodes ranks list (λ x among. h x (suc among.0, omega (arith, among.1), among.2)))

module _ (ids : List (List ℕ)) (dirs : List ViewDir) (used : List Bool) (nodes : List (List ℕ)) (ranks : List ℕ)
    (up : IsStrictlySortedBy (slice_cmp nat_cmp) ids) (good : All (IsGoodViewDir (length ids)) dirs) (marks : length used ≡ length ids)
    (marked : AreUsed dirs used) (few : count_by is_set used ≤ 2 * length dirs) (are : AreRanked ids used nodes ranks) (long : length ranks ≡ length ids) where
  pub few_nodes : length nodes ≤ 2 * length dirs
  few_nodes =
      let all = take_all (length ranks) used (omega (arith, marks, long)) in
      omega (arith, are.few, ap (count_by is_set) all, few)

  good_at : (d : ViewDir) → Contains dirs d → IsGoodViewDir (length ids) d
  good_at d among = All-contains (IsGoodViewDir (length ids)) dirs d good among

  from_at : (d : ViewDir) → Contains dirs d → IsPlace nodes (get_or ids d.from []) (get_or ranks d.from 0)
  from_at d among = are.ranked d.from (omega (arith, (good_at d among).from_in, long)) (marked.all d among).from

  to_at : (d : ViewDir) → Contains dirs d → IsPlace nodes (get_or ids d.to []) (get_or ranks d.to 0)
  to_at d among = are.ranked d.to (omega (arith, (good_at d among).to_in, long)) (marked.all d among).to

  pub same_names : map (named_direction nodes) (map (with_ranks ranks) dirs) ≡ map (named_direction ids) dirs
  same_names = renamed ids nodes ranks dirs (λ d among. rw ((from_at d among).is, (to_at d among).is) refl)

  good_one : (d : ViewDir) → Contains dirs d → IsGoodViewDir (length nodes) (with_ranks ranks d)
  good_one d among =
      let old = good_at d among in
      let from = from_at d among in
      let to = to_at d among in
      record {
        from_in = from.within;
        to_in = to.within;
        apart = λ same. old.apart (same_place ids d.from d.to up old.from_in old.to_in (sym from.is ∙ ap (λ rank. get_or nodes rank []) same ∙ to.is));
        bounds = old.bounds;
        most = old.most;
        htlc_min = old.htlc_min;
        htlc_max = old.htlc_max;
        base = old.base;
        ppm = old.ppm;
        delay = old.delay;
        bias_low = old.bias_low;
        bias_high = old.bias_high;
      }

  pub good_ranked : All (IsGoodViewDir (length nodes)) (map (with_ranks ranks) dirs)
  good_ranked = All-map (IsGoodViewDir (length nodes)) (with_ranks ranks) dirs (λ k d within. good_one (get_or dirs k d) (Contains-get_or dirs k d within))

  pub all_nodes : (node : List ℕ) → HasEnd ids dirs node → Contains nodes node
  all_nodes node end = by end.ends
    where
      standing : (place : ℕ) → IsPlace nodes (get_or ids place []) (get_or ranks place 0) → get_or ids place [] ≡ node → Contains nodes node
      standing place at is = (get_or ranks place 0, at.within, get_or_default nodes (get_or ranks place 0) node [] at.within ∙ at.is ∙ is)

      by : (get_or ids end.direction.from [] ≡ node) ⊎ (get_or ids end.direction.to [] ≡ node) → Contains nodes node
      by (inl is) = standing end.direction.from (from_at end.direction end.among) is
      by (inr is) = standing end.direction.to (to_at end.direction end.among) is

  only_one : (node : List ℕ) → IsKept ids used (length ranks) node → HasEnd ids dirs node
  only_one node kept =
      let end = marked.only kept.place kept.marked in
      record { direction = end.direction; among = end.among; ends = by end.direction end.is }
    where
      by : (d : ViewDir) → (d.from ≡ kept.place) ⊎ (d.to ≡ kept.place) → (get_or ids d.from [] ≡ node) ⊎ (get_or ids d.to [] ≡ node)
      by d (inl is) = inl (ap (λ p. get_or ids p []) is ∙ kept.is)
      by d (inr is) = inr (ap (λ p. get_or ids p []) is ∙ kept.is)

  pub only_nodes : All (HasEnd ids dirs) nodes
  only_nodes = All-weaker (IsKept ids used (length ranks)) (HasEnd ids dirs) only_one nodes are.only

-- one more element changed
module _ {X : Type 0} (f : X → X) (xs all : List X) (i : ℕ) (x : X) (within : i < length xs) (is : all ≡ map f (take i xs) ++ drop i xs) where
  here : all ≡ map f (take i xs) ++ get_or xs i x ∷ drop (i + 1) xs
  here = is ∙ ap (λ rest. map f (take i xs) ++ rest) (drop_more xs i x within)

  long : length (map f (take i xs)) ≡ i
  long = length-map (take i xs) f ∙ length-take-le i xs (omega (arith, within))

  pub unchanged : get_or all i x ≡ get_or xs i x
  unchanged = ap (λ list. get_or list i x) here ∙ get_or_at (map f (take i xs)) (get_or xs i x) (drop (i + 1) xs) x i long

  pub changed_more : (v : X) → v ≡ f (get_or xs i x) → set all i v ≡ map f (take (i + 1) xs) ++ drop (i + 1) xs
  changed_more v v_is =
      let more : map f (take (i + 1) xs) ≡ map f (take i xs) ++ f (get_or xs i x) ∷ [] =
      ap (map f) (take_more xs i x within) ∙ map-append f (take i xs) (get_or xs i x ∷ []) in
      ap (λ list. set list i v) here ∙ set_at (map f (take i xs)) (get_or xs i x) (drop (i + 1) xs) v i long
      ∙ ap (λ y. map f (take i xs) ++ y ∷ drop (i + 1) xs) v_is
      ∙ sym (append_assoc (map f (take i xs)) (f (get_or xs i x) ∷ []) (drop (i + 1) xs)) ∙ ap (λ front. front ++ drop (i + 1) xs) (sym more)
