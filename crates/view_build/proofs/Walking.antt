-- Directions of which nothing is said.
use Rattle.std.proofs.Common.{◌≡◌, ℕ, suc, ◌+◌, ◌<◌, ◌≤◌, ◌⊎◌, inl, inr, List, [], ◌∷◌, length, get_or, Bool, true, false, true≢false, Option, Some, None, refl, sym, ap, subst, ◌∙◌, arith}
use Rattle.std.specs.Prelude.{◌||◌, unwrap_or}
use Rattle.std.specs.BTreeMap.{BTreeMap, get, keys}
use Rattle.std.specs.List.{Contains, list_any}
use Rattle.std.specs.List.Sorted.{IsStrictlySortedBy}
use Rattle.std.specs.Ordering.{is_eq, is_lt, ordering_reverse}
use Rattle.std.specs.declared.cmp.Ordering.{Ordering}
use Rattle.std.specs.declared.cmp.Ordering.TheVariants.{Less, Equal, Greater}
use Rattle.std.proofs.lemmas.Bool.{cases_lt}
use Rattle.std.proofs.lemmas.List.{get_or_default, get_or-map, length-map}
use Rattle.std.proofs.lemmas.Map.Keys.{Less-from_sorted}
use Rattle.std.proofs.lemmas.Map.Views.{Contains-keys_from_lookup, list_any-from_Contains}
use Rattle.plan_base.specs.Dir.{Direction, same_dir, dir_order}
use Rattle.channel_map.proofs.Ascending.{dir_order_total, order_of_same, same_dir_equiv}
use Rattle.channel_map.specs.Edge.{IsAscending, directions_of}
use Rattle.channel_map.specs.declared.edge.Edge.{Edge}
use Rattle.view_build.proofs.Dirs.{equal_is_same, same_is_equal}

-- a direction that a map has is among its keys
key_found : {V : Type 0} (m : BTreeMap Direction V) (dir : Direction) (v : V) → get dir_order m dir ≡ Some v → Contains (keys m) dir
key_found m dir v e = Contains-keys_from_lookup {eq = λ a b. is_eq (dir_order a b)} (λ a b same. same_is_equal a b (sym (equal_is_same a b) ∙ same)) dir m.entries (rw e refl)

-- a direction that is not among keys has nothing
pub absent : {V : Type 0} (m : BTreeMap Direction V) (fresh : V) (dirs : List Direction) (dir : Direction) → (Contains (keys m) dir → Contains dirs dir) → list_any (same_dir dir) dirs ≡ false
    → unwrap_or (get dir_order m dir) fresh ≡ fresh
absent {V} m fresh dirs dir among none = by (get dir_order m dir) refl
  where
    by : (o : Option V) → get dir_order m dir ≡ o → unwrap_or (get dir_order m dir) fresh ≡ fresh
    by None e = rw e refl
    by (Some v) e = absurd (true≢false (sym (list_any-from_Contains same_dir_equiv dir dirs (among (key_found m dir v e))) ∙ none))

-- ---- whether a direction is among ascending ones

none_passes : (test : Direction → Bool) (dirs : List Direction) → ((k : ℕ) (d : Direction) → k < length dirs → test (get_or dirs k d) ≡ false) → list_any test dirs ≡ false
none_passes test [] h = refl
none_passes test (x ∷ dirs) h =
    ap (λ b. b || list_any test dirs) (h 0 x (omega arith)) ∙ none_passes test dirs (λ k d within. h (suc k) d (omega (arith, within)))

not_same : (a b : Direction) (r : Ordering) → dir_order a b ≡ r → is_eq r ≡ false → same_dir b a ≡ false
not_same a b r e f = same_dir_equiv.symm b a ∙ order_of_same a b ∙ ap is_eq e ∙ f

above : (a b : Direction) → is_lt (dir_order a b) ≡ false → same_dir a b ≡ false → dir_order b a ≡ Less
above a b f g = by (dir_order a b) refl
  where
    by : (r : Ordering) → dir_order a b ≡ r → dir_order b a ≡ Less
    by Less e = absurd (true≢false (sym (ap is_lt e) ∙ f))
    by Equal e = absurd (true≢false (sym (order_of_same a b ∙ ap is_eq e) ∙ g))
    by Greater e = dir_order_total.antisymm b a ∙ ap ordering_reverse e

module _ (dirs : List Direction) (at : ℕ) (dir : Direction) (up : IsStrictlySortedBy dir_order dirs)
    (passed : (k : ℕ) → k < at → dir_order (get_or dirs k dir) dir ≡ Less) where
  -- all are below, up to the end
  pub not_there : length dirs ≤ at → list_any (same_dir dir) dirs ≡ false
  not_there end = none_passes (same_dir dir) dirs (λ k d within. not_same (get_or dirs k d) dir Less (below k d within) refl)
    where
      below : (k : ℕ) (d : Direction) → k < length dirs → dir_order (get_or dirs k d) dir ≡ Less
      below k d within = ap (λ x. dir_order x dir) (get_or_default dirs k d dir within) ∙ passed k (omega (arith, within, end))

  -- the one at the place is above
  pub not_here : at < length dirs → is_lt (dir_order (get_or dirs at dir) dir) ≡ false → same_dir (get_or dirs at dir) dir ≡ false → list_any (same_dir dir) dirs ≡ false
  not_here within stops other = none_passes (same_dir dir) dirs (λ k d inside. subst (λ x. same_dir dir x ≡ false) (sym (get_or_default dirs k d dir inside)) (by k inside (cases_lt k at) (cases_lt at k)))
    where
      this : dir_order dir (get_or dirs at dir) ≡ Less
      this = above (get_or dirs at dir) dir stops other

      by : (k : ℕ) → k < length dirs → (k < at) ⊎ (at ≤ k) → (at < k) ⊎ (k ≤ at) → same_dir dir (get_or dirs k dir) ≡ false
      by k inside (inl before) other = not_same (get_or dirs k dir) dir Less (passed k before) refl
      by k inside (inr after) (inl later) =
          let more = dir_order_total.trans dir (get_or dirs at dir) (get_or dirs k dir) this (Less-from_sorted dir_order dirs at k dir up later inside) in
          order_of_same dir (get_or dirs k dir) ∙ ap is_eq more
      by k inside (inr after) (inr earlier) =
          let is : k ≡ at = omega (arith, after, earlier) in
          order_of_same dir (get_or dirs k dir) ∙ ap (λ p. is_eq (dir_order dir (get_or dirs p dir))) is ∙ ap is_eq this

pub found_here : (dirs : List Direction) (at : ℕ) (dir : Direction) → at < length dirs → same_dir (get_or dirs at dir) dir ≡ true → list_any (same_dir dir) dirs ≡ true
found_here dirs at dir within same = list_any-from_Contains same_dir_equiv dir dirs (at, within, same_is_equal (get_or dirs at dir) dir same)

pub here : (dirs : List Direction) (at : ℕ) (dir : Direction) → IsStrictlySortedBy dir_order dirs → ((k : ℕ) → k < at → dir_order (get_or dirs k dir) dir ≡ Less)
    → at < length dirs → is_lt (dir_order (get_or dirs at dir) dir) ≡ false → same_dir (get_or dirs at dir) dir ≡ list_any (same_dir dir) dirs
here dirs at dir up passed within stops = by (same_dir (get_or dirs at dir) dir) refl
  where
    by : (b : Bool) → same_dir (get_or dirs at dir) dir ≡ b → same_dir (get_or dirs at dir) dir ≡ list_any (same_dir dir) dirs
    by true same = same ∙ sym (found_here dirs at dir within same)
    by false other = other ∙ sym (not_here dirs at dir up passed within stops other)

-- ---- a walk along ascending directions

abbrev pub IsPassed : List Direction → List Edge → ℕ → ℕ → Type 0
IsPassed dirs edges at i = (k j : ℕ) (d : Direction) (e : Edge) → k < at → i ≤ j → j < length edges → dir_order (get_or dirs k d) (get_or edges j e).dir ≡ Less

edge_below : (edges : List Edge) (i j : ℕ) (e : Edge) → IsAscending edges → i < j → j < length edges → dir_order (get_or edges i e).dir (get_or edges j e).dir ≡ Less
edge_below edges i j e up less within =
    let dir_of : Edge → Direction = λ (x : Edge). x.dir in
    let first : i < length edges = omega (arith, less, within) in
    let long : length (directions_of edges) ≡ length edges = length-map edges dir_of in
    rw (← get_or-map dir_of edges i e e.dir first, ← get_or-map dir_of edges j e e.dir within) (Less-from_sorted dir_order (directions_of edges) i j e.dir up less (omega (arith, long, within)))

pub passed_more : (dirs : List Direction) (edges : List Edge) (old at i : ℕ) (edge : Edge) → IsAscending edges → at ≤ length dirs → i < length edges → edge ≡ get_or edges i edge
    → ((k : ℕ) → old ≤ k → k < at → dir_order (get_or dirs k edge.dir) edge.dir ≡ Less) → IsPassed dirs edges old i → IsPassed dirs edges at (i + 1)
passed_more dirs edges old at i edge up few within is passed before k j d e less later inside = by (cases_lt k old)
  where
    now : old ≤ k → dir_order (get_or dirs k d) (get_or edges j e).dir ≡ Less
    now after =
        let here = ap (λ x. dir_order x edge.dir) (get_or_default dirs k d edge.dir (omega (arith, less, few))) ∙ passed k after less in
        let e_is = get_or_default edges j e edge inside in
        let next : dir_order edge.dir (get_or edges j edge).dir ≡ Less = ap (λ (x : Edge). dir_order x.dir (get_or edges j edge).dir) is ∙ edge_below edges i j edge up (omega (arith, later)) inside in
        ap (λ (x : Edge). dir_order (get_or dirs k d) x.dir) e_is ∙ dir_order_total.trans (get_or dirs k d) edge.dir (get_or edges j edge).dir here next

    by : (k < old) ⊎ (old ≤ k) → dir_order (get_or dirs k d) (get_or edges j e).dir ≡ Less
    by (inl earlier) = before k j d e earlier (omega (arith, later)) inside
    by (inr after) = now after

pub passed_here : (dirs : List Direction) (edges : List Edge) (old at i : ℕ) (edge : Edge) → i < length edges → edge ≡ get_or edges i edge
    → ((k : ℕ) → old ≤ k → k < at → dir_order (get_or dirs k edge.dir) edge.dir ≡ Less) → IsPassed dirs edges old i → (k : ℕ) → k < at → dir_order (get_or dirs k edge.dir) edge.dir ≡ Less
passed_here dirs edges old at i edge within is passed before k less = by (cases_lt k old)
  where
    by : (k < old) ⊎ (old ≤ k) → dir_order (get_or dirs k edge.dir) edge.dir ≡ Less
    by (inl earlier) = ap (λ (x : Edge). dir_order (get_or dirs k edge.dir) x.dir) is ∙ before k i edge.dir edge earlier (omega arith) within
    by (inr after) = passed k after less
