-- The callers that wait: which place belongs to whom, as events come and answers are handed out.
use Rattle.std.proofs.Common.{◌≡◌, ℕ, Bool, true, false, cond, not, List, [], ◌∷◌, ◌++◌, filter, nat_eq, Some, None, Option, IfSome, All, Contains, ◌⊎◌, inl, inr, refl, sym, ◌∙◌, ap}
use Rattle.std.specs.List.{IsDistinct, AllByRecursion}
use Rattle.std.specs.Map.{keys_of, values_of, lookup}
use Rattle.std.specs.Cmp.{nat_eq_equiv}
use Rattle.std.proofs.lemmas.Bool.{eqb-true}
use Rattle.std.proofs.lemmas.List.{map-append}
use Rattle.std.proofs.lemmas.List.Elements.{All-contains, All-head, All-tail}
use Rattle.std.proofs.lemmas.Map.{lookup-none}
use Rattle.std.proofs.lemmas.Map.Entries.{lookup-filter-keys, none_past_head}
use Rattle.std.proofs.lemmas.Map.Keys.{IsDistinct-push, IsDistinct-cons}
use Rattle.std.proofs.lemmas.Map.Made.{Contains-values_of, is_some-lookup}
use Rattle.std.proofs.lemmas.Map.Views.{Contains-from_lookup, All-values_from_lookup, exact_unsigned_eq}
use Rattle.one_history.specs.declared.entry.Entry.{Entry}
use Rattle.one_history.specs.History.{caller_at}

-- the place that is found is among the places
pub found_among : (caller : ℕ) (ws : List (ℕ × ℕ)) (place : ℕ) → lookup (nat_eq caller) ws ≡ Some place → Contains (values_of ws) place
found_among caller ws place found = Contains-values_of ws caller place (Contains-from_lookup exact_unsigned_eq caller place ws found)

-- a look-up among some, then in one more
abbrev or_last : Option ℕ → Option ℕ → Option ℕ
or_last (Some place) last = Some place
or_last None last = last

push_found : (test : ℕ → Bool) (ws : List (ℕ × ℕ)) (w : ℕ × ℕ) → lookup test (ws ++ w ∷ []) ≡ or_last (lookup test ws) (lookup test (w ∷ []))
push_found test [] w = refl
push_found test (x ∷ ws) w =
    elim (test x.0) as (λ b. cond b (Some x.1) (lookup test (ws ++ w ∷ [])) ≡ or_last (cond b (Some x.1) (lookup test ws)) (lookup test (w ∷ [])))
    [ true ↦ refl | false ↦ push_found test ws w ]

-- what is found is still found after one more
pub lookup_push : (test : ℕ → Bool) (ws : List (ℕ × ℕ)) (w : ℕ × ℕ) (place : ℕ) → lookup test ws ≡ Some place → lookup test (ws ++ w ∷ []) ≡ Some place
lookup_push test ws w place found = push_found test ws w ∙ ap (λ o. or_last o (lookup test (w ∷ []))) found

-- what is found then was found before, or is the last
pub lookup_push_cases : (test : ℕ → Bool) (ws : List (ℕ × ℕ)) (w : ℕ × ℕ) (place : ℕ) → lookup test (ws ++ w ∷ []) ≡ Some place → (lookup test ws ≡ Some place) ⊎ (w.1 ≡ place)
lookup_push_cases test ws w place found = by (lookup test ws) (test w.0) (sym (push_found test ws w) ∙ found)
  where
    by : (before : Option ℕ) (b : Bool) → or_last before (cond b (Some w.1) None) ≡ Some place → (before ≡ Some place) ⊎ (w.1 ≡ place)
    by (Some p) b is = inl is
    by None true is = let e : w.1 ≡ place = cc in inr e
    by None false is = cc

-- a new one is found
pub lookup_pushed : (caller : ℕ) (ws : List (ℕ × ℕ)) (place : ℕ) → lookup (nat_eq caller) ws ≡ None → lookup (nat_eq caller) (ws ++ (caller, place) ∷ []) ≡ Some place
lookup_pushed caller ws place none = push_found (nat_eq caller) ws (caller, place) ∙ rw (none, nat_eq_equiv.refl caller) refl

-- without a caller, it is not found, and another is found as before
lookup_filtered : (caller other : ℕ) (ws : List (ℕ × ℕ))
    → lookup (nat_eq other) (filter (λ w. not (nat_eq caller w.0)) ws) ≡ cond (not (nat_eq caller other)) (lookup (nat_eq other) ws) None
lookup_filtered caller other ws =
    lookup-filter-keys (nat_eq other) (λ k. not (nat_eq caller k)) (not (nat_eq caller other)) (λ k same. ap (λ x. not (nat_eq caller x)) (sym (eqb-true other k same))) ws

pub lookup_without : (caller other : ℕ) (ws : List (ℕ × ℕ)) (place : ℕ) → lookup (nat_eq other) (filter (λ w. not (nat_eq caller w.0)) ws) ≡ Some place
    → (nat_eq caller other ≡ false) × (lookup (nat_eq other) ws ≡ Some place)
lookup_without caller other ws place found = by (nat_eq caller other) (sym (lookup_filtered caller other ws) ∙ found)
  where
    by : (b : Bool) → cond (not b) (lookup (nat_eq other) ws) None ≡ Some place → (b ≡ false) × (lookup (nat_eq other) ws ≡ Some place)
    by true is = cc
    by false is = (refl, is)

pub lookup_others : (caller other : ℕ) (ws : List (ℕ × ℕ)) (place : ℕ) → nat_eq caller other ≡ false → lookup (nat_eq other) ws ≡ Some place
    → lookup (nat_eq other) (filter (λ w. not (nat_eq caller w.0)) ws) ≡ Some place
lookup_others caller other ws place apart found = lookup_filtered caller other ws ∙ rw apart found

-- the caller of a place that is found
pub own_found : {M : Type 0} (history : List (Entry M)) (caller : ℕ) (ws : List (ℕ × ℕ)) (place : ℕ) → All (λ w. caller_at history w.1 ≡ Some w.0) ws → lookup (nat_eq caller) ws ≡ Some place
    → caller_at history place ≡ Some caller
own_found history caller ws place own found =
    All-contains (λ w. caller_at history w.1 ≡ Some w.0) ws (caller, place) own (Contains-from_lookup exact_unsigned_eq caller place ws found)

-- each place belongs to a caller that is found at it
pub each_found : (ws : List (ℕ × ℕ)) → IsDistinct nat_eq (keys_of ws) → All (λ place. (caller : ℕ) × (lookup (nat_eq caller) ws ≡ Some place)) (values_of ws)
each_found ws distinct = All-values_from_lookup nat_eq_equiv (λ place. (caller : ℕ) × (lookup (nat_eq caller) ws ≡ Some place)) ws distinct (λ caller. at caller (lookup (nat_eq caller) ws) refl)
  where
    at : (caller : ℕ) (found : Option ℕ) → lookup (nat_eq caller) ws ≡ found → IfSome found (λ place. (caller : ℕ) × (lookup (nat_eq caller) ws ≡ Some place))
    at caller None is = tt
    at caller (Some place) is = (caller, is)

-- a fact on all elements, by recursion
pub recursive : {X : Type 0} (P : X → Type 0) (xs : List X) → All P xs → AllByRecursion P xs
recursive P [] all = tt
recursive P (x ∷ xs) all = (All-head P x xs all, recursive P xs (All-tail P x xs all))

-- no two wait for one place, since its entry has one caller
pub places_distinct : {M : Type 0} (history : List (Entry M)) (ws : List (ℕ × ℕ)) → IsDistinct nat_eq (keys_of ws) → All (λ w. caller_at history w.1 ≡ Some w.0) ws
    → IsDistinct nat_eq (values_of ws)
unfolding IsDistinct
places_distinct history [] distinct own = tt
places_distinct history (w ∷ ws) distinct own = IsDistinct-cons nat_eq w.1 (values_of ws)
    (recursive (λ place. nat_eq w.1 place ≡ false) (values_of ws) (All-values_from_lookup nat_eq_equiv (λ place. nat_eq w.1 place ≡ false) ws distinct.1 (λ caller. at caller (lookup (nat_eq caller) ws) refl)))
    (places_distinct history ws distinct.1 rest)
  where
    rest : All (λ w. caller_at history w.1 ≡ Some w.0) ws
    rest = All-tail (λ w. caller_at history w.1 ≡ Some w.0) w ws own

    differs : (caller place : ℕ) → lookup (nat_eq caller) ws ≡ Some place → (b : Bool) → nat_eq w.1 place ≡ b → nat_eq w.1 place ≡ false
    differs caller place found true same =
        let mine : caller_at history place ≡ Some w.0 = rw (← eqb-true w.1 place same) (All-head (λ w. caller_at history w.1 ≡ Some w.0) w ws own) in
        let both : Some w.0 ≡ Some caller = sym mine ∙ own_found history caller ws place rest found in
        let e : caller ≡ w.0 = cc in
        let none : lookup (nat_eq caller) ws ≡ None = lookup-none (nat_eq caller) ws (none_past_head nat_eq_equiv caller w ws distinct (rw e (nat_eq_equiv.refl w.0))) in
        let never : None ≡ Some place = sym none ∙ found in cc
    differs caller place found false apart = apart

    at : (caller : ℕ) (found : Option ℕ) → lookup (nat_eq caller) ws ≡ found → IfSome found (λ place. nat_eq w.1 place ≡ false)
    at caller None is = tt
    at caller (Some place) is = differs caller place is (nat_eq w.1 place) refl

-- a caller that is not found may wait beside the others
pub keys_push : (caller place : ℕ) (ws : List (ℕ × ℕ)) → lookup (nat_eq caller) ws ≡ None → IsDistinct nat_eq (keys_of ws) → IsDistinct nat_eq (keys_of (ws ++ (caller, place) ∷ []))
keys_push caller place ws none distinct =
    rw (map-append (λ (w : ℕ × ℕ). w.0) ws ((caller, place) ∷ [])) (IsDistinct-push nat_eq_equiv (keys_of ws) caller distinct (sym (is_some-lookup (nat_eq caller) ws) ∙ rw none refl))
