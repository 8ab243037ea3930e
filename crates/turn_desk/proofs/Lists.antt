-- Lists that are read by `get_elem?`: what becomes of facts on their elements if one is set or added; and sums over them.
use Rattle.std.proofs.Common.{◌≡◌, ℕ, zero, suc, ◌+◌, ◌*◌, ◌≤◌, ◌≢◌, ◌⊎◌, inl, inr, List, [], ◌∷◌, ◌++◌, length, set, sym, refl, ap, ◌∙◌, subst, ⊎_elim, zero-le, suc-mul, arith, All}
use Rattle.std.proofs.lemmas.List.{append-nil}
use Rattle.std.proofs.lemmas.List.Elements.{All-cons, All-nil, All-tail}
use mathlib.Core.Option.{some, some-injective, some-ne-none}
use mathlib.Core.Logic.{dite}
use native.Mathlib.Decide.{ℕ_discrete}
use lib.ListN.{get_elem?}
use Rattle.atomic_table.proofs.Lists.{at_set, set_else}
use Rattle.turn_desk.specs.Rule.{total}

module _ {A : Type 0} where
  pub set_in : (l : List A) (i : ℕ) (a b : A) → get_elem? l i ≡ some a → get_elem? (set l i b) i ≡ some b
  set_in [] i a b e = absurd (some-ne-none a (sym e))
  set_in (x ∷ xs) zero a b e = refl
  set_in (x ∷ xs) (suc i) a b e = set_in xs i a b e

  pub same_at : (l : List A) (i : ℕ) (a b : A) → get_elem? l i ≡ some a → get_elem? l i ≡ some b → a ≡ b
  same_at l i a b e f = some-injective a b (sym e ∙ f)

  -- the same, if the index is known to be i
  pub same_there : (l : List A) (i j : ℕ) (a b : A) → j ≡ i → get_elem? l j ≡ some b → get_elem? l i ≡ some a → b ≡ a
  same_there l i j a b is e f = same_at l i b a (subst (λ k. get_elem? l k ≡ some b) is e) f

  pub at_one : (x a : A) (i : ℕ) → get_elem? (x ∷ []) i ≡ some a → (i ≡ 0) × (x ≡ a)
  at_one x a zero e = (refl, some-injective x a e)
  at_one x a (suc i) e = absurd (some-ne-none a (sym e))

  pub at_end : (l : List A) (a b : A) (j : ℕ) → get_elem? (l ++ a ∷ []) j ≡ some b → (get_elem? l j ≡ some b) ⊎ ((j ≡ length l) × (a ≡ b))
  at_end [] a b zero e = inr (refl, some-injective a b e)
  at_end [] a b (suc j) e = absurd (some-ne-none b (sym e))
  at_end (x ∷ xs) a b zero e = inl e
  at_end (x ∷ xs) a b (suc j) e = ⊎_elim (λ h. inl h) (λ (h : (j ≡ length xs) × (a ≡ b)). inr (ap suc h.0, h.1)) (at_end xs a b j e)

  -- two elements are set
  pub at_two : (l : List A) (i j k : ℕ) (a b c : A) → get_elem? (set (set l i a) j b) k ≡ some c
      → ((k ≡ j) × (b ≡ c)) ⊎ (((k ≢ j) × (k ≡ i) × (a ≡ c)) ⊎ ((k ≢ j) × (k ≢ i) × (get_elem? l k ≡ some c)))
  at_two l i j k a b c e = ⊎_elim (λ h. inl h)
      (λ (h : (k ≢ j) × (get_elem? (set l i a) k ≡ some c)). inr (⊎_elim (λ (x : (k ≡ i) × (a ≡ c)). inl (h.0, x.0, x.1)) (λ (x : (k ≢ i) × (get_elem? l k ≡ some c)). inr (h.0, x.0, x.1)) (at_set l i k a c h.1)))
      (at_set (set l i a) j k b c e)

  pub each_set : (P : A → Type 0) (l : List A) (i : ℕ) (w : A) → P w → ((j : ℕ) (a : A) → j ≢ i → get_elem? l j ≡ some a → P a) → (j : ℕ) (a : A) → get_elem? (set l i w) j ≡ some a → P a
  each_set P l i w mine others j a e = ⊎_elim (λ (t : (j ≡ i) × (w ≡ a)). subst P t.1 mine) (λ (t : (j ≢ i) × (get_elem? l j ≡ some a)). others j a t.0 t.1) (at_set l i j w a e)

  pub still_some : (Q : A → Type 0) (l : List A) (i : ℕ) (v w : A) → get_elem? l i ≡ some v → (Q v → Q w) → (j : ℕ) × (u : A) × (get_elem? l j ≡ some u) × Q u
      → (j : ℕ) × (u : A) × (get_elem? (set l i w) j ≡ some u) × Q u
  still_some Q l i v w at goes found = dite (ℕ_discrete found.0 i)
      (λ e. (i, w, set_in l i v w at, goes (subst Q (same_there l i found.0 v found.1 e found.2 at) found.3)))
      (λ ne. (found.0, found.1, set_else l i found.0 w ne ∙ found.2, found.3))

  pub total_set : (f : A → ℕ) (l : List A) (i : ℕ) (a b : A) → get_elem? l i ≡ some a → total f (set l i b) + f a ≡ total f l + f b
  total_set f [] i a b e = absurd (some-ne-none a (sym e))
  total_set f (x ∷ xs) zero a b e = let s : f x ≡ f a = ap f (some-injective x a e) in omega arith
  total_set f (x ∷ xs) (suc i) a b e = let h = total_set f xs i a b e in omega arith

  pub total_below : (f : A → ℕ) (k : ℕ) (l : List A) → ((i : ℕ) (a : A) → get_elem? l i ≡ some a → f a ≤ k) → total f l ≤ length l * k
  total_below f k [] h = zero-le
  total_below f k (x ∷ xs) h = let one : f x ≤ k = h 0 x refl in let more = total_below f k xs (λ i a e. h (suc i) a e) in omega (arith, suc-mul (length xs) k)

  pub total-append : (f : A → ℕ) (xs ys : List A) → total f (xs ++ ys) ≡ total f xs + total f ys
  total-append f [] ys = omega arith
  total-append f (x ∷ xs) ys = omega (arith, total-append f xs ys)

  pub all_right : (P : A → Type 0) (xs ys : List A) → All P (xs ++ ys) → All P ys
  all_right P [] ys h = h
  all_right P (x ∷ xs) ys h = all_right P xs ys (All-tail P x (xs ++ ys) h)

  pub all_left : (P : A → Type 0) (xs ys : List A) → All P (xs ++ ys) → All P xs
  all_left P [] ys h = All-nil P
  all_left P (x ∷ xs) ys h = All-cons P x xs (h 0 x (omega arith)) (all_left P xs ys (All-tail P x (xs ++ ys) h))

  -- in a loop over a list: what is left has all elements to come, and nothing is left at its end
  pub last_of : (P : A → Type 0) (xs ys zs all : List A) → {x : A} → All P all → ys ≡ x ∷ zs → xs ++ ys ≡ all → P x
  last_of P xs ys zs all {x} h e f = all_right P xs (x ∷ zs) (subst (All P) (sym f ∙ ap (λ l. xs ++ l) e) h) 0 x (omega arith)

  pub drained : (xs ys all : List A) → xs ++ ys ≡ all → length ys ≡ 0 → xs ≡ all
  drained xs [] all e h = sym (append-nil xs) ∙ e
  drained xs (y ∷ ys) all e h = absurd (omega arith)
