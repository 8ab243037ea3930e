-- The first place at which a test holds.
use Rattle.std.proofs.Common.{ℕ, zero, suc, ◌<◌, ◌≤◌, ◌≡◌, Bool, true, false, cond, List, length, get_or, Option, Some, None, refl, sym, ap, ◌∙◌, ⊎_elim, arith, lt-ltb, le-ltb}
use Rattle.std.specs.Prelude.{position, nat_lt, not, All}
use Rattle.std.specs.List.{position_or_len}
use Rattle.std.proofs.lemmas.Bool.{cases_eq, ltb-false, false≢true}
use Rattle.std.proofs.lemmas.Option.{none-some}
use Rattle.std.proofs.lemmas.List.Sums.{position_or_len_is, prefix_len_passes}
use Rattle.certificate.specs.Check.{first_below, or_last}

pub position_found : {X : Type 0} (p : X → Bool) (xs : List X) (i : ℕ) (d : X) → i < length xs → ((k : ℕ) → k < i → p (get_or xs k d) ≡ false) → p (get_or xs i d) ≡ true → Some i ≡ position p xs
position_found p xs i d l before here =
    let len = position_or_len_is p xs i d (omega (arith, l)) before (λ _. here) in
    sym (ap (λ m. cond (nat_lt m (length xs)) (Some m) None) len ∙ ap (λ b. cond b (Some i) None) (lt-ltb i (length xs) l))

pub position_none : {X : Type 0} (p : X → Bool) (xs : List X) (i : ℕ) (d : X) → length xs ≤ i → ((k : ℕ) → k < i → p (get_or xs k d) ≡ false) → None ≡ position p xs
position_none p xs i d l before =
    let len = position_or_len_is p xs (length xs) d (omega arith) (λ k m. before k (omega (arith, l, m))) (λ m. absurd (omega (arith, m))) in
    sym (ap (λ m. cond (nat_lt m (length xs)) (Some m) None) len ∙ ap (λ b. cond b (Some (length xs)) None) (le-ltb (length xs) (length xs) (omega arith)))

-- the test held of nothing before
pub below_none : (test : ℕ → Bool) (n : ℕ) → ((k : ℕ) → k < n → test k ≡ false) → None ≡ first_below test n
below_none test zero before = refl
below_none test (suc n) before = sym (ap (or_last test n) (sym (below_none test n (λ k l. before k (omega arith)))) ∙ ap (λ b. cond b (Some n) None) (before n (omega arith)))

pub below_found : (test : ℕ → Bool) (n i : ℕ) → i < n → ((k : ℕ) → k < i → test k ≡ false) → test i ≡ true → Some i ≡ first_below test n
below_found test zero i l before here = absurd (omega arith)
below_found test (suc n) i l before here = ⊎_elim
    (λ (e : i ≡ n). sym (ap (or_last test n) (sym (below_none test n (λ k m. before k (omega arith)))) ∙ ap (λ b. cond b (Some n) None) (ap test (sym e) ∙ here) ∙ ap Some (sym e)))
    (λ (ne : i ≡ n → ⊥). ap (or_last test n) (below_found test n i (omega arith) before here))
    (cases_eq i n)

pub below_same : (test other : ℕ → Bool) (n : ℕ) → ((k : ℕ) → k < n → test k ≡ other k) → first_below test n ≡ first_below other n
below_same test other zero same = refl
below_same test other (suc n) same =
    ap (or_last test n) (below_same test other n (λ k l. same k (omega arith))) ∙ last (first_below other n)
  where
    last : (o : Option ℕ) → or_last test n o ≡ or_last other n o
    last (Some i) = refl
    last None = ap (λ b. cond b (Some n) None) (same n (omega arith))

pub below_None : (test : ℕ → Bool) (n : ℕ) → first_below test n ≡ None → (k : ℕ) → k < n → test k ≡ false
below_None test zero e k l = absurd (omega arith)
below_None test (suc n) e k l =
    let h = last_None (first_below test n) e in
    ⊎_elim (λ (same : k ≡ n). ap test same ∙ h.1) (λ (ne : k ≡ n → ⊥). below_None test n h.0 k (omega arith)) (cases_eq k n)
  where
    here : (b : Bool) → cond b (Some n) None ≡ None → b ≡ false
    here true f = absurd (none-some n (sym f))
    here false f = refl

    last_None : (o : Option ℕ) → or_last test n o ≡ None → (o ≡ None) × (test n ≡ false)
    last_None (Some i) f = absurd (none-some i (sym f))
    last_None None f = (refl, here (test n) f)

-- if the test was not found, it holds of no item
pub position_None : {X : Type 0} (p : X → Bool) (xs : List X) → position p xs ≡ None → All (λ x. p x ≡ false) xs
position_None p xs e k d l = by (nat_lt (position_or_len p xs) (length xs)) refl e
  where
    not_true : (b : Bool) → not b ≡ true → b ≡ false
    not_true true e = absurd (false≢true e)
    not_true false e = refl

    by : (b : Bool) → nat_lt (position_or_len p xs) (length xs) ≡ b → cond b (Some (position_or_len p xs)) None ≡ None → p (get_or xs k d) ≡ false
    by true is f = absurd (none-some _ (sym f))
    by false is f = not_true (p (get_or xs k d)) (prefix_len_passes (λ x. not (p x)) xs k d (omega (arith, l, ltb-false (position_or_len p xs) (length xs) is)))
