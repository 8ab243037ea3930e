-- How often numbers are in lists, and that as many different numbers below n as there are, are all of them.
use Rattle.std.proofs.Common.{◌≡◌, ℕ, zero, suc, true, false, ◌+◌, ◌==◌, ◌<◌, ◌≤◌, ◌≢◌, cond, eq-eqb, ne_eqb, List, [], ◌∷◌, ◌++◌, length, sym, refl, subst, arith}
use mathlib.Core.Logic.{dite}
use native.Mathlib.Decide.{ℕ_discrete}
use Rattle.turn_desk.specs.Numbers.{times_in, IsAmong, AreDistinct, AreApart}

pub times-append : (k : ℕ) (xs ys : List ℕ) → times_in k (xs ++ ys) ≡ times_in k xs + times_in k ys
times-append k [] ys = omega arith
times-append k (x ∷ xs) ys = omega (arith, times-append k xs ys)

pub times_single : (k x : ℕ) → times_in k (x ∷ []) ≤ 1
times_single k x = elim (x == k) as (λ b. cond b 1 0 + 0 ≤ 1) [ true ↦ omega arith | false ↦ omega arith ]

pub is_single : (k x : ℕ) → IsAmong k (x ∷ []) → k ≡ x
is_single k x h = dite (ℕ_discrete x k) (λ e. sym e) (λ ne. let z = rw (ne_eqb x k ne) at h in absurd (omega arith))

pub among_single : (k x : ℕ) → k ≡ x → IsAmong k (x ∷ [])
among_single k x e = rw (eq-eqb x k (sym e)) (omega arith)

pub among_first : (x : ℕ) (xs : List ℕ) → IsAmong x (x ∷ xs)
among_first x xs = rw (eq-eqb x x refl) (omega arith)

pub not_single : (k x : ℕ) → k ≢ x → times_in k (x ∷ []) ≡ 0
not_single k x ne = rw (ne_eqb x k (λ e. ne (sym e))) refl

pub not_first : (x y : ℕ) (ys : List ℕ) → times_in x (y ∷ ys) ≡ 0 → x ≢ y
not_first x y ys z e = let b = rw (eq-eqb y x (sym e)) at z in absurd (omega arith)

pub not_after : (x y : ℕ) (ys : List ℕ) → times_in x (y ∷ ys) ≡ 0 → times_in x ys ≡ 0
not_after x y ys z = omega arith

pub once_only : (x : ℕ) (xs : List ℕ) → AreDistinct (x ∷ xs) → times_in x xs ≡ 0
once_only x xs h = let e = rw (eq-eqb x x refl) at (h x) in omega arith

pub apart_sym : (xs ys : List ℕ) → AreApart xs ys → AreApart ys xs
apart_sym xs ys h k among = dite (ℕ_discrete (times_in k xs) 0) (λ z. z) (λ ne. let z = h k (omega arith) in absurd (omega arith))

pub apart-append : (xs ys zs : List ℕ) → AreApart xs zs → AreApart ys zs → AreApart (xs ++ ys) zs
apart-append xs ys zs p q k among = let e = times-append k xs ys in dite (ℕ_discrete (times_in k xs) 0) (λ z. q k (omega arith)) (λ ne. p k (omega arith))

pub distinct-append : (xs ys : List ℕ) → AreDistinct xs → AreDistinct ys → AreApart xs ys → AreDistinct (xs ++ ys)
distinct-append xs ys p q a k = let e = times-append k xs ys in let x = p k in let y = q k in dite (ℕ_discrete (times_in k xs) 0) (λ z. omega arith) (λ ne. let z = a k (omega arith) in omega arith)

pub below-append : (n : ℕ) (xs ys : List ℕ) → ((k : ℕ) → IsAmong k xs → k < n) → ((k : ℕ) → IsAmong k ys → k < n) → (k : ℕ) → IsAmong k (xs ++ ys) → k < n
below-append n xs ys p q k among = let e = times-append k xs ys in dite (ℕ_discrete (times_in k xs) 0) (λ z. q k (omega arith)) (λ ne. p k (omega arith))

pub among_left : (k : ℕ) (xs ys : List ℕ) → IsAmong k xs → IsAmong k (xs ++ ys)
among_left k xs ys h = omega (arith, times-append k xs ys)

pub among_right : (k : ℕ) (xs ys : List ℕ) → IsAmong k ys → IsAmong k (xs ++ ys)
among_right k xs ys h = omega (arith, times-append k xs ys)

-- how often the numbers below n are in a list
times_below : ℕ → List ℕ → ℕ
times_below zero l = 0
times_below (suc n) l = times_in n l + times_below n l

times_below-cons : (n y : ℕ) (l : List ℕ) → times_below n (y ∷ l) ≡ times_below n (y ∷ []) + times_below n l
unfolding times_below
times_below-cons zero y l = refl
times_below-cons (suc n) y l = omega (arith, times_below-cons n y l)

times_below-none : (n y : ℕ) → n ≤ y → times_below n (y ∷ []) ≡ 0
unfolding times_below
times_below-none zero y h = refl
times_below-none (suc n) y h = omega (arith, not_single n y (λ e. omega arith), times_below-none n y (omega arith))

times_below-one : (n y : ℕ) → y < n → times_below n (y ∷ []) ≡ 1
unfolding times_below
times_below-one zero y h = absurd (omega arith)
times_below-one (suc n) y h = dite (ℕ_discrete n y) (λ e. let a = among_single n y e in let b = times_single n y in omega (arith, times_below-none n y (omega arith)))
    (λ ne. omega (arith, not_single n y ne, times_below-one n y (omega arith)))

times_below-nil : (n : ℕ) → times_below n [] ≡ 0
unfolding times_below
times_below-nil zero = refl
times_below-nil (suc n) = omega (arith, times_below-nil n)

times_below-length : (n : ℕ) (l : List ℕ) → ((k : ℕ) → IsAmong k l → k < n) → times_below n l ≡ length l
times_below-length n [] h = times_below-nil n
times_below-length n (y ∷ l) h = let first : y < n = h y (among_first y l) in
    omega (arith, times_below-cons n y l, times_below-one n y first, times_below-length n l (λ k z. h k (omega arith)))

times_below-le : (n : ℕ) (l : List ℕ) → AreDistinct l → times_below n l ≤ n
unfolding times_below
times_below-le zero l h = omega arith
times_below-le (suc n) l h = let a = h n in let b = times_below-le n l h in omega arith

times_below-ge : (n : ℕ) (l : List ℕ) → ((k : ℕ) → k < n → IsAmong k l) → n ≤ times_below n l
unfolding times_below
times_below-ge zero l h = omega arith
times_below-ge (suc n) l h = let a = h n (omega arith) in let b = times_below-ge n l (λ k lt. h k (omega arith)) in omega arith

times_below-full : (n : ℕ) (l : List ℕ) → AreDistinct l → n ≤ times_below n l → (k : ℕ) → k < n → IsAmong k l
unfolding times_below
times_below-full zero l h s k lt = absurd (omega arith)
times_below-full (suc n) l h s k lt = let a = h n in let b = times_below-le n l h in
    dite (ℕ_discrete k n) (λ e. subst (λ z. 0 < times_in z l) (sym e) (omega arith)) (λ ne. times_below-full n l h (omega arith) k (omega arith))

pub all_among : (n : ℕ) (l : List ℕ) → AreDistinct l → ((k : ℕ) → IsAmong k l → k < n) → n ≤ length l → (k : ℕ) → k < n → IsAmong k l
all_among n l once below many = times_below-full n l once (omega (arith, times_below-length n l below))

pub no_more : (n : ℕ) (l : List ℕ) → AreDistinct l → ((k : ℕ) → IsAmong k l → k < n) → length l ≤ n
no_more n l once below = omega (arith, times_below-length n l below, times_below-le n l once)

pub no_fewer : (n : ℕ) (l : List ℕ) → ((k : ℕ) → IsAmong k l → k < n) → ((k : ℕ) → k < n → IsAmong k l) → n ≤ length l
no_fewer n l below all = omega (arith, times_below-length n l below, times_below-ge n l all)
