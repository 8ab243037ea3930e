-- The sessions in the order of their numbers.
use Rattle.std.proofs.Common.{◌≡◌, ℕ, zero, suc, ◌+◌, ◌<◌, ◌≤◌, ◌⊎◌, inl, inr, map, List, [], ◌∷◌, length, sym, refl, ◌∙◌, subst, ⊎_elim, arith, get_or}
use Rattle.std.specs.List.{sum_by}
use Rattle.std.specs.List.Sorted.{IsPermutation, IsNonDecreasingBy, IsStrictlyIncreasing}
use Rattle.std.proofs.lemmas.List.{get_or-map, length-map}
use Rattle.std.proofs.lemmas.List.Elements.{All-weaker}
use Rattle.std.proofs.lemmas.List.Sums.{sum_by-cons}
use Rattle.std.proofs.lemmas.List.Sorted.{IsPermutation-map, sum_by-IsPermutation}
use mathlib.Core.Logic.{dite}
use native.Mathlib.Decide.{ℕ_discrete}
use Rattle.turn_desk.specs.Numbers.{times_in, IsAmong, AreDistinct}
use Rattle.turn_desk.specs.declared.view.Kept.{Kept}
use Rattle.turn_desk.proofs.Numbers.{among_single}
use Rattle.server.specs.declared.worker.Session.{Session}
use Rattle.server.specs.Work.{callers_of, OthersAreSilent}

-- a list in another order has each number as often
times_sum : (k : ℕ) (xs : List ℕ) → times_in k xs ≡ sum_by (λ x. times_in k (x ∷ [])) xs
times_sum k [] = refl
times_sum k (x ∷ xs) = let s = sum_by-cons (λ x. times_in k (x ∷ [])) x xs in let t = times_sum k xs in omega arith

pub times_permutation : {A : Type 0} (f : A → ℕ) (xs ys : List A) → IsPermutation xs ys → (k : ℕ) → times_in k (map f ys) ≡ times_in k (map f xs)
times_permutation f xs ys p k = times_sum k (map f ys) ∙ (sum_by-IsPermutation (λ x. times_in k (x ∷ [])) (map f xs) (map f ys) (IsPermutation-map f xs ys p) ∙ sym (times_sum k (map f xs)))

among_at : (xs : List ℕ) (k : ℕ) → k < length xs → IsAmong (get_or xs k 0) xs
among_at [] k lt = absurd (omega arith)
among_at (x ∷ xs) zero lt = let a = among_single x x refl in omega arith
among_at (x ∷ xs) (suc k) lt = let a = among_at xs k (omega arith) in omega arith

-- a number that is at two places next to each other is there twice
twice : (xs : List ℕ) (k : ℕ) → k + 1 < length xs → get_or xs k 0 ≡ get_or xs (k + 1) 0 → 2 ≤ times_in (get_or xs k 0) xs
twice [] k lt e = absurd (omega arith)
twice (x ∷ xs) zero lt e = let a = among_single x x refl in let b = subst (λ z. IsAmong z xs) (sym e) (among_at xs 0 (omega arith)) in omega arith
twice (x ∷ xs) (suc k) lt e = let n : suc k + 1 ≡ suc (k + 1) = omega arith in let a = twice xs k (omega arith) (subst (λ z. get_or xs k 0 ≡ get_or (x ∷ xs) z 0) n e) in omega arith

pub strictly : {A : Type 0} (f : A → ℕ) (xs : List A) → IsNonDecreasingBy f xs → AreDistinct (map f xs) → IsStrictlyIncreasing (map f xs)
strictly f [] up once k lt = absurd (omega arith)
strictly f (x ∷ xs) up once k lt = let len : length (map f (x ∷ xs)) ≡ length (x ∷ xs) = length-map (x ∷ xs) f in
    let le = up k (k + 1) x (omega arith) (omega arith) in
    let a = get_or-map f (x ∷ xs) k x 0 (omega arith) in let b = get_or-map f (x ∷ xs) (k + 1) x 0 (omega arith) in
    dite (ℕ_discrete (get_or (map f (x ∷ xs)) k 0) (get_or (map f (x ∷ xs)) (k + 1) 0))
    (λ e. let t = twice (map f (x ∷ xs)) k lt e in let o = once (get_or (map f (x ∷ xs)) k 0) in absurd (omega arith))
    (λ ne. omega arith)

pub silent_sorted : {E M : Type 0} (xs ys : List (Session E)) (ks : List (Kept M)) → IsPermutation xs ys → OthersAreSilent xs ks → OthersAreSilent ys ks
silent_sorted xs ys ks p h = All-weaker (λ kept. (kept.calls ≡ []) ⊎ IsAmong kept.number (callers_of xs)) (λ kept. (kept.calls ≡ []) ⊎ IsAmong kept.number (callers_of ys))
    (λ kept. ⊎_elim (λ e. inl e) (λ (among : IsAmong kept.number (callers_of xs)). inr (let a = times_permutation (λ s. s.caller) xs ys p kept.number in omega arith))) ks h
