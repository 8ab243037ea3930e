-- The faults of workers: their order, their workers and their causes.
use Rattle.std.proofs.Common.{◌≡◌, ℕ, zero, suc, ◌+◌, ◌<◌, ◌≤◌, map, List, [], ◌∷◌, ◌++◌, length, sym, refl, subst, arith, All, Option, None, Some, get_or}
use Rattle.std.specs.List.{sum_by}
use Rattle.std.specs.List.Sorted.{IsStrictlyIncreasing}
use Rattle.std.proofs.lemmas.List.{get_or-map}
use Rattle.std.proofs.lemmas.List.Elements.{All-cons, All-tail, All-nil}
use Rattle.std.proofs.lemmas.List.Sums.{sum_by-cons}
use Rattle.port_io.specs.Faults.{Rose}
use Rattle.server.specs.declared.place.Stop.{Stop}
use Rattle.server.specs.declared.place.Stop.TheVariants.{Accept, NoMemory}
use Rattle.server.specs.declared.worker.Worker.{Worker}
use Rattle.server.specs.declared.worker.WorkFault.{WorkFault}
use Rattle.server.specs.Work.{worker_of, fault_workers, HasRisenCount}
use Rattle.server.specs.Gathering.{fault_at, fault_of, faults_from}

worker_at : (n : ℕ) (x : Stop) → worker_of (fault_at n x) ≡ n
worker_at n Accept = refl
worker_at n NoMemory = refl

-- a number before a list that ascends from above it
rising_cons : (x : ℕ) (xs : List ℕ) → All (λ y. x < y) xs → IsStrictlyIncreasing xs → IsStrictlyIncreasing (x ∷ xs)
rising_cons x xs above up zero lt = above 0 0 (omega arith)
rising_cons x xs above up (suc k) lt = let e : suc k + 1 ≡ suc (k + 1) = omega arith in subst (λ z. get_or xs k 0 < get_or (x ∷ xs) z 0) (sym e) (up k (omega arith))

-- the workers of these faults ascend from n on
record AscendFrom (n : ℕ) (workers : List ℕ) : Type 0 where
  rising : IsStrictlyIncreasing workers
  from : All (λ w. n ≤ w) workers

ascend_later : (n m : ℕ) (workers : List ℕ) → n ≤ m → AscendFrom m workers → AscendFrom n workers
ascend_later n m workers le a = record { rising = a.rising; from = λ k d lt. let h = a.from k d lt in omega arith }

ascend : (n : ℕ) (stops : List (Option Stop)) → AscendFrom n (fault_workers (faults_from n stops))
ascend n [] = record { rising = λ k lt. absurd (omega arith); from = All-nil (λ w. n ≤ w) }
ascend n (None ∷ stops) = ascend_later n (n + 1) (fault_workers (faults_from (n + 1) stops)) (omega arith) (ascend (n + 1) stops)
ascend n (Some x ∷ stops) = let rest = fault_workers (faults_from (n + 1) stops) in let a = ascend (n + 1) stops in subst (λ w. AscendFrom n (w ∷ rest)) (sym (worker_at n x)) record {
  rising = rising_cons n rest (λ k d lt. let h = a.from k d lt in omega arith) a.rising;
  from = All-cons (λ w. n ≤ w) n rest (omega arith) (λ k d lt. let h = a.from k d lt in omega arith);
}

pub faults_ascend : (stops : List (Option Stop)) → IsStrictlyIncreasing (fault_workers (faults_from 0 stops))
faults_ascend stops = (ascend 0 stops).rising

module _ {A : Type 0} (Q : WorkFault → Type 0) (stop : A → Option Stop) where
  -- what is true of the fault of each worker that stopped is true of all faults
  pub each_fault : (n : ℕ) (l : List A) → ((i : ℕ) (d : A) (x : Stop) → i < length l → stop (get_or l i d) ≡ Some x → Q (fault_at (n + i) x)) → All Q (faults_from n (map stop l))
  each_fault n [] h = All-nil Q
  each_fault n (p ∷ l) h = let more : All Q (faults_from (n + 1) (map stop l)) = each_fault (n + 1) l (λ i d x lt e. subst (λ k. Q (fault_at k x)) (omega arith) (h (suc i) d x (omega arith) e)) in
      elim (stop p) as (λ z. stop p ≡ z → All Q (fault_of n z ++ faults_from (n + 1) (map stop l))) [
        | None ↦ λ is. more
        | Some x ↦ λ is. All-cons Q (fault_at n x) (faults_from (n + 1) (map stop l)) (subst (λ k. Q (fault_at k x)) (omega arith) (h 0 p x (omega arith) is)) more
      ] refl

module _ {P A C : Type 0} (worker : P → Worker A C) (stop : P → Option Stop) (count : A → ℕ) where
  pub causes_of : (ps qs : List P) → length qs ≡ length ps → ((i : ℕ) (d : P) → i < length ps → stop (get_or qs i d) ≡ Some Accept → Rose (count (worker (get_or ps i d)).acceptor) (count (worker (get_or qs i d)).acceptor))
      → All (HasRisenCount count (map worker ps) (map worker qs)) (faults_from 0 (map stop qs))
  causes_of ps qs len rose = each_fault (HasRisenCount count (map worker ps) (map worker qs)) stop 0 qs cause
    where
      cause : (i : ℕ) (d : P) (x : Stop) → i < length qs → stop (get_or qs i d) ≡ Some x → HasRisenCount count (map worker ps) (map worker qs) (fault_at (0 + i) x)
      cause i d Accept lt e = λ w. let z : 0 + i ≡ i = omega arith in
          subst (λ k. Rose (count (get_or (map worker ps) k w).acceptor) (count (get_or (map worker qs) k w).acceptor)) (sym z)
          (subst (λ (u : Worker A C × Worker A C). Rose (count u.0.acceptor) (count u.1.acceptor))
          (λ j. (sym (get_or-map worker ps i d w (subst (λ k. i < k) len lt)) j, sym (get_or-map worker qs i d w lt) j)) (rose i d (subst (λ k. i < k) len lt) e))
      cause i d NoMemory lt e = tt

pub workers_few : {P : Type 0} (stop : P → Option Stop) (n : ℕ) (qs : List P) → length qs ≡ n → All (λ f. worker_of f < n) (faults_from 0 (map stop qs))
workers_few stop n qs len = each_fault (λ f. worker_of f < n) stop 0 qs (λ i d x lt e. let w = worker_at (0 + i) x in omega arith)

module _ {P : Type 0} (count sessions : P → ℕ) where
  -- the sums of what was accepted
  pub sums_rise : (ps qs : List P) (most : ℕ) → length qs ≡ length ps → ((i : ℕ) (d : P) → i < length ps → count (get_or qs i d) < most → count (get_or ps i d) + sessions (get_or qs i d) ≤ count (get_or qs i d))
      → All (λ q. count q < most) qs → sum_by count ps + sum_by sessions qs ≤ sum_by count qs
  sums_rise [] [] most len h few = omega arith
  sums_rise [] (q ∷ qs) most len h few = absurd (omega arith)
  sums_rise (p ∷ ps) [] most len h few = absurd (omega arith)
  sums_rise (p ∷ ps) (q ∷ qs) most len h few =
      let one : count p + sessions q ≤ count q = h 0 p (omega arith) (few 0 q (omega arith)) in
      let more = sums_rise ps qs most (omega arith) (λ i d lt e. h (suc i) d (omega arith) e) (All-tail (λ q. count q < most) q qs few) in
      let a = sum_by-cons count p ps in let b = sum_by-cons count q qs in let c = sum_by-cons sessions q qs in omega arith
