-- What the faults of workers say of all counts.
use Rattle.std.proofs.Common.{◌≡◌, ℕ, zero, suc, ◌-◌, ◌^◌, ◌<◌, ◌≤◌, List, [], ◌∷◌, length, arith, All, get_or}
use Rattle.std.specs.List.{sum_by}
use Rattle.std.proofs.lemmas.List.Elements.{All-tail}
use Rattle.std.proofs.lemmas.List.Sums.{sum_by-cons}
use Rattle.port_io.specs.Faults.{Rose}
use Rattle.server.specs.declared.worker.Worker.{Worker}
use Rattle.server.specs.declared.worker.WorkFault.{WorkFault}
use Rattle.server.specs.declared.worker.WorkFault.TheVariants.{Accept, NoMemory}
use Rattle.server.specs.Work.{HasRisenCount, NoneFell, worker_of}
use Rattle.serve_command.specs.Served.{HasRisenSum, IsOutOfMemory, NoneRose}

module _ {A C : Type 0} (count : A → ℕ) where
  sum_stays : (before after : List (Worker A C)) → length after ≡ length before → NoneFell count before after → sum_by (λ w. count w.acceptor) before ≤ sum_by (λ w. count w.acceptor) after
  sum_stays [] [] len fell = omega arith
  sum_stays [] (a ∷ rest) len fell = absurd (omega arith)
  sum_stays (b ∷ bs) [] len fell = absurd (omega arith)
  sum_stays (b ∷ bs) (a ∷ rest) len fell =
      let first : count b.acceptor ≤ count a.acceptor = fell 0 b (omega arith) in
      let more = sum_stays bs rest (omega arith) (λ k d lt. fell (suc k) d (omega arith)) in
      let x = sum_by-cons (λ (w : Worker A C). count w.acceptor) b bs in let y = sum_by-cons (λ (w : Worker A C). count w.acceptor) a rest in omega arith

  -- one count rose and none fell
  sum_rises : (before after : List (Worker A C)) → length after ≡ length before → NoneFell count before after → (k : ℕ) → k < length before
      → ((d : Worker A C) → Rose (count (get_or before k d).acceptor) (count (get_or after k d).acceptor)) → All (λ w. count w.acceptor < 2 ^ 64 - 1) after
      → sum_by (λ w. count w.acceptor) before < sum_by (λ w. count w.acceptor) after
  sum_rises [] after len fell k lt rose few = absurd (omega arith)
  sum_rises (b ∷ bs) [] len fell k lt rose few = absurd (omega arith)
  sum_rises (b ∷ bs) (a ∷ rest) len fell zero lt rose few =
      let last : count a.acceptor < 2 ^ 64 - 1 = few 0 a (omega arith) in
      let rise : Rose (count b.acceptor) (count a.acceptor) = rose b in
      let first : count b.acceptor < count a.acceptor = omega (arith, rise, last) in
      let more = sum_stays bs rest (omega arith) (λ k d lt. fell (suc k) d (omega arith)) in
      let x = sum_by-cons (λ (w : Worker A C). count w.acceptor) b bs in let y = sum_by-cons (λ (w : Worker A C). count w.acceptor) a rest in omega arith
  sum_rises (b ∷ bs) (a ∷ rest) len fell (suc k) lt rose few =
      let first : count b.acceptor ≤ count a.acceptor = fell 0 b (omega arith) in
      let more = sum_rises bs rest (omega arith) (λ k d lt. fell (suc k) d (omega arith)) k (omega arith) rose (All-tail (λ (w : Worker A C). count w.acceptor < 2 ^ 64 - 1) a rest few) in
      let x = sum_by-cons (λ (w : Worker A C). count w.acceptor) b bs in let y = sum_by-cons (λ (w : Worker A C). count w.acceptor) a rest in omega arith

  sum_of : (before after : List (Worker A C)) → length after ≡ length before → NoneFell count before after → (fault : WorkFault) → worker_of fault < length before
      → HasRisenCount count before after fault → HasRisenSum count before after fault
  sum_of before after len fell (Accept k) lt rose = λ few. sum_rises before after len fell k lt rose few
  sum_of before after len fell (NoMemory k) lt rose = tt

  pub all_sums_rise : (before after : List (Worker A C)) (faults : List WorkFault) → length after ≡ length before → NoneFell count before after → All (λ f. worker_of f < length before) faults
      → All (HasRisenCount count before after) faults → All (HasRisenSum count before after) faults
  all_sums_rise before after faults len fell workers rose = λ k d lt. sum_of before after len fell (get_or faults k d) (workers k d lt) (rose k d lt)

  some_worker : (workers : List (Worker A C)) (k : ℕ) → k < length workers → Worker A C
  some_worker [] k lt = absurd (omega arith)
  some_worker (w ∷ ws) k lt = w

  memory_alone : (before after : List (Worker A C)) → NoneRose count before after → (fault : WorkFault) → worker_of fault < length before → HasRisenCount count before after fault → IsOutOfMemory fault
  memory_alone before after none (Accept k) lt rose = let d = some_worker before k lt in none k d lt (rose d)
  memory_alone before after none (NoMemory k) lt rose = tt

  pub all_out_of_memory : (before after : List (Worker A C)) (faults : List WorkFault) → All (λ f. worker_of f < length before) faults → All (HasRisenCount count before after) faults
      → NoneRose count before after → All IsOutOfMemory faults
  all_out_of_memory before after faults workers rose none = λ k d lt. memory_alone before after none (get_or faults k d) (workers k d lt) (rose k d lt)
