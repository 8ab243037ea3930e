-- The answer of workers, from the places that were prepared for them. It serves private clauses only.
use Rattle.std.specs.Prelude.{◌≡◌, ℕ, ◌+◌, ◌<◌, ◌≤◌, map, List, ◌++◌, length, All}
use Rattle.std.specs.List.Sorted.{IsStrictlyIncreasing}
use Rattle.one_history.specs.declared.entry.Entry.{Entry}
use Rattle.turn_desk.specs.Numbers.{AreDistinct}
use Rattle.turn_desk.specs.View.{numbers_of}
use Rattle.turn_desk.specs.declared.view.View.{View}
use Rattle.server.specs.declared.place.Place.{Place}
use Rattle.server.specs.declared.worker.Session.{Session}
use Rattle.server.specs.declared.worker.Worker.{Worker}
use Rattle.server.specs.declared.worker.WorkFault.{WorkFault}
use Rattle.server.specs.Work.{Follows, HasAccepted, HasPass, HasRisenCount, NoneFell, OthersAreSilent, TakesBack, callers_of, fault_workers, session_numbers, taken_since, worker_of}

-- the pass v has made the passes of these places, one for each worker, and is then w
pub record IsPreparedFrom {O A C E M R : Type 0} (workers : List (Worker A C)) (v w : View M) (places : List (Place O A C E M R)) : Type 0 where
  pub workers_are : map (λ p. p.worker) places ≡ workers
  pub some_worker : 0 < length workers
  pub follows : Follows v w
  pub draws : w.draws ≤ v.draws + length workers
  pub taken_in : w.taken_in ≡ v.taken_in
  pub made_from : w.made_from ≡ v.made_from ++ map (λ p. p.pass.1.number) places

-- what comes of workers
pub record Outcome (A C E M : Type 0) : Type 0 where
  pub pass : View M
  pub workers : List (Worker A C)
  pub sessions : List (Session E)
  pub faults : List WorkFault

-- all that is said of it, if the pass was v and these were the workers
pub record Works {A C E M : Type 0} (relates : E → ℕ → ℕ → List (Entry M) → Type 0) (fault_count given : A → ℕ) (connections : ℕ) (workers : List (Worker A C)) (v : View M) (o : Outcome A C E M) : Type 0 where
  pub follows : Follows v o.pass
  pub draws : o.pass.draws ≤ v.draws + length workers
  pub takes_back : TakesBack v o.pass
  pub distinct : AreDistinct (numbers_of o.pass)
  pub ascending : IsStrictlyIncreasing (session_numbers o.sessions)
  pub below : All (λ s. s.number < connections) o.sessions
  pub callers : AreDistinct (callers_of o.sessions)
  pub ends : All (HasPass relates (taken_since v o.pass)) o.sessions
  pub silent : OthersAreSilent o.sessions (taken_since v o.pass)
  pub few_missing : length o.faults < length workers → connections ≤ length o.sessions + length o.faults
  pub fault_order : IsStrictlyIncreasing (fault_workers o.faults)
  pub fault_workers_are : All (λ f. worker_of f < length workers) o.faults
  pub causes : All (HasRisenCount fault_count workers o.workers) o.faults
  pub count : length o.workers ≡ length workers
  pub none_fell : NoneFell fault_count workers o.workers
  pub accepted : HasAccepted given workers o.workers (length o.sessions)
