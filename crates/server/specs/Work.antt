-- What workers have done: their sessions and faults, and the pass that has taken in their passes.
use Rattle.std.specs.Prelude.{◌≡◌, ℕ, ◌+◌, ◌-◌, ◌^◌, ◌<◌, ◌≤◌, ◌⊎◌, map, drop, List, [], ◌∷◌, length, All, slice_index_or, ⊤}
use Rattle.std.specs.List.{sum_by}
use mathlib.Core.List.{IsPrefix}
use Rattle.port_io.specs.Faults.{Rose}
use Rattle.one_history.specs.declared.entry.Entry.{Entry}
use Rattle.turn_desk.specs.Numbers.{times_in, IsAmong}
use Rattle.turn_desk.specs.View.{numbers_in}
use Rattle.turn_desk.specs.declared.view.View.{View}
use Rattle.turn_desk.specs.declared.view.Kept.{Kept}
use Rattle.server.specs.declared.worker.Session.{Session}
use Rattle.server.specs.declared.worker.Worker.{Worker}
use Rattle.server.specs.declared.worker.WorkFault.{WorkFault}
use Rattle.server.specs.declared.worker.WorkFault.TheVariants.{Accept, NoMemory}

-- the numbers of sessions, and their callers
abbrev pub session_numbers : {E : Type 0} → List (Session E) → List ℕ
session_numbers sessions = map (λ s. s.number) sessions

abbrev pub callers_of : {E : Type 0} → List (Session E) → List ℕ
callers_of sessions = map (λ s. s.caller) sessions

-- the worker of a fault
abbrev pub worker_of : WorkFault → ℕ
worker_of (Accept worker) = worker
worker_of (NoMemory worker) = worker

abbrev pub fault_workers : List WorkFault → List ℕ
fault_workers faults = map worker_of faults

module _ {A C : Type 0} (count : A → ℕ) where
  -- if the fault is one of an acceptor, the count of that worker's acceptor rose
  abbrev pub HasRisenCount : List (Worker A C) → List (Worker A C) → WorkFault → Type 0
  HasRisenCount before after (Accept k) = (d : Worker A C) → Rose (count (slice_index_or before k d).acceptor) (count (slice_index_or after k d).acceptor)
  HasRisenCount before after (NoMemory k) = ⊤

  -- at least so many connections were accepted by all of them, if no acceptor's count of those that it gave is at its last value
  abbrev pub HasAccepted : List (Worker A C) → List (Worker A C) → ℕ → Type 0
  HasAccepted before after sessions = All (λ w. count w.acceptor < 2 ^ 64 - 1) after → sum_by (λ w. count w.acceptor) before + sessions ≤ sum_by (λ w. count w.acceptor) after

  -- no count of an acceptor fell
  abbrev pub NoneFell : List (Worker A C) → List (Worker A C) → Type 0
  NoneFell before after = (k : ℕ) (d : Worker A C) → k < length before → count (slice_index_or before k d).acceptor ≤ count (slice_index_or after k d).acceptor

module _ {M : Type 0} where
  -- it is the same pass with the same calls, and it may have seen more
  pub record Follows (v w : View M) : Type 0 where
    pub number : w.number ≡ v.number
    pub calls : w.calls ≡ v.calls
    pub seen : IsPrefix v.seen w.seen

  -- what the pass has taken in since, and the numbers that were made from it since
  abbrev pub taken_since : View M → View M → List (Kept M)
  taken_since v w = drop (length v.taken_in) w.taken_in

  abbrev pub made_since : View M → View M → List ℕ
  made_since v w = drop (length v.made_from) w.made_from

  -- the numbers that were made from the pass since are those that it has taken in since; what it had before, it still has
  pub record TakesBack (v w : View M) : Type 0 where
    pub taken_in : IsPrefix v.taken_in w.taken_in
    pub made_from : IsPrefix v.made_from w.made_from
    pub same : (k : ℕ) → times_in k (made_since v w) ≡ times_in k (numbers_in (taken_since v w))

module _ {E M : Type 0} (relates : E → ℕ → ℕ → List (Entry M) → Type 0) where
  -- the session's caller is this number, and its end is one of as many calls as are kept of it, after what is kept as seen
  pub record IsSessionOf (s : Session E) (kept : Kept M) : Type 0 where
    pub caller : kept.number ≡ s.caller
    pub end : relates s.end s.caller (length kept.calls) kept.seen

  -- one of these numbers is the session's
  abbrev pub HasPass : List (Kept M) → Session E → Type 0
  HasPass [] s = ⊥
  HasPass (kept ∷ rest) s = IsSessionOf s kept ⊎ HasPass rest s

-- each number that is no session's caller keeps no calls
abbrev pub OthersAreSilent : {E M : Type 0} → List (Session E) → List (Kept M) → Type 0
OthersAreSilent sessions = All (λ kept. (kept.calls ≡ []) ⊎ IsAmong kept.number (callers_of sessions))
