-- The core: a history, and the callers that wait for the answers to their events.
use Rattle.std.specs.Prelude.{◌≡◌, ℕ, List, [], ◌∷◌, ◌++◌, length, filter, not, nat_eq, All, Option, Some}
use Rattle.std.specs.List.{IsDistinct}
use Rattle.std.specs.Map.{keys_of, lookup}
use Rattle.one_history.specs.declared.entry.Entry.{Entry}
use Rattle.one_history.specs.History.{entry_of, caller_at}

-- the history, and each caller that waits, with the place of its event
pub record Core (M : Type 0) : Type 0 where
  pub history : List (Entry M)
  pub waiting : List (ℕ × ℕ)

module _ {M : Type 0} where
  -- before any event
  abbrev pub new_core : Core M
  new_core = record { history = []; waiting = [] }

  -- the place of the event for whose answer a caller waits, if it waits
  abbrev pub place_of : ℕ → Core M → Option ℕ
  place_of caller core = lookup (nat_eq caller) core.waiting

  -- an event is appended, and its caller waits
  abbrev pub after_event : ℕ → ℕ → M → Core M → Core M
  after_event caller moment command core = record {
    history = core.history ++ entry_of caller moment command ∷ [];
    waiting = core.waiting ++ (caller, length core.history) ∷ [];
  }

  -- the caller no longer waits; the others wait as before
  abbrev pub after_answer : ℕ → Core M → Core M
  after_answer caller core = record {
    history = core.history;
    waiting = filter (λ w. not (nat_eq caller w.0)) core.waiting;
  }

  -- the invariant: no caller waits twice, and each waits for the answer to an entry of its own
  pub record IsCore (core : Core M) : Type 0 where
    pub once : IsDistinct nat_eq (keys_of core.waiting)
    pub own : All (λ w. caller_at core.history w.1 ≡ Some w.0) core.waiting
