-- What each call of a desk makes of the pass that is handed to it.
use Rattle.std.specs.Prelude.{◌≡◌, ℕ, ◌≢◌, ◌<◌, ◌+◌, ◌⊎◌, List, [], ◌∷◌, ◌++◌, length, All, Result, Err}
use mathlib.Core.List.{IsPrefix}
use Rattle.one_history.specs.declared.entry.Entry.{Entry}
use Rattle.one_history.specs.declared.journal.TheConstants.{JOURNAL_MAX}
use Rattle.one_history.specs.History.{HasSeen}
use Rattle.turn_desk.specs.declared.limits.TheConstants.{PASSES_MAX, TURNS_MAX}
use Rattle.turn_desk.specs.declared.refusal.DeskRefusal.{DeskRefusal}
use Rattle.turn_desk.specs.declared.refusal.DeskRefusal.TheVariants.{PassSpent, PassesOut, Full, NoMemory}
use Rattle.turn_desk.specs.declared.view.View.{View}
use Rattle.turn_desk.specs.Numbers.{AreDistinct}
use Rattle.turn_desk.specs.View.{new_view, kept_by, numbers_of, IsOnlyPass}

module _ {M : Type 0} where
  -- after a call of its desk the pass has the same number, has taken in the same, and may have seen more; its own entries in
  -- what it has seen are its calls, before and after; the only pass has seen nothing but its calls
  pub record Continues (v w : View M) : Type 0 where
    pub number : w.number ≡ v.number
    pub taken_in : w.taken_in ≡ v.taken_in
    pub seen : IsPrefix v.seen w.seen
    pub own_before : HasSeen v.seen v.number v.calls
    pub own : HasSeen w.seen w.number w.calls
    pub only : IsOnlyPass w → w.seen ≡ w.calls

  -- one entry was committed at a position, after all that the pass had seen and entries of other passes, and it is the last
  -- that the pass has seen
  pub record Commits (v : View M) (entry : Entry M) (position : ℕ) (w : View M) : Type 0 where
    pub between : List (Entry M)
    pub others : All (λ e. e.caller ≢ v.number) between
    pub seen : w.seen ≡ v.seen ++ between ++ entry ∷ []
    pub at : position ≡ length (v.seen ++ between)
    pub calls : w.calls ≡ v.calls ++ entry ∷ []
    pub made_from : w.made_from ≡ v.made_from

  -- a pass or a note was made: it has the next number, and has seen what its maker has now seen
  pub record Makes (v new w : View M) : Type 0 where
    pub new_is : new ≡ new_view new.number w.seen
    pub own : HasSeen w.seen new.number []
    pub next : w.made ≡ new.number + 1
    pub made_from : w.made_from ≡ v.made_from ++ new.number ∷ []
    pub calls : w.calls ≡ v.calls

  -- a pass has taken in another: it has seen both histories, one of which is a prefix of the other, and keeps all that the
  -- other kept
  pub record TakesIn (v other w : View M) : Type 0 where
    pub number : w.number ≡ v.number
    pub calls : w.calls ≡ v.calls
    pub draws : w.draws ≡ v.draws
    pub taken_in : w.taken_in ≡ v.taken_in ++ kept_by other
    pub made_from : w.made_from ≡ v.made_from ++ other.made_from
    pub longer : (w.seen ≡ v.seen) ⊎ (w.seen ≡ other.seen)
    pub seen : IsPrefix v.seen w.seen
    pub seen_by_other : IsPrefix other.seen w.seen
    pub own : HasSeen w.seen w.number w.calls
    pub distinct : AreDistinct (numbers_of w)

  -- nothing was made or committed
  pub record IsRefused (v w : View M) : Type 0 where
    pub calls : w.calls ≡ v.calls
    pub made_from : w.made_from ≡ v.made_from

  -- a call draws one turn, but none if and only if the pass has drawn as many as it can, and then nothing changes
  abbrev pub DrawsTurn : {R : Type 0} → View M → Result R DeskRefusal → View M → Type 0
  DrawsTurn v (Err PassSpent) w = (v.draws ≡ TURNS_MAX) × (w ≡ v)
  DrawsTurn v _ w = (v.draws < TURNS_MAX) × (w.draws ≡ v.draws + 1)

  -- why an event is refused
  abbrev pub RefusesEvent : View M → DeskRefusal → View M → Type 0
  RefusesEvent v PassSpent w = v.draws ≡ TURNS_MAX
  RefusesEvent v PassesOut w = ⊥
  RefusesEvent v (Full entries) w = (entries ≡ JOURNAL_MAX) × (length w.seen ≡ JOURNAL_MAX)
  RefusesEvent v NoMemory w = Unit {0}

  -- why a pass or a note is refused
  abbrev pub RefusesPass : View M → DeskRefusal → View M → Type 0
  RefusesPass v PassSpent w = v.draws ≡ TURNS_MAX
  RefusesPass v PassesOut w = w.made ≡ PASSES_MAX
  RefusesPass v (Full entries) w = ⊥
  RefusesPass v NoMemory w = ⊥
