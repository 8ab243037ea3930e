-- What each step on a desk's table tells the pass that takes it. It serves private clauses only.
use Rattle.std.specs.Prelude.{◌≡◌, ℕ, ◌≢◌, ◌≤◌, ◌<◌, List, [], ◌∷◌, ◌++◌, length, All, Some, None}
use mathlib.Core.List.{IsPrefix}
use Rattle.atomic_table.specs.Table.{Me, Step, rest}
use Rattle.one_history.specs.declared.entry.Entry.{Entry}
use Rattle.one_history.specs.declared.journal.TheConstants.{JOURNAL_MAX}
use Rattle.one_history.specs.History.{HasSeen}
use Rattle.turn_desk.specs.declared.limits.TheConstants.{PASSES_MAX}
use Rattle.turn_desk.specs.declared.view.View.{View}
use Rattle.turn_desk.specs.Numbers.{IsAmong, AreDistinct}
use Rattle.turn_desk.specs.View.{after_draw, after_look, after_read, after_commit, after_leave, after_learn, own_of, numbers_of, AgreesWith, IsOnlyPass, IsIdle}
use Rattle.turn_desk.specs.Closing.{HasAllMadeFrom}
use Rattle.turn_desk.specs.Rule.{Slot}

-- a pass's seat: its view, and the slot if it is out with it
abbrev pub SeatOf : Type 0 → Type 0
SeatOf M = Me (Slot M) (View M)

module _ {M : Type 0} where
  -- the seat was handed the slot, with this content
  pub record IsHanded (m m' : SeatOf M) : Type 0 where
    pub history : List (Entry M)
    pub made : ℕ
    pub short : length history ≤ JOURNAL_MAX
    pub few : made ≤ PASSES_MAX
    pub some_made : 0 < made
    pub is : m' ≡ (after_look history made m.0, (0, Some (history, made)) ∷ m.1)

  -- the content of the slot that is out
  abbrev pub entries_in : Slot M → List (Entry M)
  entries_in None = []
  entries_in (Some content) = content.0

  abbrev pub content_of : List (ℕ × Slot M) → List (Entry M)
  content_of [] = []
  content_of (x ∷ xs) = entries_in x.1

  -- what a pass learns of the history: what it keeps agrees with it, its numbers differ, and it has not taken in too many
  pub record Learns (history : List (Entry M)) (v : View M) : Type 0 where
    pub own : AgreesWith history (own_of v)
    pub taken_in : All (AgreesWith history) v.taken_in
    pub seen_before : IsPrefix v.seen_before history
    pub distinct : AreDistinct (numbers_of v)
    pub few : length v.taken_in < PASSES_MAX

  -- what a pass that has the turn and has read learns besides: its numbers, those made from it and all callers are below the
  -- number made; if 0 and all that was made from it are its own or taken in, so is every number made
  pub record LearnsInTurn (v : View M) : Type 0 where
    pub learned : Learns v.seen v
    pub callers : All (λ (e : Entry M). e.caller < v.made) v.seen
    pub below : (k : ℕ) → IsAmong k (numbers_of v) → k < v.made
    pub made_below : (k : ℕ) → IsAmong k v.made_from → k < v.made
    pub whole : IsAmong 0 (numbers_of v) → HasAllMadeFrom (numbers_of v) v → (k : ℕ) → k < v.made → IsAmong k (numbers_of v)

  -- what a pass learns when it has its turn and has read: what it had seen begins the history, in which its own entries are its
  -- calls, and the only pass finds nothing but its calls there
  pub record TakesTurn (v : View M) (history : List (Entry M)) : Type 0 where
    pub own_before : HasSeen v.seen v.number v.calls
    pub seen : IsPrefix v.seen history
    pub own : HasSeen history v.number v.calls
    pub only : IsOnlyPass v → history ≡ v.calls

  -- Each step: the seat before, the word found, the seat after.

  abbrev pub draws : Step (Slot M) → SeatOf M → ℕ → SeatOf M → Type 0
  draws step m found m' = m' ≡ (after_draw found m.0, m.1)

  -- if its ticket is served, the pass is handed the slot
  abbrev pub looks : Step (Slot M) → SeatOf M → ℕ → SeatOf M → Type 0
  looks step m found m' = (found ≢ m.0.ticket → m' ≡ m) × (found ≡ m.0.ticket → IsHanded m m')

  -- the pass has then seen the whole history, in which its own entries are its calls, and the next number has none
  abbrev pub reads : Step (Slot M) → SeatOf M → ℕ → SeatOf M → Type 0
  reads step m found m' = (m' ≡ (after_read m.0, m.1)) × IsPrefix m.0.seen m.0.handed × HasSeen m.0.handed m.0.number m.0.calls
      × HasSeen m.0.handed m.0.made [] × (IsOnlyPass m.0 → m.0.handed ≡ m.0.calls)

  -- the history is then the content of the slot
  abbrev pub commits : Step (Slot M) → SeatOf M → ℕ → SeatOf M → Type 0
  commits step m found m' = m' ≡ (after_commit (content_of m.1) m.0, m.1)

  abbrev pub leaves : Step (Slot M) → SeatOf M → ℕ → SeatOf M → Type 0
  leaves step m found m' = m' ≡ (after_leave m.0, rest m.1)

  abbrev pub learns : Step (Slot M) → SeatOf M → ℕ → SeatOf M → Type 0
  learns step m found m' = (m' ≡ (after_learn m.0, m.1)) × ((history : List (Entry M)) × Learns history m.0)

  abbrev pub learns_in_turn : Step (Slot M) → SeatOf M → ℕ → SeatOf M → Type 0
  learns_in_turn step m found m' = (m' ≡ (after_learn m.0, m.1)) × LearnsInTurn m.0

  -- a pass between two calls, with the numbers that it holds in memory
  pub record IsPassWith (m : SeatOf M) (number draws seen taken_in : ℕ) : Type 0 where
    pub idle : IsIdle m.0
    pub slots : m.1 ≡ []
    pub number_is : number ≡ m.0.number
    pub draws_are : draws ≡ m.0.draws
    pub seen_is : seen ≡ length m.0.seen
    pub taken_in_are : taken_in ≡ length m.0.taken_in

  -- the history has one entry more, with this number
  pub record IsOneMore (number : ℕ) (history longer : List (Entry M)) : Type 0 where
    pub entry : Entry M
    pub caller : entry.caller ≡ number
    pub is : longer ≡ history ++ entry ∷ []
