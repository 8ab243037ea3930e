-- The rule of a desk: what is true of its table between any two steps. It serves private clauses only.
--
-- The table has three words, one slot, and a view for each pass and note that was made. The view of one that was taken in is
-- spent. In brackets is the sentence of the rule that a field belongs to:
--   [1] What each pass has seen is a prefix of one history, whose length is the third word. Some pass has seen all of it.
--   [2] The tickets of the passes are the numbers from the second word on and below the first, each once.
--   [3] If the slot is at home, it holds the history and the number of views. A pass that has the turn was handed both, and
--       once it has read, it has seen the whole history.
--   [4] Only the pass whose ticket is the second word has the turn. The slot is out if and only if a pass has the turn. The
--       steps that commit and make passes ask for a pass that has the turn and has read, and leaving asks that the content is
--       back.
--   [5] The numbers of passes differ, and are below the number of views. So are the callers of all entries.
--   [6] For each number that a pass has or has taken in, the entries with it in the history are the calls that the pass keeps,
--       and what it has kept as seen has them all.
--   [7] Each number below the number of views is exactly one pass's own or taken in by it. Each such number but 0 was made from
--       exactly one pass, and is greater than some number of that pass.
--   [8] The first word is at most the sum of the turns drawn, a spent view counting as one that drew all its turns. So no word
--       wraps: there are at most 65,536 views, each with at most 4,294,967,295 turns, and at most 4,194,304 entries.
use Rattle.std.specs.Prelude.{◌≡◌, ℕ, Bool, true, false, ◌≢◌, ◌+◌, ◌<◌, ◌≤◌, cond, List, [], ◌∷◌, length, All, Option, Some}
use mathlib.Core.List.{IsPrefix}
use mathlib.Core.Option.{none, some, Option as Maybe}
use lib.ListN.{get_elem?}
use Rattle.atomic_table.specs.Table.{State}
use Rattle.one_history.specs.declared.entry.Entry.{Entry}
use Rattle.one_history.specs.declared.journal.TheConstants.{JOURNAL_MAX}
use Rattle.turn_desk.specs.declared.limits.TheConstants.{PASSES_MAX, TURNS_MAX}
use Rattle.turn_desk.specs.declared.view.View.{View}
use Rattle.turn_desk.specs.Numbers.{IsAmong, AreDistinct, AreApart}
use Rattle.turn_desk.specs.View.{own_of, numbers_of, AgreesWith}

-- what the slot holds: the journal's entries, and how many passes and notes were made
abbrev pub Slot : Type 0 → Type 0
Slot M = Option (List (Entry M) × ℕ)

-- the desk at one moment: the next ticket and the one that is served, the number of passes and notes made, the history, and
-- whether the slot is out with a pass
pub record Moment (M : Type 0) : Type 0 where
  pub next : ℕ
  pub serving : ℕ
  pub made : ℕ
  pub history : List (Entry M)
  pub is_out : Bool

abbrev pub total : {X : Type 0} → (X → ℕ) → List X → ℕ
total f [] = 0
total f (x ∷ xs) = f x + total f xs

-- the numbers of one pass, and those that were made from it
pub record NumbersRule (made : ℕ) (numbers made_from : List ℕ) : Type 0 where
  -- [7]
  pub distinct : AreDistinct numbers
  -- [5]
  pub below : (k : ℕ) → IsAmong k numbers → k < made
  -- [7]
  pub made_distinct : AreDistinct made_from
  pub made_below : (k : ℕ) → IsAmong k made_from → k < made
  pub made_later : (k : ℕ) → IsAmong k made_from → (j : ℕ) × IsAmong j numbers × (j < k)

module _ {M : Type 0} where
  -- the turns that a view accounts for
  abbrev pub weight : View M → ℕ
  weight v = cond v.spent TURNS_MAX v.draws

  -- of one view
  pub record ViewRule (now : Moment M) (v : View M) : Type 0 where
    -- [1], [6]
    pub own : v.spent ≡ false → AgreesWith now.history (own_of v)
    pub taken_in : v.spent ≡ false → All (AgreesWith now.history) v.taken_in
    -- [1]
    pub seen_before : v.spent ≡ false → IsPrefix v.seen_before now.history
    -- [2]
    pub ticket : v.has_ticket ≡ true → (now.serving ≤ v.ticket) × (v.ticket < now.next)
    -- [3]
    pub handed : v.has_turn ≡ true → v.has_read ≡ false → v.handed ≡ now.history
    pub read : v.has_turn ≡ true → v.has_read ≡ true → v.seen ≡ now.history
    pub made : v.has_turn ≡ true → v.made ≡ now.made
    pub made_at_most : v.spent ≡ false → v.made ≤ now.made
    -- [4]
    pub turn : v.has_turn ≡ true → (v.has_ticket ≡ true) × (v.ticket ≡ now.serving) × (now.is_out ≡ true) × (v.spent ≡ false)
    pub reads_in_turn : v.has_read ≡ true → v.has_turn ≡ true
    -- [5], [7]
    pub numbers : v.spent ≡ false → NumbersRule now.made (numbers_of v) v.made_from
    -- [8]
    pub draws : weight v ≤ TURNS_MAX

  -- of two views
  pub record PairRule (v w : View M) : Type 0 where
    -- [2]
    pub tickets : v.has_ticket ≡ true → w.has_ticket ≡ true → v.ticket ≢ w.ticket
    -- [5], [7]
    pub numbers : v.spent ≡ false → w.spent ≡ false → AreApart (numbers_of v) (numbers_of w)
    -- [7]
    pub made_from : v.spent ≡ false → w.spent ≡ false → AreApart v.made_from w.made_from

  -- some view has this property
  abbrev pub SomeView : List (View M) → (View M → Type 0) → Type 0
  SomeView views property = (i : ℕ) × (v : View M) × (get_elem? views i ≡ some v) × property v

  -- of all views
  pub record ViewsRule (now : Moment M) (views : List (View M)) : Type 0 where
    -- [3]
    pub count : length views ≡ now.made
    pub each : (i : ℕ) (v : View M) → get_elem? views i ≡ some v → ViewRule now v
    pub pairs : (i j : ℕ) (v w : View M) → j ≢ i → get_elem? views i ≡ some v → get_elem? views j ≡ some w → PairRule v w
    -- [1]
    pub full : SomeView views (λ v. (v.spent ≡ false) × (v.seen ≡ now.history))
    -- [2]
    pub tickets : (t : ℕ) → now.serving ≤ t → t < now.next → SomeView views (λ v. (v.has_ticket ≡ true) × (v.ticket ≡ t))
    -- [4]
    pub turn : now.is_out ≡ true → SomeView views (λ v. v.has_turn ≡ true)
    -- [5]
    pub callers : All (λ (e : Entry M). e.caller < now.made) now.history
    -- [7]
    pub numbers : (k : ℕ) → k < now.made → SomeView views (λ v. (v.spent ≡ false) × IsAmong k (numbers_of v))
    pub made_from : (k : ℕ) → 0 < k → k < now.made → SomeView views (λ v. (v.spent ≡ false) × IsAmong k v.made_from)
    -- [8]
    pub draws : now.next ≤ total weight views
    pub few : now.made ≤ PASSES_MAX
    pub order : now.serving ≤ now.next
    pub short : length now.history ≤ JOURNAL_MAX

  -- the words and the slot at a moment
  abbrev pub words_of : Moment M → List ℕ
  words_of now = now.next ∷ now.serving ∷ length now.history ∷ []

  abbrev pub slot_of : Moment M → Maybe (Slot M)
  slot_of now = cond now.is_out none (some (Some (now.history, now.made)))

  pub record TurnRule (table : State (Slot M) (View M)) : Type 0 where
    pub now : Moment M
    pub words : table.words ≡ words_of now
    pub slot : table.homes ≡ slot_of now ∷ []
    pub views : ViewsRule now table.views
