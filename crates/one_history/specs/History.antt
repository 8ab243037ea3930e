-- A history is a list of entries, with places from 0: the object after them, and the reply to each entry.
use Rattle.std.specs.Prelude.{◌≡◌, ◌==◌, ℕ, ◌≤◌, List, [], ◌∷◌, length, take, filter, slice_get, All, Option, Some, option_map}
use Rattle.one_history.specs.declared.entry.Entry.{Entry}
use Rattle.one_history.specs.declared.entry.Told.{Told}
use Rattle.one_history.specs.declared.journal.TheConstants.{JOURNAL_MAX}

abbrev pub entry_of : {M : Type 0} → ℕ → ℕ → M → Entry M
entry_of caller moment command = record { caller = caller; moment = moment; command = command }

-- the caller of the entry at a place
unfoldable pub caller_at : {M : Type 0} → List (Entry M) → ℕ → Option ℕ
caller_at history place = option_map (λ e. e.caller) (slice_get history place)

module _ {S M : Type 0} (next : S → ℕ → ℕ → M → S) where
  -- the state after all entries of a history, oldest first
  unfoldable pub fold : S → List (Entry M) → S
  fold start [] = start
  fold start (e ∷ history) = fold (next start e.caller e.moment e.command) history

  -- the reply to the entry at a place: the reply in the state after the earlier entries
  unfoldable pub reply_at : {R : Type 0} → S → (S → ℕ → ℕ → M → R) → List (Entry M) → ℕ → Option R
  reply_at start reply history place =
      option_map (λ e. reply (fold start (take place history)) e.caller e.moment e.command) (slice_get history place)

  -- an object with its history: the object is the fold, there are at most JOURNAL_MAX entries, and each command is good
  pub record IsHistoryOf (start : S) (IsGood : M → Type 0) (object : S) (history : List (Entry M)) : Type 0 where
    pub folded : object ≡ fold start history
    pub bounded : length history ≤ JOURNAL_MAX
    pub good : All (λ e. IsGood e.command) history

  -- a caller is told the place of an entry of its own, and the reply at that place
  pub record IsReplyTo {R : Type 0} (start : S) (reply : S → ℕ → ℕ → M → R) (history : List (Entry M)) (by : ℕ) (told : Told R) : Type 0 where
    pub caller : caller_at history told.at ≡ Some by
    pub reply_is : reply_at start reply history told.at ≡ Some told.reply

module _ {M : Type 0} where
  -- the entries of one caller, in order
  abbrev pub entries_by : ℕ → List (Entry M) → List (Entry M)
  entries_by caller history = filter (λ e. e.caller == caller) history

  -- in the part of the history that a caller has seen, its own entries are exactly these calls
  abbrev pub HasSeen : List (Entry M) → ℕ → List (Entry M) → Type 0
  HasSeen seen caller calls = entries_by caller seen ≡ calls
