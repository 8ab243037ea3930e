-- Who calls, and what one commit of the caller may make of the history that it has seen.
use Rattle.std.specs.Prelude.{◌≡◌, ◌≢◌, ◌<◌, ℕ, List, [], ◌∷◌, ◌++◌, length, Bool, true, false, All, Result, Ok, Err}
use Rattle.one_history.specs.declared.entry.Entry.{Entry}
use Rattle.one_history.specs.declared.entry.Told.{Told}
use Rattle.one_history.specs.declared.journal.TheConstants.{JOURNAL_MAX}
use Rattle.one_history.specs.declared.journal.JournalRefusal.{JournalRefusal}
use Rattle.one_history.specs.declared.journal.JournalRefusal.TheVariants.{Full, NoMemory}
use Rattle.askrene_command.specs.declared.command.Command.{Command}
use Rattle.askrene_command.specs.declared.reply.EventReply.{EventReply}
use Rattle.session.specs.Answers.{IsToldAfter}

-- the caller's number, and whether nobody else commits to its history
pub record CallerIdentity : Type 0 where
  pub number : ℕ
  pub is_alone : Bool

-- the only caller of a history
abbrev pub only_caller : CallerIdentity
only_caller = record { number = 0; is_alone = true }

-- a caller among others
abbrev pub one_of_many : ℕ → CallerIdentity
one_of_many number = record { number = number; is_alone = false }

abbrev pub MayBeBetween : Bool → ℕ → List (Entry Command) → Type 0
MayBeBetween true number between = between ≡ []
MayBeBetween false number between = All (λ e. e.caller ≢ number) between

-- the entries that may come between two of the caller's own: none, or entries of others
abbrev pub AllowedBetween : CallerIdentity → List (Entry Command) → Type 0
AllowedBetween who between = MayBeBetween who.is_alone who.number between

-- the entry is appended after all that the caller had seen, and the caller is told its reply
pub record IsCommitted (who : CallerIdentity) (entry : Entry Command) (seen : List (Entry Command)) (told : Told EventReply) (after : List (Entry Command)) : Type 0 where
  pub between : List (Entry Command)
  pub allowed : AllowedBetween who between
  pub room : length (seen ++ between) < JOURNAL_MAX
  pub appended : after ≡ seen ++ between ++ entry ∷ []
  pub told_after : IsToldAfter (seen ++ between) entry told

-- no entry is appended; the caller may have seen entries of others
pub record HasSeenMore (who : CallerIdentity) (seen after : List (Entry Command)) : Type 0 where
  pub between : List (Entry Command)
  pub allowed : AllowedBetween who between
  pub grown : after ≡ seen ++ between

-- the outcome of a commit
abbrev pub CommitOutcome : CallerIdentity → Entry Command → List (Entry Command) → Result (Told EventReply) JournalRefusal → List (Entry Command) → Type 0
CommitOutcome who entry seen (Ok told) after = IsCommitted who entry seen told after
CommitOutcome who entry seen (Err (Full entries)) after =
    HasSeenMore who seen after × (length after ≡ JOURNAL_MAX) × (entries ≡ JOURNAL_MAX)
CommitOutcome who entry seen (Err NoMemory) after = HasSeenMore who seen after
