-- A commit of the only caller of a journal.
use Rattle.std.proofs.Common.{◌≡◌, ◌<◌, ℕ, List, [], ◌∷◌, ◌++◌, length, Result, Ok, Err, refl, ◌∙◌}
use Rattle.std.specs.Prelude.{OnOk, IfOk, OnErr, IfErr}
use Rattle.std.proofs.lemmas.List.{append-nil}
use Rattle.one_history.specs.declared.entry.Entry.{Entry}
use Rattle.one_history.specs.declared.entry.Told.{Told}
use Rattle.one_history.specs.declared.journal.TheConstants.{JOURNAL_MAX}
use Rattle.one_history.specs.declared.journal.JournalRefusal.{JournalRefusal}
use Rattle.one_history.specs.declared.journal.JournalRefusal.TheVariants.{Full, NoMemory}
use Rattle.one_history.specs.History.{fold, entry_of}
use Rattle.one_history.specs.Refusals.{Refuses}
use Rattle.askrene_state.specs.Step.{no_service, next_of, reply_of}
use Rattle.askrene_command.specs.declared.command.Command.{Command}
use Rattle.askrene_command.specs.declared.reply.EventReply.{EventReply}
use Rattle.session.specs.Answers.{IsToldAfter}
use Rattle.session.specs.Caller.{only_caller, HasSeenMore, CommitOutcome}

seen_no_more : (seen after : List (Entry Command)) → after ≡ seen → HasSeenMore only_caller seen after
seen_no_more seen after same = record { between = []; allowed = refl; grown = rw (append-nil seen) same }

told_at : (history seen : List (Entry Command)) (moment : ℕ) (asked : Command) (told : Told EventReply) → history ≡ seen → told.at ≡ length seen
    → told.reply ≡ reply_of (fold next_of no_service seen) 0 moment asked → IsToldAfter history (entry_of 0 moment asked) told
told_at history seen moment asked told same at reply = rw same (record { at = at; reply = reply })

pub commit_outcome : (moment : ℕ) (asked : Command) (seen after : List (Entry Command)) (result : Result (Told EventReply) JournalRefusal)
    → OnOk result (length seen < JOURNAL_MAX) → IfOk result (λ t. t.at ≡ length seen)
    → IfOk result (λ t. t.reply ≡ reply_of (fold next_of no_service seen) 0 moment asked)
    → OnOk result (after ≡ seen ++ entry_of 0 moment asked ∷ []) → OnErr result (after ≡ seen) → IfErr result (λ r. Refuses (length seen) r)
    → CommitOutcome only_caller (entry_of 0 moment asked) seen result after
commit_outcome moment asked seen after (Ok told) room at reply appended err refused = record {
  between = [];
  allowed = refl;
  room = rw (append-nil seen) room;
  appended = rw (append-nil seen) appended;
  told_after = told_at (seen ++ []) seen moment asked told (append-nil seen) at reply;
}
commit_outcome moment asked seen after (Err (Full entries)) room at reply appended err refused =
    (seen_no_more seen after err, rw err refused.1, refused.0 ∙ refused.1)
commit_outcome moment asked seen after (Err NoMemory) room at reply appended err refused = seen_no_more seen after err
