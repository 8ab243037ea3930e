-- An object keeps its history as entries come.
use Rattle.std.proofs.Common.{◌≡◌, ℕ, ◌<◌, List, [], ◌∷◌, ◌++◌, length, length-append, arith, sym, ◌∙◌, ap}
use Rattle.std.proofs.lemmas.List.Elements.{All-nil, All-push}
use Rattle.one_history.specs.declared.entry.Entry.{Entry}
use Rattle.one_history.specs.declared.journal.TheConstants.{JOURNAL_MAX}
use Rattle.one_history.specs.History.{entry_of, IsHistoryOf}
use Rattle.one_history.proofs.Folds.{fold_none, fold_push}

module _ {S M : Type 0} (next : S → ℕ → ℕ → M → S) (start : S) (good : M → Type 0) where
  -- the first object has no history
  pub history_none : (object : S) (history : List (Entry M)) → object ≡ start → history ≡ [] → IsHistoryOf next start good object history
  history_none object history fresh none = record {
    folded = rw none (fresh ∙ sym (fold_none next start));
    bounded = rw none (omega arith);
    good = rw none (All-nil (λ e. good e.command));
  }

  -- a step adds its entry, once there is room for it
  pub history_push : (object : S) (history : List (Entry M)) (caller moment : ℕ) (command : M) (object' : S) (reserved history' : List (Entry M))
      → IsHistoryOf next start good object history → length history < JOURNAL_MAX → good command
      → object' ≡ next object caller moment command → reserved ≡ history → history' ≡ reserved ++ entry_of caller moment command ∷ []
      → IsHistoryOf next start good object' history'
  history_push object history caller moment command object' reserved history' old room good_command stepped same appended = record {
    folded = stepped ∙ ap (λ o. next o caller moment command) old.folded ∙ rw (appended, same, fold_push next start history (entry_of caller moment command));
    bounded = rw (appended, same, length-append) (omega arith);
    good = rw (appended, same) (All-push (λ e. good e.command) history (entry_of caller moment command) old.good good_command);
  }
