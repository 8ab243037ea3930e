-- Folds of histories.
use Rattle.std.proofs.Common.{◌≡◌, ℕ, List, [], ◌∷◌, ◌++◌, refl}
use Rattle.one_history.specs.declared.entry.Entry.{Entry}
use Rattle.one_history.specs.History.{fold}

module _ {S M : Type 0} (next : S → ℕ → ℕ → M → S) where
  -- no entries leave the first state
  pub fold_none : (start : S) → fold next start [] ≡ start
  unfolding fold
  fold_none start = refl

  -- a last entry is the last step
  pub fold_push : (start : S) (history : List (Entry M)) (e : Entry M) → fold next start (history ++ e ∷ []) ≡ next (fold next start history) e.caller e.moment e.command
  unfolding fold
  fold_push start [] e = refl
  fold_push start (x ∷ history) e = fold_push (next start x.caller x.moment x.command) history e
