-- Lines that are served one after another.
use Rattle.std.proofs.Common.{◌≡◌, ◌≤◌, ◌∙◌, ℕ, List, [], ◌∷◌, ◌++◌, length, false, nat_lt, refl, append_assoc}
use Rattle.std.proofs.lemmas.List.{append-nil}
use Rattle.std.proofs.lemmas.List.Folds.{list_any-append}
use Rattle.std.proofs.lemmas.Bool.{le-ltb}
use Rattle.std.specs.List.{concat}
use Rattle.one_history.specs.declared.entry.Entry.{Entry}
use Rattle.line_cut.specs.declared.limits.TheConstants.{LINE_MAX}
use Rattle.rpc_lines.specs.Reply.{Content}
use Rattle.askrene_command.specs.declared.command.Command.{Command}
use Rattle.session.specs.Line.{meaning_of}
use Rattle.session.specs.Caller.{CallerIdentity}
use Rattle.session.specs.Outcome.{SessionState, LineOutcome}
use Rattle.session.specs.Session.{ServesLines, any_is_long}

module _ (answers : List (Entry Command) → Entry Command → Content → Type 0) (who : CallerIdentity) where
  -- one more line after the others
  pub serves_push : (lines : List (List ℕ)) (line : List ℕ) (old mid new : SessionState) (replies : List (List ℕ)) (text : List ℕ)
      → ServesLines answers who lines old replies mid → LineOutcome answers who (meaning_of line) mid text new
      → ServesLines answers who (lines ++ line ∷ []) old (replies ++ text ∷ []) new
  serves_push [] line old mid new replies text (none, same) outcome = (text, new, [], rw same at outcome, (refl, refl), rw none refl)
  serves_push (first ∷ lines) line old mid new replies text (said, stage, more, serves, walk, is) outcome =
      (said, stage, more ++ text ∷ [], serves, serves_push lines line stage mid new more text walk outcome, rw is refl)

-- a line that isn't too long after others that aren't
pub short_push : (lines : List (List ℕ)) (line : List ℕ) → any_is_long lines ≡ false → length line ≤ LINE_MAX → any_is_long (lines ++ line ∷ []) ≡ false
short_push lines line none most =
    let fits : nat_lt LINE_MAX (length line) ≡ false = le-ltb _ _ most in
    list_any-append (λ other. nat_lt LINE_MAX (length other)) lines (line ∷ []) ∙ (rw (none, fits) refl)

-- one more text after the others
pub concat_push : (texts : List (List ℕ)) (text : List ℕ) → concat (texts ++ text ∷ []) ≡ concat texts ++ text
concat_push [] text = append-nil text
concat_push (first ∷ texts) text = rw (concat_push texts text) (simp append_assoc)
