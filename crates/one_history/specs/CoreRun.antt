-- The steps of the core, and its runs: any list of steps, with the outcome of each.
use Rattle.std.specs.Prelude.{◌≡◌, ℕ, ◌<◌, ◌≤◌, List, [], ◌∷◌, ◌++◌, length, nat_eq, slice_get, Contains, Option, Some, None, Ok, Err}
use Rattle.std.specs.List.{IsDistinct, AllZip, filter_map}
use Rattle.std.specs.Map.{values_of}
use Rattle.one_history.specs.declared.entry.Entry.{Entry}
use Rattle.one_history.specs.declared.journal.TheConstants.{JOURNAL_MAX}
use Rattle.one_history.specs.declared.steps.Step.{Step}
use Rattle.one_history.specs.declared.steps.Step.TheVariants.{Event, Answer}
use Rattle.one_history.specs.declared.steps.Outcome.{Outcome}
use Rattle.one_history.specs.declared.steps.Outcome.TheVariants.{Placed, Answered}
use Rattle.one_history.specs.Core.{Core, place_of, after_event, after_answer}
use Rattle.one_history.specs.History.{entry_of, reply_at, IsReplyTo}
use Rattle.one_history.specs.Refusals.{RefusesEvent}

module _ {S M R : Type 0} (next : S → ℕ → ℕ → M → S) (start : S) (reply : S → ℕ → ℕ → M → R) where
  -- one step from a state to the next, with its outcome: an event gets the place after all others, and an answer is the
  -- reply at the place of its caller's event; a refused event, and an answer that nobody waits for, change nothing
  abbrev pub CoreStep : Core M → Step M → Outcome R → Core M → Type 0
  CoreStep core (Event caller moment command) (Placed (Ok at)) after =
      (place_of caller core ≡ None) × (length core.history < JOURNAL_MAX) × (at ≡ length core.history) × (after ≡ after_event caller moment command core)
  CoreStep core (Event caller moment command) (Placed (Err refusal)) after = RefusesEvent caller core refusal × (after ≡ core)
  CoreStep core (Answer caller) (Answered (Some told)) after =
      (place_of caller core ≡ Some told.at) × (reply_at next start reply core.history told.at ≡ Some told.reply) × (after ≡ after_answer caller core)
  CoreStep core (Answer caller) (Answered None) after = (place_of caller core ≡ None) × (after ≡ core)
  CoreStep core _ _ after = ⊥

  -- these steps with these outcomes, one after another, lead from a state to another
  unfoldable pub IsCoreRun : Core M → List (Step M) → List (Outcome R) → Core M → Type 0
  IsCoreRun core [] [] after = after ≡ core
  IsCoreRun core (step ∷ steps) (outcome ∷ outcomes) after = (middle : Core M) × CoreStep core step outcome middle × IsCoreRun middle steps outcomes after
  IsCoreRun core _ _ after = ⊥

  -- an outcome holds in a history: a committed event is the entry at its place, and an answer is the reply to an entry of
  -- its caller, at the entry's place
  abbrev pub IsOutcomeIn : List (Entry M) → Step M → Outcome R → Type 0
  IsOutcomeIn history (Event caller moment command) (Placed (Ok at)) = slice_get history at ≡ Some (entry_of caller moment command)
  IsOutcomeIn history (Event caller moment command) (Placed (Err refusal)) = Unit {0}
  IsOutcomeIn history (Answer caller) (Answered (Some told)) = IsReplyTo next start reply history caller told
  IsOutcomeIn history (Answer caller) (Answered None) = Unit {0}
  IsOutcomeIn history _ _ = ⊥

  abbrev pub AreOutcomesIn : List (Entry M) → List (Step M) → List (Outcome R) → Type 0
  AreOutcomesIn history steps outcomes = AllZip (IsOutcomeIn history) steps outcomes

-- the command of the step is good
abbrev pub IsGoodStep : {M : Type 0} → (M → Type 0) → Step M → Type 0
IsGoodStep IsGood (Event caller moment command) = IsGood command
IsGoodStep IsGood (Answer caller) = Unit {0}

-- the place of the event that is answered, if any
abbrev pub place_answered : {R : Type 0} → Outcome R → Option ℕ
place_answered (Answered (Some told)) = Some told.at
place_answered _ = None

-- the places that were answered, and those that still wait
abbrev pub places_told : {M R : Type 0} → List (Outcome R) → Core M → List ℕ
places_told outcomes after = filter_map place_answered outcomes ++ values_of after.waiting

-- each event is answered once, or still waits
pub record AnswersOnce {M R : Type 0} (before : Core M) (outcomes : List (Outcome R)) (after : Core M) : Type 0 where
  -- no event is answered twice, and no answered event still waits
  pub once : IsDistinct nat_eq (places_told outcomes after)
  -- no event that waited before is lost
  pub waited : (caller place : ℕ) → place_of caller before ≡ Some place → Contains (places_told outcomes after) place
  -- no event that was committed is lost
  pub came : (place : ℕ) → length before.history ≤ place → place < length after.history → Contains (places_told outcomes after) place
