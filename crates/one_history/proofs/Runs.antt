-- Runs of the core, by induction on their steps.
use Rattle.std.proofs.Common.{◌≡◌, ℕ, ◌+◌, ◌<◌, ◌≤◌, Bool, true, false, ◌⊎◌, inl, inr, List, [], ◌∷◌, ◌++◌, length, nat_eq, not, All, Contains, Some, None, Ok, Err, refl, sym, ◌∙◌, ap, subst, append_assoc, length-append, true≢false, arith}
use Rattle.std.specs.List.{IsDistinct, AllZip, cons_option, filter_map}
use Rattle.std.specs.Map.{values_of, lookup}
use Rattle.std.proofs.lemmas.Bool.{eqb-true, eq-eqb}
use Rattle.std.proofs.lemmas.List.{append-nil}
use Rattle.std.proofs.lemmas.List.Elements.{All-cons, All-push, All-filter, All-weaker, Contains-get_or, Contains-append_right}
use Rattle.std.proofs.lemmas.Map.Made.{IsDistinct-keys_filter}
use Rattle.one_history.specs.declared.entry.Entry.{Entry}
use Rattle.one_history.specs.declared.entry.Told.{Told}
use Rattle.one_history.specs.declared.steps.Step.{Step}
use Rattle.one_history.specs.declared.steps.Step.TheVariants.{Event, Answer}
use Rattle.one_history.specs.declared.steps.Outcome.{Outcome}
use Rattle.one_history.specs.declared.steps.Outcome.TheVariants.{Placed, Answered}
use Rattle.one_history.specs.Core.{Core, IsCore, place_of}
use Rattle.one_history.specs.CoreRun.{CoreStep, IsCoreRun, IsOutcomeIn, AnswersOnce, place_answered, places_told}
use Rattle.one_history.specs.History.{entry_of, caller_at}
use Rattle.one_history.proofs.Places.{caller_at_append, caller_at_push, caller_at_within, slice_get_append, slice_get_push, reply_to_append}
use Rattle.one_history.proofs.Waiting.{found_among, lookup_push, lookup_push_cases, lookup_pushed, lookup_without, lookup_others, own_found, each_found, recursive, places_distinct, keys_push}

-- the lists of a loop over steps: as many outcomes as steps were taken, and these with the rest are all
pub as_many : {X Y : Type 0} (xs : List X) (ys : List Y) (x : X) (y : Y) (zs : List X) → zs ≡ xs ++ x ∷ [] → length xs ≡ length ys → length zs ≡ length (ys ++ y ∷ [])
as_many xs ys x y zs is same = rw (is, length-append xs (x ∷ []), length-append ys (y ∷ [])) (omega (arith, same))

pub one_taken : {X : Type 0} (taken rest : List X) (x : X) (rest' all : List X) → rest ≡ x ∷ rest' → taken ++ rest ≡ all → (taken ++ x ∷ []) ++ rest' ≡ all
one_taken taken rest x rest' all is whole = rw append_assoc (rw is at whole)

all_taken : {X : Type 0} (taken rest all : List X) → length rest ≡ 0 → taken ++ rest ≡ all → taken ≡ all
all_taken taken [] all none whole = sym (append-nil taken) ∙ whole
all_taken taken (x ∷ rest) all none whole = absurd (omega (arith, none))

-- a place whose event waits for an answer
abbrev Waits : {M : Type 0} → Core M → ℕ → Type 0
Waits core place = (caller : ℕ) × (place_of caller core ≡ Some place)

module _ {S M R : Type 0} (next : S → ℕ → ℕ → M → S) (start : S) (reply : S → ℕ → ℕ → M → R) where
  -- a step keeps the invariant
  step_core : (core : Core M) (step : Step M) (outcome : Outcome R) (after : Core M) → CoreStep next start reply core step outcome after → IsCore core → IsCore after
  step_core core (Event caller moment command) (Placed (Ok at)) after is old = rw is.3 (record {
    once = keys_push caller (length core.history) core.waiting is.0 old.once;
    own = All-push (λ w. caller_at (core.history ++ entry_of caller moment command ∷ []) w.1 ≡ Some w.0) core.waiting (caller, length core.history)
        (All-weaker (λ w. caller_at core.history w.1 ≡ Some w.0) (λ w. caller_at (core.history ++ entry_of caller moment command ∷ []) w.1 ≡ Some w.0)
        (λ w at. caller_at_append core.history (entry_of caller moment command ∷ []) w.1 w.0 at) core.waiting old.own)
        (caller_at_push core.history (entry_of caller moment command));
  })
  step_core core (Event caller moment command) (Placed (Err refusal)) after is old = rw is.1 old
  step_core core (Event caller moment command) (Answered told) after is old = absurd is
  step_core core (Answer caller) (Answered (Some told)) after is old = rw is.2 (record {
    once = IsDistinct-keys_filter nat_eq (λ w. not (nat_eq caller w.0)) core.waiting old.once;
    own = All-filter (λ w. not (nat_eq caller w.0)) (λ w. caller_at core.history w.1 ≡ Some w.0) core.waiting old.own;
  })
  step_core core (Answer caller) (Answered None) after is old = rw is.1 old
  step_core core (Answer caller) (Placed at) after is old = absurd is

  -- a step only appends to the history
  step_grows : (core : Core M) (step : Step M) (outcome : Outcome R) (after : Core M) → CoreStep next start reply core step outcome after
      → (tail : List (Entry M)) × (after.history ≡ core.history ++ tail)
  step_grows core (Event caller moment command) (Placed (Ok at)) after is = (entry_of caller moment command ∷ [], ap (λ c. c.history) is.3)
  step_grows core (Event caller moment command) (Placed (Err refusal)) after is = ([], ap (λ c. c.history) is.1 ∙ sym (append-nil core.history))
  step_grows core (Event caller moment command) (Answered told) after is = absurd is
  step_grows core (Answer caller) (Answered (Some told)) after is = ([], ap (λ c. c.history) is.2 ∙ sym (append-nil core.history))
  step_grows core (Answer caller) (Answered None) after is = ([], ap (λ c. c.history) is.1 ∙ sym (append-nil core.history))
  step_grows core (Answer caller) (Placed at) after is = absurd is

  run_grows : (steps : List (Step M)) (outcomes : List (Outcome R)) (core after : Core M) → IsCoreRun next start reply core steps outcomes after
      → (tail : List (Entry M)) × (after.history ≡ core.history ++ tail)
  unfolding IsCoreRun
  run_grows [] [] core after is = ([], ap (λ c. c.history) is ∙ sym (append-nil core.history))
  run_grows [] (o ∷ outcomes) core after is = absurd is
  run_grows (s ∷ steps) [] core after is = absurd is
  run_grows (s ∷ steps) (o ∷ outcomes) core after (middle, step, rest) =
      joined (step_grows core s o middle step) (run_grows steps outcomes middle after rest)
    where
      joined : (tail : List (Entry M)) × (middle.history ≡ core.history ++ tail) → (tail : List (Entry M)) × (after.history ≡ middle.history ++ tail)
          → (tail : List (Entry M)) × (after.history ≡ core.history ++ tail)
      joined (first, one) (second, two) = (first ++ second, two ∙ ap (λ h. h ++ second) one ∙ append_assoc core.history first second)

  -- the outcome of a step holds in the history after it
  outcome_here : (core : Core M) (step : Step M) (outcome : Outcome R) (after : Core M) → CoreStep next start reply core step outcome after → IsCore core
      → IsOutcomeIn next start reply after.history step outcome
  outcome_here core (Event caller moment command) (Placed (Ok at)) after is old = rw (is.3, is.2) (slice_get_push core.history (entry_of caller moment command))
  outcome_here core (Event caller moment command) (Placed (Err refusal)) after is old = tt
  outcome_here core (Event caller moment command) (Answered told) after is old = absurd is
  outcome_here core (Answer caller) (Answered (Some told)) after is old = rw is.2 (record {
    caller = own_found core.history caller core.waiting told.at old.own is.0;
    reply_is = is.1;
  })
  outcome_here core (Answer caller) (Answered None) after is old = tt
  outcome_here core (Answer caller) (Placed at) after is old = absurd is

  -- an outcome also holds in a longer history
  outcome_append : (history tail : List (Entry M)) (step : Step M) (outcome : Outcome R) → IsOutcomeIn next start reply history step outcome → IsOutcomeIn next start reply (history ++ tail) step outcome
  outcome_append history tail (Event caller moment command) (Placed (Ok at)) is = slice_get_append history tail at (entry_of caller moment command) is
  outcome_append history tail (Event caller moment command) (Placed (Err refusal)) is = tt
  outcome_append history tail (Event caller moment command) (Answered told) is = absurd is
  outcome_append history tail (Answer caller) (Answered (Some told)) is = reply_to_append next reply start history tail caller told is
  outcome_append history tail (Answer caller) (Answered None) is = tt
  outcome_append history tail (Answer caller) (Placed at) is = absurd is

  -- all outcomes hold in the history at the end
  run_outcomes : (steps : List (Step M)) (outcomes : List (Outcome R)) (core after : Core M) → IsCore core → IsCoreRun next start reply core steps outcomes after
      → AllZip (IsOutcomeIn next start reply after.history) steps outcomes
  unfolding IsCoreRun
  run_outcomes [] [] core after old is = tt
  run_outcomes [] (o ∷ outcomes) core after old is = absurd is
  run_outcomes (s ∷ steps) [] core after old is = absurd is
  run_outcomes (s ∷ steps) (o ∷ outcomes) core after old (middle, step, rest) = (
    later (run_grows steps outcomes middle after rest),
    run_outcomes steps outcomes middle after (step_core core s o middle step old) rest,
  )
    where
      later : (tail : List (Entry M)) × (after.history ≡ middle.history ++ tail) → IsOutcomeIn next start reply after.history s o
      later (tail, grows) = subst (λ h. IsOutcomeIn next start reply h s o) (sym grows) (outcome_append middle.history tail s o (outcome_here core s o middle step old))

  pub all_outcomes : (taken rest all : List (Step M)) (outcomes : List (Outcome R)) (core after : Core M) → length rest ≡ 0 → taken ++ rest ≡ all → IsCore core
      → IsCoreRun next start reply core taken outcomes after → AllZip (IsOutcomeIn next start reply after.history) all outcomes
  all_outcomes taken rest all outcomes core after none whole old is = rw (← all_taken taken rest all none whole) (run_outcomes taken outcomes core after old is)

  -- no step
  pub run_none : (outcomes : List (Outcome R)) (core : Core M) → outcomes ≡ [] → IsCoreRun next start reply core [] outcomes core
  unfolding IsCoreRun
  run_none outcomes core none = rw none refl

  -- one more step
  pub run_push : (steps : List (Step M)) (outcomes : List (Outcome R)) (core middle : Core M) (step : Step M) (outcome : Outcome R) (after : Core M)
      → IsCoreRun next start reply core steps outcomes middle → CoreStep next start reply middle step outcome after
      → IsCoreRun next start reply core (steps ++ step ∷ []) (outcomes ++ outcome ∷ []) after
  unfolding IsCoreRun
  run_push [] [] core middle step outcome after is one = (after, subst (λ c. CoreStep next start reply c step outcome after) is one, refl)
  run_push [] (o ∷ outcomes) core middle step outcome after is one = absurd is
  run_push (s ∷ steps) [] core middle step outcome after is one = absurd is
  run_push (s ∷ steps) (o ∷ outcomes) core middle step outcome after (first, step_first, rest) one =
      (first, step_first, run_push steps outcomes first middle step outcome after rest one)

  -- a place that waits after a step waited before it, or came with it
  waits_before : (core : Core M) (step : Step M) (outcome : Outcome R) (after : Core M) → CoreStep next start reply core step outcome after → (place : ℕ)
      → Waits after place ⊎ (length after.history ≤ place) → Waits core place ⊎ (length core.history ≤ place)
  waits_before core (Event caller moment command) (Placed (Ok at)) after is place (inl (other, found)) =
      by (lookup_push_cases (nat_eq other) core.waiting (caller, length core.history) place (rw is.3 at found))
    where
      by : (lookup (nat_eq other) core.waiting ≡ Some place) ⊎ (length core.history ≡ place) → Waits core place ⊎ (length core.history ≤ place)
      by (inl was) = inl (other, was)
      by (inr came) = inr (omega (arith, came))
  waits_before core (Event caller moment command) (Placed (Ok at)) after is place (inr late) =
      let grown : length after.history ≡ length core.history + 1 = rw is.3 (length-append core.history (entry_of caller moment command ∷ [])) in
      inr (omega (arith, grown, late))
  waits_before core (Event caller moment command) (Placed (Err refusal)) after is place waits = rw (← is.1) waits
  waits_before core (Event caller moment command) (Answered told) after is place waits = absurd is
  waits_before core (Answer caller) (Answered (Some told)) after is place (inl (other, found)) =
      let both = lookup_without caller other core.waiting place (rw is.2 at found) in inl (other, both.1)
  waits_before core (Answer caller) (Answered (Some told)) after is place (inr late) = inr (rw is.2 at late)
  waits_before core (Answer caller) (Answered None) after is place waits = rw (← is.1) waits
  waits_before core (Answer caller) (Placed at) after is place waits = absurd is

  -- a place that waits before a step, or comes with it or later, waits after it, comes later, or is answered by it
  waits_after : (core : Core M) (step : Step M) (outcome : Outcome R) (after : Core M) → CoreStep next start reply core step outcome after → (place : ℕ)
      → Waits core place ⊎ (length core.history ≤ place) → (Waits after place ⊎ (length after.history ≤ place)) ⊎ (place_answered outcome ≡ Some place)
  waits_after core (Event caller moment command) (Placed (Ok at)) after is place (inl (other, found)) =
      inl (inl (other, rw is.3 (lookup_push (nat_eq other) core.waiting (caller, length core.history) place found)))
  waits_after core (Event caller moment command) (Placed (Ok at)) after is place (inr late) =
      by (nat_eq (length core.history) place) refl
    where
      grown : length after.history ≡ length core.history + 1
      grown = rw is.3 (length-append core.history (entry_of caller moment command ∷ []))

      by : (b : Bool) → nat_eq (length core.history) place ≡ b → (Waits after place ⊎ (length after.history ≤ place)) ⊎ (place_answered {R = R} (Placed (Ok at)) ≡ Some place)
      by true same =
          let e : length core.history ≡ place = eqb-true (length core.history) place same in
          inl (inl (caller, rw (is.3, ← e) (lookup_pushed caller core.waiting (length core.history) is.0)))
      by false apart =
          let ne : length core.history ≡ place → ⊥ = λ e. true≢false (sym (eq-eqb (length core.history) place e) ∙ apart) in
          inl (inr (omega (arith, grown, late, ne)))
  waits_after core (Event caller moment command) (Placed (Err refusal)) after is place waits = inl (rw is.1 waits)
  waits_after core (Event caller moment command) (Answered told) after is place waits = absurd is
  waits_after core (Answer caller) (Answered (Some told)) after is place (inl (other, found)) = by (nat_eq caller other) refl
    where
      by : (b : Bool) → nat_eq caller other ≡ b → (Waits after place ⊎ (length after.history ≤ place)) ⊎ (Some told.at ≡ Some place)
      by true same = inr (sym is.0 ∙ rw (eqb-true caller other same) found)
      by false apart = inl (inl (other, rw is.2 (lookup_others caller other core.waiting place apart found)))
  waits_after core (Answer caller) (Answered (Some told)) after is place (inr late) = inl (inr (rw is.2 late))
  waits_after core (Answer caller) (Answered None) after is place waits = inl (rw is.1 waits)
  waits_after core (Answer caller) (Placed at) after is place waits = absurd is

  -- a place that waits after an answer, or comes later, is not the one that was answered
  answered_apart : (core : Core M) (caller : ℕ) (told : Told R) (after : Core M) → CoreStep next start reply core (Answer caller) (Answered (Some told)) after → IsCore core
      → (place : ℕ) → Waits after place ⊎ (length after.history ≤ place) → nat_eq told.at place ≡ false
  answered_apart core caller told after is old place waits = by (nat_eq told.at place) refl waits
    where
      own : caller_at core.history told.at ≡ Some caller
      own = own_found core.history caller core.waiting told.at old.own is.0

      by : (b : Bool) → nat_eq told.at place ≡ b → Waits after place ⊎ (length after.history ≤ place) → nat_eq told.at place ≡ false
      by true same (inl (other, found)) =
          let both = lookup_without caller other core.waiting place (rw is.2 at found) in
          let its : caller_at core.history place ≡ Some other = own_found core.history other core.waiting place old.own both.1 in
          let here : caller_at core.history place ≡ Some caller = rw (← eqb-true told.at place same) own in
          let joined : Some caller ≡ Some other = sym here ∙ its in
          let e : caller ≡ other = cc in
          absurd (true≢false (sym (eq-eqb caller other e) ∙ both.0))
      by true same (inr late) =
          let within = caller_at_within core.history told.at caller own in
          let e = eqb-true told.at place same in
          let later : length core.history ≤ place = rw is.2 at late in
          absurd (omega (arith, within, e, later))
      by false apart waits = apart

  -- the places that are answered from a step on are distinct, and each waited before the step or comes later
  abbrev Later : Core M → ℕ → Type 0
  Later core place = Waits core place ⊎ (length core.history ≤ place)

  abbrev Once : List (Outcome R) → Core M → Core M → Type 0
  Once outcomes core after =
      IsDistinct nat_eq (places_told outcomes after) × All (Later core) (places_told outcomes after)

  step_once : (core : Core M) (step : Step M) (outcome : Outcome R) (middle : Core M) (outcomes : List (Outcome R)) (after : Core M)
      → CoreStep next start reply core step outcome middle → IsCore core → Once outcomes middle after → Once (outcome ∷ outcomes) core after
  unfolding IsDistinct
  step_once core (Event caller moment command) (Placed at) middle outcomes after is old rest =
      (rest.0, All-weaker (Later middle) (Later core) (waits_before core (Event caller moment command) (Placed at) middle is) (places_told outcomes after) rest.1)
  step_once core (Event caller moment command) (Answered told) middle outcomes after is old rest = absurd is
  step_once core (Answer caller) (Answered (Some told)) middle outcomes after is old rest = (
    (recursive _ (places_told outcomes after) (All-weaker (Later middle) (λ place. nat_eq told.at place ≡ false) (answered_apart core caller told middle is old) (places_told outcomes after) rest.1), rest.0),
    All-cons (Later core) told.at (places_told outcomes after) (inl (caller, is.0)) (All-weaker (Later middle) (Later core) (waits_before core (Answer caller) (Answered (Some told)) middle is) (places_told outcomes after) rest.1),
  )
  step_once core (Answer caller) (Answered None) middle outcomes after is old rest =
      (rest.0, All-weaker (Later middle) (Later core) (waits_before core (Answer caller) (Answered None) middle is) (places_told outcomes after) rest.1)
  step_once core (Answer caller) (Placed at) middle outcomes after is old rest = absurd is

  run_once : (steps : List (Step M)) (outcomes : List (Outcome R)) (core after : Core M) → IsCore core → IsCoreRun next start reply core steps outcomes after → Once outcomes core after
  unfolding IsCoreRun
  run_once [] [] core after old is = rw is (
    places_distinct core.history core.waiting old.once old.own,
    All-weaker (Waits core) (Later core) (λ place waits. inl waits) (values_of core.waiting) (each_found core.waiting old.once),
  )
  run_once [] (o ∷ outcomes) core after old is = absurd is
  run_once (s ∷ steps) [] core after old is = absurd is
  run_once (s ∷ steps) (o ∷ outcomes) core after old (middle, step, rest) =
      step_once core s o middle outcomes after step old (run_once steps outcomes middle after (step_core core s o middle step old) rest)

  -- a place that waits, or comes, is answered or still waits at the end
  run_keeps : (steps : List (Step M)) (outcomes : List (Outcome R)) (core after : Core M) → IsCoreRun next start reply core steps outcomes after → (place : ℕ) → place < length after.history
      → Waits core place ⊎ (length core.history ≤ place) → Contains (places_told outcomes after) place
  unfolding IsCoreRun
  run_keeps [] [] core after is place within (inl (caller, found)) = rw is (found_among caller core.waiting place found)
  run_keeps [] [] core after is place within (inr late) = let same = ap (λ c. length c.history) is in absurd (omega (arith, same, late, within))
  run_keeps [] (o ∷ outcomes) core after is place within waits = absurd is
  run_keeps (s ∷ steps) [] core after is place within waits = absurd is
  run_keeps (s ∷ steps) (o ∷ outcomes) core after (middle, step, rest) place within waits =
      by (waits_after core s o middle step place waits) (run_keeps steps outcomes middle after rest place within)
    where
      by : (Waits middle place ⊎ (length middle.history ≤ place)) ⊎ (place_answered o ≡ Some place)
          → (Waits middle place ⊎ (length middle.history ≤ place) → Contains (places_told outcomes after) place) → Contains (places_told (o ∷ outcomes) after) place
      by (inl waits) later =
          elim (place_answered o) as (λ x. Contains (cons_option x (filter_map place_answered outcomes) ++ values_of after.waiting) place)
          [ Some q ↦ Contains-append_right (q ∷ []) (places_told outcomes after) place (later waits) | None ↦ later waits ]
      by (inr told) later = rw told (Contains-get_or (place ∷ places_told outcomes after) 0 place (omega arith))

  -- each event of a run is answered once, or still waits
  pub run_answers : (steps : List (Step M)) (outcomes : List (Outcome R)) (core after : Core M) → IsCore core → IsCoreRun next start reply core steps outcomes after → AnswersOnce core outcomes after
  run_answers steps outcomes core after old is = record {
    once = (run_once steps outcomes core after old is).0;
    waited = λ caller place waits. run_keeps steps outcomes core after is place (within caller place waits (run_grows steps outcomes core after is)) (inl (caller, waits));
    came = λ place late within. run_keeps steps outcomes core after is place within (inr late);
  }
    where
      within : (caller place : ℕ) → place_of caller core ≡ Some place → (tail : List (Entry M)) × (after.history ≡ core.history ++ tail) → place < length after.history
      within caller place waits (tail, grows) =
          let there = caller_at_within core.history place caller (own_found core.history caller core.waiting place old.own waits) in
          rw (grows, length-append core.history tail) (omega (arith, there))
