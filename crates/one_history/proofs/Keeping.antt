-- What a machine keeps for the callers that wait, as events and answers come.
use Rattle.std.proofs.Common.{◌≡◌, ℕ, Bool, true, false, cond, not, List, [], ◌∷◌, ◌++◌, length, filter, nat_eq, All, Option, Some, None, IfSome, OnSome, IfNone, Result, Ok, Err, OnOk, IfErr, IsErrAnd, option_map, refl, sym, ◌∙◌, ap, subst}
use Rattle.std.specs.List.{IsDistinct, AllByRecursion}
use Rattle.std.specs.Map.{keys_of, lookup, remove_entry}
use Rattle.std.proofs.lemmas.Result.{IfOk-at_ok}
use Rattle.indexmap.specs.IndexMap.{IndexMap, insert_entry}
use Rattle.indexmap.proofs.CallerLemmas.{insert_entry-new}
use Rattle.std.proofs.lemmas.Bool.{eqb-true}
use Rattle.std.proofs.lemmas.List.{map-append}
use Rattle.std.proofs.lemmas.List.Elements.{All-cons, All-contains, All-head, All-tail, All-push, All-weaker, All-map}
use Rattle.std.proofs.lemmas.Map.Made.{keys_of-map_values, lookup-map_values}
use Rattle.std.proofs.lemmas.Map.Views.{Contains-from_lookup, exact_unsigned_eq}
use Rattle.one_history.specs.declared.entry.Entry.{Entry}
use Rattle.one_history.specs.declared.entry.Told.{Told}
use Rattle.one_history.specs.declared.journal.JournalRefusal.{JournalRefusal}
use Rattle.one_history.specs.declared.journal.JournalRefusal.TheVariants.{Full, NoMemory}
use Rattle.one_history.specs.declared.machine.MachineRefusal.{MachineRefusal}
use Rattle.one_history.specs.Core.{Core, IsCore, new_core, place_of, after_event, after_answer}
use Rattle.one_history.specs.History.{fold, entry_of, reply_at, caller_at, IsReplyTo}
use Rattle.one_history.specs.Machine.{core_of, places_kept, IsMachine}
use Rattle.one_history.specs.Refusals.{Refuses, RefusesEvent, event_refusal}
use Rattle.one_history.proofs.Places.{reply_to_append, reply_to_push}

module _ {R : Type 0} where
  -- the place that is shown for a caller is that of what is kept for it
  pub lookup-places_kept : (test : ℕ → Bool) (kept : List (ℕ × Told R)) → lookup test (places_kept kept) ≡ option_map (λ t. t.at) (lookup test kept)
  unfolding places_kept
  lookup-places_kept test kept = lookup-map_values (λ (t : Told R). t.at) test kept

  pub keys-places_kept : (kept : List (ℕ × Told R)) → keys_of (places_kept kept) ≡ keys_of kept
  unfolding places_kept
  keys-places_kept kept = keys_of-map_values (λ (t : Told R). t.at) kept

  -- a caller that is not among the keys is not shown
  unshown : (caller : ℕ) (kept : List (ℕ × Told R)) → AllByRecursion (λ key. nat_eq caller key ≡ false) (keys_of kept)
      → filter (λ w. not (nat_eq caller w.0)) (places_kept kept) ≡ places_kept kept
  unfolding places_kept
  unshown caller [] apart = refl
  unshown caller (k ∷ kept) apart =
      rw apart.0 (ap (λ ws. (k.0, k.1.at) ∷ ws) (unshown caller kept apart.1))

  -- without the entry of a caller, the others are shown as before
  pub places_kept-remove_entry : (caller : ℕ) (kept : List (ℕ × Told R)) → IsDistinct nat_eq (keys_of kept)
      → places_kept (remove_entry (nat_eq caller) kept) ≡ filter (λ w. not (nat_eq caller w.0)) (places_kept kept)
  unfolding places_kept IsDistinct
  places_kept-remove_entry caller [] distinct = refl
  places_kept-remove_entry caller (k ∷ kept) distinct = by (nat_eq caller k.0) refl (places_kept-remove_entry caller kept distinct.1)
    where
      by : (b : Bool) → nat_eq caller k.0 ≡ b
          → places_kept (remove_entry (nat_eq caller) kept) ≡ filter (λ w. not (nat_eq caller w.0)) (places_kept kept)
          → places_kept (cond (nat_eq caller k.0) kept (k ∷ remove_entry (nat_eq caller) kept))
          ≡ cond (not (nat_eq caller k.0)) ((k.0, k.1.at) ∷ filter (λ w. not (nat_eq caller w.0)) (places_kept kept)) (filter (λ w. not (nat_eq caller w.0)) (places_kept kept))
      by true is rest = rw is (sym (unshown caller kept (subst (λ c. AllByRecursion (λ key. nat_eq c key ≡ false) (keys_of kept)) (sym (eqb-true caller k.0 is)) distinct.0)))
      by false is rest = rw is (ap (λ ws. (k.0, k.1.at) ∷ ws) rest)

  -- what holds of all that is kept holds of what is found, and of the rest
  pub All-lookup : (P : ℕ → Told R → Type 0) (caller : ℕ) (kept : List (ℕ × Told R)) (told : Told R) → All (λ k. P k.0 k.1) kept → lookup (nat_eq caller) kept ≡ Some told → P caller told
  All-lookup P caller kept told all found = All-contains (λ k. P k.0 k.1) kept (caller, told) all (Contains-from_lookup exact_unsigned_eq caller told kept found)

  pub All-remove_entry : (P : ℕ × Told R → Type 0) (test : ℕ → Bool) (kept : List (ℕ × Told R)) → All P kept → All P (remove_entry test kept)
  All-remove_entry P test [] all = all
  All-remove_entry P test (k ∷ kept) all =
      elim (test k.0) as (λ b. All P (cond b kept (k ∷ remove_entry test kept)))
      [ true ↦ All-tail P k kept all | false ↦ All-cons P k (remove_entry test kept) (All-head P k kept all) (All-remove_entry P test kept (All-tail P k kept all)) ]

module _ {S M R : Type 0} (next : S → ℕ → ℕ → M → S) (start : S) (reply : S → ℕ → ℕ → M → R) where
  -- the core that a machine shows is one
  pub machine_core : (history : List (Entry M)) (kept : List (ℕ × Told R)) (core : Core M) → IsMachine next start reply history kept → core_of history kept ≡ core → IsCore core
  unfolding places_kept
  machine_core history kept core is shows = subst IsCore shows (record {
    once = rw (keys-places_kept kept) is.once;
    own = All-map (λ w. caller_at history w.1 ≡ Some w.0) (λ k. (k.0, k.1.at)) kept (All-weaker (λ k. IsReplyTo next start reply history k.0 k.1) (λ k. caller_at history k.1.at ≡ Some k.0) (λ k to. to.caller) kept is.replies);
  })

  -- an event is appended, and its reply kept
  pub machine_event : (history : List (Entry M)) (kept : List (ℕ × Told R)) (caller moment : ℕ) (command : M) (told : Told R) (history' : List (Entry M)) (kept' : List (ℕ × Told R))
      → IsMachine next start reply history kept → told.at ≡ length history → told.reply ≡ reply (fold next start history) caller moment command
      → history' ≡ history ++ entry_of caller moment command ∷ [] → kept' ≡ kept ++ (caller, told) ∷ [] → IsDistinct nat_eq (keys_of kept')
      → IsMachine next start reply history' kept'
  machine_event history kept caller moment command told history' kept' is at told_is appended added distinct = record {
    once = distinct;
    replies = rw (appended, added) (All-push (λ k. IsReplyTo next start reply (history ++ entry_of caller moment command ∷ []) k.0 k.1) kept (caller, told)
        (All-weaker (λ k. IsReplyTo next start reply history k.0 k.1) (λ k. IsReplyTo next start reply (history ++ entry_of caller moment command ∷ []) k.0 k.1) (λ k to. reply_to_append next reply start history (entry_of caller moment command ∷ []) k.0 k.1 to) kept is.replies)
        (reply_to_push next reply start history (entry_of caller moment command) told at told_is));
  }

  -- an answer takes out what was kept for its caller
  pub machine_answer : (history : List (Entry M)) (kept : List (ℕ × Told R)) (caller : ℕ) (kept' : List (ℕ × Told R))
      → IsMachine next start reply history kept → kept' ≡ remove_entry (nat_eq caller) kept → IsDistinct nat_eq (keys_of kept') → IsMachine next start reply history kept'
  machine_answer history kept caller kept' is removed distinct = record {
    once = distinct;
    replies = rw removed (All-remove_entry (λ k. IsReplyTo next start reply history k.0 k.1) (nat_eq caller) kept is.replies);
  }

module _ {M R : Type 0} (history : List (Entry M)) (kept : List (ℕ × Told R)) (core : Core M) (shows : core_of history kept ≡ core) (caller : ℕ) where
  -- what is found says whether the caller waits, and where
  pub found_place : (found : Option (Told R)) → found ≡ lookup (nat_eq caller) kept → place_of caller core ≡ option_map (λ t. t.at) found
  found_place found is = rw (← shows, is) (lookup-places_kept (nat_eq caller) kept)

  pub some_waits : (found : Option (Told R)) → found ≡ lookup (nat_eq caller) kept → IfSome found (λ t. place_of caller core ≡ Some t.at)
  some_waits None is = tt
  some_waits (Some t) is = found_place (Some t) is

  pub none_waits : (found : Option (Told R)) → found ≡ lookup (nat_eq caller) kept → IfNone found (place_of caller core ≡ None)
  none_waits None is = found_place None is
  none_waits (Some t) is = tt

  -- the core after an event, and after an answer
  pub shows_event : (moment : ℕ) (command : M) (told : Told R) (history' : List (Entry M)) (kept' : List (ℕ × Told R)) → told.at ≡ length history
      → history' ≡ history ++ entry_of caller moment command ∷ [] → kept' ≡ kept ++ (caller, told) ∷ [] → core_of history' kept' ≡ after_event caller moment command core
  unfolding places_kept
  shows_event moment command told history' kept' at appended added =
      let show : ℕ × Told R → ℕ × ℕ = λ k. (k.0, k.1.at) in
      rw (← shows, appended, added, map-append show kept ((caller, told) ∷ []), at) refl

  pub shows_answer : (kept' : List (ℕ × Told R)) → IsDistinct nat_eq (keys_of kept) → kept' ≡ remove_entry (nat_eq caller) kept → core_of history kept' ≡ after_answer caller core
  shows_answer kept' distinct removed =
      rw (← shows, removed, places_kept-remove_entry caller kept distinct) refl

-- an insert for a caller for whom nothing was kept appends the reply
pub kept_push : {R S E : Type 0} (kept : List (ℕ × Told R)) (reserved : IndexMap ℕ (Told R) S) (caller : ℕ) (told : Told R) (kept' : List (ℕ × Told R)) (inserted : Result (Option (Told R)) E)
    → reserved.entries ≡ kept → None ≡ lookup (nat_eq caller) kept → inserted ≡ Ok None
    → OnOk inserted (kept' ≡ insert_entry nat_eq reserved.entries caller told) → kept' ≡ kept ++ (caller, told) ∷ []
kept_push kept reserved caller told kept' inserted same none succeeds on_ok =
    IfOk-at_ok (λ _. kept' ≡ insert_entry nat_eq reserved.entries caller told) succeeds on_ok
    ∙ insert_entry-new nat_eq reserved caller told (rw same (sym none))
    ∙ ap (λ es. es ++ (caller, told) ∷ []) same

-- a refusal of the journal, as a refusal of the machine
pub refuses_event : {M R : Type 0} (history : List (Entry M)) (kept : List (ℕ × Told R)) (core : Core M) (caller : ℕ) (result : Result ℕ MachineRefusal) (refusal : JournalRefusal)
    → core_of history kept ≡ core → place_of caller core ≡ None → Refuses (length history) refusal → IsErrAnd result (λ e. e ≡ event_refusal refusal)
    → IfErr result (λ e. RefusesEvent caller core e)
refuses_event history kept core caller (Ok at) refusal shows free refused is = tt
refuses_event history kept core caller (Err e) refusal shows free refused is = rw (is, ← shows) (by refusal refused (rw (← shows) at free))
  where
    by : (refusal : JournalRefusal) → Refuses (length history) refusal → place_of caller (core_of history kept) ≡ None → RefusesEvent caller (core_of history kept) (event_refusal refusal)
    by (Full n) full free = (free, full.0, full.1)
    by NoMemory full free = tt

-- at the beginning
pub shows_nothing : {M R : Type 0} (history : List (Entry M)) (kept : List (ℕ × Told R)) → history ≡ [] → kept ≡ [] → core_of history kept ≡ new_core
unfolding places_kept
shows_nothing history kept none empty = rw (none, empty) refl

-- a fact holds also for the value in an option
pub OnSome-fact : {X P : Type 0} (o : Option X) → P → OnSome o P
OnSome-fact None p = tt
OnSome-fact (Some x) p = p

module _ {S M R : Type 0} (next : S → ℕ → ℕ → M → S) (start : S) (reply : S → ℕ → ℕ → M → R) where
  -- what is found is the reply at its place
  pub some_reply : (history : List (Entry M)) (kept : List (ℕ × Told R)) (core : Core M) (caller : ℕ) → core_of history kept ≡ core → IsMachine next start reply history kept
      → (found : Option (Told R)) → found ≡ lookup (nat_eq caller) kept → IfSome found (λ t. reply_at next start reply core.history t.at ≡ Some t.reply)
  some_reply history kept core caller shows is None found = tt
  some_reply history kept core caller shows is (Some t) found =
      rw (← shows) (All-lookup (IsReplyTo next start reply history) caller kept t is.replies (sym found)).reply_is
