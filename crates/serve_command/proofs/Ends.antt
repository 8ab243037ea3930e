-- What the ends of sessions and the entries of the journal have to do with each other, from what the pass has taken in.
use Rattle.std.proofs.Common.{◌≡◌, ℕ, Option, zero, suc, ◌<◌, ◌≢◌, ◌⊎◌, inl, inr, cond, eq-eqb, ne_eqb, drop, List, [], ◌∷◌, length, sym, refl, ap, ◌∙◌, subst, ⊎_elim, arith, All, get_or}
use Rattle.std.proofs.lemmas.List.{append-nil}
use Rattle.std.proofs.lemmas.List.Elements.{All-cons, All-tail}
use mathlib.Core.Logic.{dite}
use native.Mathlib.Decide.{ℕ_discrete}
use mathlib.Core.List.{IsPrefix}
use Rattle.one_history.specs.declared.entry.Entry.{Entry}
use Rattle.one_history.specs.History.{entries_by}
use Rattle.askrene_command.specs.declared.command.Command.{Command}
use Rattle.turn_desk.specs.Numbers.{IsAmong}
use Rattle.turn_desk.specs.View.{own_of, kept_by, numbers_in, AgreesWith}
use Rattle.turn_desk.specs.Closing.{PassValue, Closes}
use Rattle.turn_desk.specs.declared.view.View.{View}
use Rattle.turn_desk.specs.declared.view.Kept.{Kept}
use Rattle.channel_map.specs.declared.edge.Edge.{Edge}
use Rattle.session.specs.Ended.{EndedSession}
use Rattle.server.specs.declared.worker.Session.{Session}
use Rattle.server.proofs.Turns.{prefix_on}
use Rattle.server.specs.Work.{HasPass, IsSessionOf, OthersAreSilent, callers_of, taken_since}
use Rattle.serve_command.specs.Served.{AllHaveAnswered, HasAnswered, HasOwnEnd, HasSession, HasToldEntries, IsEndOf}

module _ {L C : Type 0} (left written : L → Option (List ℕ)) (moments : C → Option (List ℕ)) (channels locals : List Edge) where
  abbrev IsEnd : EndedSession → ℕ → ℕ → List (Entry Command) → Type 0
  IsEnd = IsEndOf left written moments channels locals

  own_end : (kept : List (Kept Command)) (s : Session EndedSession) → HasPass IsEnd kept s → HasOwnEnd s
  own_end [] s h = absurd h
  own_end (k ∷ kept) s h = ⊎_elim (λ (one : IsSessionOf IsEnd s k). one.end.caller_is) (λ (rest : HasPass IsEnd kept s). own_end kept s rest) h

  pub own_ends : (kept : List (Kept Command)) (sessions : List (Session EndedSession)) → All (HasPass IsEnd kept) sessions → All HasOwnEnd sessions
  own_ends kept sessions h = λ k d lt. own_end kept (get_or sessions k d) (h k d lt)

  -- a session whose caller has seen a part of the history is one over the whole of it
  over_whole : (seen history : List (Entry Command)) (caller : ℕ) (ended : EndedSession) → IsPrefix seen history
      → HasAnswered left written moments channels locals seen caller ended → HasAnswered left written moments channels locals history caller ended
  over_whole seen history caller ended p h = record {
    link = h.link;
    link_after = h.link_after;
    clock = h.clock;
    clock_after = h.clock_after;
    seen = h.seen;
    seen_after = h.seen_after;
    in_history = prefix_on h.seen_after seen history h.in_history p;
    calls = h.calls;
    session = h.session;
  }

  answered : (history : List (Entry Command)) (kept : List (Kept Command)) (s : Session EndedSession) → All (AgreesWith history) kept → HasPass IsEnd kept s
      → HasAnswered left written moments channels locals history s.caller s.end
  answered history [] s a h = absurd h
  answered history (k ∷ kept) s a h = ⊎_elim
      (λ (one : IsSessionOf IsEnd s k). over_whole k.seen history s.caller s.end (a 0 k (omega arith)).seen one.end.answered)
      (λ (rest : HasPass IsEnd kept s). answered history kept s (All-tail (AgreesWith history) k kept a) rest) h

  told_entries : (history : List (Entry Command)) (kept : List (Kept Command)) (s : Session EndedSession) → All (AgreesWith history) kept → HasPass IsEnd kept s → HasToldEntries history s
  told_entries history [] s a h = absurd h
  told_entries history (k ∷ kept) s a h = ⊎_elim
      (λ (one : IsSessionOf IsEnd s k). one.end.calls_are ∙ (ap length (sym (a 0 k (omega arith)).calls) ∙ ap (λ n. length (entries_by n history)) one.caller))
      (λ (rest : HasPass IsEnd kept s). told_entries history kept s (All-tail (AgreesWith history) k kept a) rest) h

-- what a single pass keeps agrees with the journal
all_agree : (history : List (Entry Command)) (p : PassValue Command) → Closes (p ∷ []) history → All (AgreesWith history) (kept_by p.1)
all_agree history p closes = subst (All (AgreesWith history)) (append-nil (kept_by p.1)) closes.kept

-- a pass that had taken in nothing has taken in all since
taken_all : (v w : View Command) → v.taken_in ≡ [] → taken_since v w ≡ w.taken_in
taken_all v w none = ap (λ (l : List (Kept Command)). drop (length l) w.taken_in) none

module _ {L C : Type 0} (left written : L → Option (List ℕ)) (moments : C → Option (List ℕ)) (channels locals : List Edge) (v : View Command) (p : PassValue Command) (history : List (Entry Command))
    (sessions : List (Session EndedSession)) (none : v.taken_in ≡ []) (closes : Closes (p ∷ []) history)
    (ends : All (HasPass (IsEndOf left written moments channels locals) (taken_since v p.1)) sessions) where
  taken_agree : All (AgreesWith history) p.1.taken_in
  taken_agree = All-tail (AgreesWith history) (own_of p.1) p.1.taken_in (all_agree history p closes)

  own_pass : (k : ℕ) (d : Session EndedSession) → k < length sessions → HasPass (IsEndOf left written moments channels locals) p.1.taken_in (get_or sessions k d)
  own_pass k d lt = subst (λ kept. HasPass (IsEndOf left written moments channels locals) kept (get_or sessions k d)) (taken_all v p.1 none) (ends k d lt)

  pub all_answered : AllHaveAnswered left written moments channels locals history sessions
  all_answered = λ k d lt. answered left written moments channels locals history p.1.taken_in (get_or sessions k d) taken_agree (own_pass k d lt)

  pub all_told : All (HasToldEntries history) sessions
  all_told = λ k d lt. told_entries left written moments channels locals history p.1.taken_in (get_or sessions k d) taken_agree (own_pass k d lt)

-- an entry is found under its caller
own_is_found : (n : ℕ) (history : List (Entry Command)) → entries_by n history ≡ [] → (k : ℕ) (d : Entry Command) → k < length history → (get_or history k d).caller ≢ n
own_is_found n [] h k d lt = absurd (omega arith)
own_is_found n (e ∷ es) h zero d lt = λ is. let z : e ∷ entries_by n es ≡ [] = sym (ap (λ b. cond b (e ∷ entries_by n es) (entries_by n es)) (eq-eqb e.caller n is)) ∙ h in absurd (cc z)
own_is_found n (e ∷ es) h (suc k) d lt = dite (ℕ_discrete e.caller n)
    (λ is. let z : e ∷ entries_by n es ≡ [] = sym (ap (λ b. cond b (e ∷ entries_by n es) (entries_by n es)) (eq-eqb e.caller n is)) ∙ h in absurd (cc z))
    (λ ne. own_is_found n es (sym (ap (λ b. cond b (e ∷ entries_by n es) (entries_by n es)) (ne_eqb e.caller n ne)) ∙ h) k d (omega arith))

-- a number of which something is kept has no entries or is a session's caller
silent_or_served : (sessions : List (Session EndedSession)) (history : List (Entry Command)) (kept : List (Kept Command)) → All (AgreesWith history) kept → OthersAreSilent sessions kept
    → (n : ℕ) → IsAmong n (numbers_in kept) → (entries_by n history ≡ []) ⊎ IsAmong n (callers_of sessions)
silent_or_served sessions history [] a s n among = absurd (omega arith)
silent_or_served sessions history (k ∷ kept) a s n among = dite (ℕ_discrete k.number n)
    (λ is. ⊎_elim (λ (none : k.calls ≡ []). inl (subst (λ z. entries_by z history ≡ []) is ((a 0 k (omega arith)).calls ∙ none)))
    (λ (served : IsAmong k.number (callers_of sessions)). inr (subst (λ z. IsAmong z (callers_of sessions)) is served)) (s 0 k (omega arith)))
    (λ ne. let later = rw (ne_eqb k.number n ne) at among in
    silent_or_served sessions history kept (All-tail (AgreesWith history) k kept a)
    (All-tail (λ (z : Kept Command). (z.calls ≡ []) ⊎ IsAmong z.number (callers_of sessions)) k kept s) n (omega arith))

pub all_have_sessions : (v : View Command) (p : PassValue Command) (history : List (Entry Command)) (sessions : List (Session EndedSession)) → v.taken_in ≡ [] → p.1.calls ≡ [] → Closes (p ∷ []) history
    → OthersAreSilent sessions (taken_since v p.1) → All (HasSession sessions) history
all_have_sessions v p history sessions none calls closes silent = λ k d lt.
    let e = get_or history k d in
    let all_silent : OthersAreSilent sessions (kept_by p.1) = All-cons (λ (z : Kept Command). (z.calls ≡ []) ⊎ IsAmong z.number (callers_of sessions)) (own_of p.1) p.1.taken_in (inl calls)
    (subst (OthersAreSilent sessions) (taken_all v p.1 none) silent) in
    let among : IsAmong e.caller (numbers_in (kept_by p.1)) = subst (λ kept. IsAmong e.caller (numbers_in kept)) (append-nil (kept_by p.1)) (closes.callers k d lt) in
    ⊎_elim (λ (empty : entries_by e.caller history ≡ []). absurd (own_is_found e.caller history empty k d lt refl)) (λ (served : IsAmong e.caller (callers_of sessions)). served)
    (silent_or_served sessions history (kept_by p.1) (all_agree history p closes) all_silent e.caller among)
