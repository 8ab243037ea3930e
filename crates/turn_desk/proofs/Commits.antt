-- Reading the history and committing an entry keep the rule.
use Rattle.std.proofs.Common.{◌≡◌, ℕ, true, false, ◌+◌, ◌%◌, ◌^◌, ◌<◌, inl, inr, cond, List, [], ◌∷◌, ◌++◌, length, sym, refl, ap, ◌∙◌, subst, arith, length-append, Some, None}
use Rattle.std.proofs.Math.Nat.{mod-eq_of_lt}
use Rattle.std.proofs.lemmas.List.Elements.{All-push}
use mathlib.Core.List.{IsPrefix}
use mathlib.Core.Option.{none, some, Option as Maybe}
use Rattle.atomic_table.specs.Table.{step, keeps, Allows, rest}
use Rattle.one_history.specs.declared.entry.Entry.{Entry}
use Rattle.one_history.specs.declared.journal.TheConstants.{JOURNAL_MAX}
use Rattle.one_history.specs.History.{entries_by}
use Rattle.turn_desk.specs.declared.view.View.{View}
use Rattle.turn_desk.specs.Numbers.{times_in}
use Rattle.turn_desk.specs.View.{after_draw, after_look, after_read, after_commit, numbers_of}
use Rattle.turn_desk.specs.Rule.{Slot, Moment, ViewRule, PairRule, ViewsRule, TurnRule}
use Rattle.turn_desk.specs.Steps.{SeatOf, IsHanded, IsOneMore, reads, content_of, commits, leaves}
use Rattle.turn_desk.proofs.Prefixes.{prefix_self, prefix_more}
use Rattle.turn_desk.proofs.Numbers.{among_first, once_only, not_first, not_after}
use Rattle.turn_desk.proofs.Entries.{entries_none, entries_other, all_agree_more}
use Rattle.turn_desk.proofs.Whole.{only_sees_own}
use Rattle.turn_desk.proofs.Changes.{clash, allows, Changes, changed, Remains, remains}
use Rattle.turn_desk.proofs.Turns.{only_turn, leaves_allowed}

module _ {M : Type 0} where
  read_remains : (now : Moment M) (v : View M) → ViewRule now v → v.has_turn ≡ true → v.has_read ≡ false → Remains now v (after_read v)
  read_remains now v s turn unread = let handed = s.handed turn unread in record {
    mine = record {
      own = λ live. record {
        calls = (s.own live).calls;
        seen = subst (λ z. IsPrefix z now.history) (sym handed) (prefix_self now.history);
        own = ap (entries_by v.number) handed ∙ (s.own live).calls;
      };
      taken_in = s.taken_in;
      seen_before = λ _. (now.history, refl);
      ticket = s.ticket;
      handed = λ _ h. absurd (cc h);
      read = λ _ _. handed;
      made = s.made;
      made_at_most = s.made_at_most;
      turn = s.turn;
      reads_in_turn = λ _. turn;
      numbers = s.numbers;
      draws = s.draws;
    };
    pairs = λ u p. record { tickets = p.tickets; numbers = p.numbers; made_from = p.made_from };
    turn = refl;
    ticket = (refl, refl);
    numbers = λ k h. h;
    made_from = λ k h. h;
    seen = λ _. handed;
    spent = refl;
    draws = refl;
  }

  pub reads_allowed : (slots id : ℕ) (me : SeatOf M) → me.0.has_turn ≡ true → me.0.has_read ≡ false → Allows TurnRule slots id me 2 (λ k. k) (reads (step slots 2 0 0 none) me)
  reads_allowed slots id me turn unread = allows slots 2 id (λ k. k) me (reads (step slots 2 0 0 none) me) (λ now views r at.
      let v = me.0 in let s = r.each id v at in let handed = s.handed turn unread in let live = (s.turn turn).3 in let own = s.own live in (
        after_read v,
        keeps,
        tt,
        record { now = now; words = refl; slot = refl; views = changed now views id v now (after_read v) r at (remains now views v (after_read v) r (read_remains now v s turn unread)) },
        (
          refl,
          subst (λ z. IsPrefix v.seen z) (sym handed) own.seen,
          ap (entries_by v.number) handed ∙ own.calls,
          ap (entries_by v.made) handed ∙ (ap (λ k. entries_by k now.history) (s.made turn) ∙ entries_none now.made now.history r.callers),
          λ only. handed ∙ only_sees_own now views id v r at live only,
        ),
      ))

  abbrev one_committed : Entry M → Moment M → Moment M
  one_committed e now = record now { history = now.history ++ e ∷ [] }

  -- other views keep their entries, since the entry's caller is a number of the pass that has the turn
  commit_others : (now : Moment M) (v : View M) (e : Entry M) → ViewRule now v → v.has_turn ≡ true → e.caller ≡ v.number → (u : View M) → ViewRule now u → PairRule v u → ViewRule (one_committed e now) u
  commit_others now v e s turn by u t p = let nobody = only_turn now v s turn u t p in let live = (s.turn turn).3 in
      let none_of : u.spent ≡ false → times_in v.number (numbers_of u) ≡ 0 = λ sp. p.numbers live sp v.number (among_first v.number _) in record {
        own = λ sp. record {
          calls = entries_other u.number now.history e (λ c. not_first v.number u.number _ (none_of sp) (sym by ∙ c)) ∙ (t.own sp).calls;
          seen = prefix_more u.seen now.history e (t.own sp).seen;
          own = (t.own sp).own;
        };
        taken_in = λ sp. all_agree_more now.history e u.taken_in (rw by (not_after v.number u.number _ (none_of sp))) (t.taken_in sp);
        seen_before = λ sp. prefix_more u.seen_before now.history e (t.seen_before sp);
        ticket = t.ticket;
        handed = λ h _. absurd (nobody h);
        read = λ h _. absurd (nobody h);
        made = λ h. absurd (nobody h);
        made_at_most = t.made_at_most;
        turn = λ h. absurd (nobody h);
        reads_in_turn = t.reads_in_turn;
        numbers = t.numbers;
        draws = t.draws;
      }

  commit_mine : (now : Moment M) (v : View M) (e : Entry M) (es : List (Entry M)) → ViewRule now v → v.has_turn ≡ true → v.has_read ≡ true → e.caller ≡ v.number → es ≡ now.history ++ e ∷ []
      → ViewRule (one_committed e now) (after_commit es v)
  commit_mine now v e es s turn read by is = record {
    own = λ live. record { calls = ap (entries_by v.number) (sym is); seen = subst (λ z. IsPrefix z (now.history ++ e ∷ [])) (sym is) (prefix_self (now.history ++ e ∷ [])); own = refl };
    taken_in = λ live. all_agree_more now.history e v.taken_in (rw by (once_only v.number _ (s.numbers live).distinct)) (s.taken_in live);
    seen_before = λ live. prefix_more v.seen_before now.history e (s.seen_before live);
    ticket = s.ticket;
    handed = λ _ h. absurd (clash read h);
    read = λ _ _. is;
    made = s.made;
    made_at_most = s.made_at_most;
    turn = s.turn;
    reads_in_turn = s.reads_in_turn;
    numbers = s.numbers;
    draws = s.draws;
  }

  commit_changes : (now : Moment M) (views : List (View M)) (v : View M) (e : Entry M) (es : List (Entry M)) → ViewsRule now views → ViewRule now v
      → v.has_turn ≡ true → v.has_read ≡ true → e.caller ≡ v.number → length v.seen < JOURNAL_MAX → es ≡ v.seen ++ e ∷ [] → Changes now v (one_committed e now) (after_commit es v)
  commit_changes now views v e es r s turn read by room is = let all = s.read turn read in let is' : es ≡ now.history ++ e ∷ [] = is ∙ ap (λ z. z ++ e ∷ []) all in let live = (s.turn turn).3 in record {
    made = refl;
    mine = commit_mine now v e es s turn read by is';
    others = commit_others now v e s turn by;
    pairs = λ u t p. record { tickets = p.tickets; numbers = p.numbers; made_from = p.made_from };
    turn = λ o. inl (o, λ h. h);
    tickets = λ t lo hi. inl (lo, hi, λ x y. (x, y));
    callers = All-push (λ (x : Entry M). x.caller < now.made) now.history e r.callers (subst (λ k. k < now.made) (sym by) ((s.numbers live).below v.number (among_first v.number _)));
    numbers = λ k q. q;
    made_from = λ k q. q;
    full = inr (live, is');
    draws = omega arith;
    order = r.order;
    short = omega (arith, length-append now.history (e ∷ []), ap length all);
  }

  pub commits_allowed : (slots id : ℕ) (me : SeatOf M) (e : Entry M) → me.0.has_turn ≡ true → me.0.has_read ≡ true → e.caller ≡ me.0.number → length me.0.seen < JOURNAL_MAX → content_of me.1 ≡ me.0.seen ++ e ∷ []
      → Allows TurnRule slots id me 2 (λ k. (k + 1) % 2 ^ 64) (commits (step slots 2 1 0 none) me)
  commits_allowed slots id me e turn read by room is = allows slots 2 id (λ k. (k + 1) % 2 ^ 64) me (commits (step slots 2 1 0 none) me) (λ now views r at.
      let v = me.0 in let es = content_of me.1 in let s = r.each id v at in let c = commit_changes now views v e es r s turn read by room is in
      let more = length-append now.history (e ∷ []) in let short = c.short in let out = (s.turn turn).2 in (
        after_commit es v,
        keeps,
        tt,
        record {
          now = one_committed e now;
          words = ap (λ (k : ℕ). now.next ∷ now.serving ∷ k ∷ []) (mod-eq_of_lt (omega arith) ∙ sym more);
          slot = subst (λ b. ◌≡◌ {A = List (Maybe (Slot M))} (cond b none (some (Some (now.history, now.made))) ∷ []) (cond b none (some (Some (now.history ++ e ∷ [], now.made))) ∷ [])) (sym out) refl;
          views = changed now views id v (one_committed e now) (after_commit es v) r at c;
        },
        refl,
      ))

  -- what the exchange and the commit told: a is the seat before the content came back, b the seat after, c once the entry is committed

  pub commits_told : (slots id : ℕ) (a b : SeatOf M) (journal : List (Entry M)) (made : ℕ) → (a.0.has_turn ≡ true) × (a.0.has_read ≡ true) → length a.0.seen < JOURNAL_MAX → IsOneMore a.0.number a.0.seen journal
      → b ≡ (a.0, (0, Some (journal, made)) ∷ rest a.1) → Allows TurnRule slots id b 2 (λ k. (k + 1) % 2 ^ 64) (commits (step slots 2 1 0 none) b)
  commits_told slots id a b journal made turn room more is = subst (λ (m : SeatOf M). Allows TurnRule slots id m 2 (λ k. (k + 1) % 2 ^ 64) (commits (step slots 2 1 0 none) m)) (sym is)
      (commits_allowed slots id (a.0, (0, Some (journal, made)) ∷ rest a.1) more.entry turn.0 turn.1 more.caller room more.is)

  pub leaves_committed : (slots id : ℕ) (a b c : SeatOf M) (journal : List (Entry M)) (made : ℕ) → (a.0.has_turn ≡ true) × (a.0.has_read ≡ true) → a.1 ≡ (0, None) ∷ [] → made ≡ a.0.made
      → b ≡ (a.0, (0, Some (journal, made)) ∷ rest a.1) → c ≡ (after_commit (content_of b.1) b.0, b.1) → Allows TurnRule slots id c 1 (λ k. (k + 1) % 2 ^ 64) (leaves (step slots 1 1 0 none) c)
  leaves_committed slots id a b c journal made turn slot is x y = let is_c : c ≡ (after_commit journal a.0, (0, Some (journal, made)) ∷ rest a.1) = y ∙ ap (λ (m : SeatOf M). (after_commit (content_of m.1) m.0, m.1)) x in
      subst (λ (m : SeatOf M). Allows TurnRule slots id m 1 (λ k. (k + 1) % 2 ^ 64) (leaves (step slots 1 1 0 none) m)) (sym is_c)
      (leaves_allowed slots id (after_commit journal a.0, (0, Some (journal, made)) ∷ rest a.1) turn.0 turn.1 (λ i. (0, Some (journal, is i)) ∷ rest (slot i)))

  -- a is the seat before its draw, b with its ticket, c once it was handed the slot, d once it has taken the content out
  pub reads_told : (slots id : ℕ) (a b c d : SeatOf M) (ticket : ℕ) → a.0.has_read ≡ false → b ≡ (after_draw ticket a.0, a.1) → (h : IsHanded b c) → {x : List (ℕ × Slot M)} → d ≡ (c.0, x) → Allows TurnRule slots id d 2 (λ k. k) (reads (step slots 2 0 0 none) d)
  reads_told slots id a b c d ticket unread draw h {x} out = let is : d ≡ (after_look h.history h.made (after_draw ticket a.0), x) = out ∙ (ap (λ (m : SeatOf M). (m.0, x)) h.is ∙ ap (λ (m : SeatOf M). (after_look h.history h.made m.0, x)) draw) in
      subst (λ (m : SeatOf M). Allows TurnRule slots id m 2 (λ k. k) (reads (step slots 2 0 0 none) m)) (sym is) (reads_allowed slots id (after_look h.history h.made (after_draw ticket a.0), x) refl unread)
