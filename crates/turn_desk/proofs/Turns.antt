-- Drawing a ticket, looking whether it is served, and leaving the turn keep the rule.
use Rattle.std.proofs.Common.{◌≡◌, ℕ, Bool, true, false, ◌+◌, ◌%◌, ◌^◌, ◌<◌, ◌≤◌, ◌≢◌, inl, inr, cond, List, [], ◌∷◌, length, sym, refl, ap, ◌∙◌, subst, arith, Some, None}
use Rattle.std.proofs.Math.Nat.{mod-eq_of_lt}
use mathlib.Core.Option.{none, some}
use mathlib.Core.Logic.{dite}
use native.Mathlib.Decide.{ℕ_discrete}
use lib.ListN.{get_elem?}
use Rattle.atomic_table.specs.Table.{step, keeps, takes, gives, Allows, put_back, rest}
use Rattle.atomic_table.proofs.Lists.{set_again}
use Rattle.one_history.specs.declared.entry.Entry.{Entry}
use Rattle.turn_desk.specs.declared.limits.TheConstants.{TURNS_MAX}
use Rattle.turn_desk.specs.declared.view.View.{View}
use Rattle.turn_desk.specs.View.{after_draw, after_look, after_leave}
use Rattle.turn_desk.specs.Rule.{Slot, Moment, ViewRule, PairRule, ViewsRule, TurnRule, words_of, slot_of}
use Rattle.turn_desk.specs.Steps.{SeatOf, draws, looks, leaves}
use Rattle.turn_desk.proofs.Lists.{same_there}
use Rattle.turn_desk.proofs.Numbers.{among_first}
use Rattle.turn_desk.proofs.Changes.{clash, allows, IsAllowedAt, next_below, Changes, changed}

not_true : (b : Bool) → (b ≡ true → ⊥) → b ≡ false
not_true true h = absurd (h refl)
not_true false h = refl

module _ {M : Type 0} where
  abbrev pub one_drawn : Moment M → Moment M
  one_drawn now = record now { next = now.next + 1 }

  draw_changes : (now : Moment M) (views : List (View M)) (v : View M) → ViewsRule now views → ViewRule now v → v.has_ticket ≡ false → v.has_turn ≡ false → v.spent ≡ false → v.draws < TURNS_MAX
      → Changes now v (one_drawn now) (after_draw now.next v)
  draw_changes now views v r s no_ticket no_turn live few = let order = r.order in record {
    made = refl;
    mine = record {
      own = s.own;
      taken_in = s.taken_in;
      seen_before = s.seen_before;
      ticket = λ _. (order, omega arith);
      handed = λ h _. absurd (clash h no_turn);
      read = λ h _. absurd (clash h no_turn);
      made = λ h. absurd (clash h no_turn);
      made_at_most = s.made_at_most;
      turn = λ h. absurd (clash h no_turn);
      reads_in_turn = s.reads_in_turn;
      numbers = s.numbers;
      draws = subst (λ b. cond b TURNS_MAX (v.draws + 1) ≤ TURNS_MAX) (sym live) (omega arith);
    };
    others = λ u t p. record {
      own = t.own;
      taken_in = t.taken_in;
      seen_before = t.seen_before;
      ticket = λ w. let h = t.ticket w in (h.0, omega arith);
      handed = t.handed;
      read = t.read;
      made = t.made;
      made_at_most = t.made_at_most;
      turn = t.turn;
      reads_in_turn = t.reads_in_turn;
      numbers = t.numbers;
      draws = t.draws;
    };
    pairs = λ u t p. record { tickets = λ _ w e. let h = t.ticket w in absurd (omega arith); numbers = p.numbers; made_from = p.made_from };
    turn = λ o. inl (o, λ h. h);
    tickets = λ t lo hi. dite (ℕ_discrete now.next t) (λ e. inr (refl, e)) (λ ne. inl (lo, omega arith, λ w. absurd (clash w no_ticket)));
    callers = r.callers;
    numbers = λ k q. q;
    made_from = λ k q. q;
    full = inl (refl, λ q. q);
    draws = subst (λ b. now.next + 1 + cond b TURNS_MAX v.draws ≤ now.next + cond b TURNS_MAX (v.draws + 1)) (sym live) (omega arith);
    order = omega arith;
    short = r.short;
  }

  pub draws_allowed : (slots id : ℕ) (me : SeatOf M) → me.0.has_ticket ≡ false → me.0.has_turn ≡ false → me.0.spent ≡ false → me.0.draws < TURNS_MAX
      → Allows TurnRule slots id me 0 (λ k. (k + 1) % 2 ^ 64) (draws (step slots 0 1 0 none) me)
  draws_allowed slots id me no_ticket no_turn live few = allows slots 0 id (λ k. (k + 1) % 2 ^ 64) me (draws (step slots 0 1 0 none) me) (λ now views r at. (
    after_draw now.next me.0,
    keeps,
    tt,
    record {
      now = one_drawn now;
      words = ap (λ (k : ℕ). k ∷ now.serving ∷ length now.history ∷ []) (mod-eq_of_lt (next_below now views r));
      slot = refl;
      views = changed now views id me.0 (one_drawn now) (after_draw now.next me.0) r at (draw_changes now views me.0 r (r.each id me.0 at) no_ticket no_turn live few);
    },
    refl,
  ))

  abbrev taken_out : Moment M → Moment M
  taken_out now = record now { is_out = true }

  look_changes : (now : Moment M) (views : List (View M)) (v : View M) → ViewsRule now views → ViewRule now v → v.has_ticket ≡ true → v.ticket ≡ now.serving → v.has_read ≡ false → v.spent ≡ false
      → Changes now v (taken_out now) (after_look now.history now.made v)
  look_changes now views v r s has_ticket served unread live = record {
    made = refl;
    mine = record {
      own = s.own;
      taken_in = s.taken_in;
      seen_before = s.seen_before;
      ticket = s.ticket;
      handed = λ _ _. refl;
      read = λ _ h. absurd (clash h unread);
      made = λ _. refl;
      made_at_most = λ _. omega arith;
      turn = λ _. (has_ticket, served, refl, live);
      reads_in_turn = λ _. refl;
      numbers = s.numbers;
      draws = s.draws;
    };
    others = λ u t p. record {
      own = t.own;
      taken_in = t.taken_in;
      seen_before = t.seen_before;
      ticket = t.ticket;
      handed = t.handed;
      read = t.read;
      made = t.made;
      made_at_most = t.made_at_most;
      turn = λ h. let x = t.turn h in (x.0, x.1, refl, x.3);
      reads_in_turn = t.reads_in_turn;
      numbers = t.numbers;
      draws = t.draws;
    };
    pairs = λ u t p. record { tickets = p.tickets; numbers = p.numbers; made_from = p.made_from };
    turn = λ _. inr refl;
    tickets = λ t lo hi. inl (lo, hi, λ x y. (x, y));
    callers = r.callers;
    numbers = λ k q. q;
    made_from = λ k q. q;
    full = inl (refl, λ q. q);
    draws = omega arith;
    order = r.order;
    short = r.short;
  }

  -- if this view's ticket is served and it does not have the turn, nobody has it, and the slot is at home
  nobody_has_it : (now : Moment M) (views : List (View M)) (id : ℕ) (v : View M) → ViewsRule now views → get_elem? views id ≡ some v
      → v.has_ticket ≡ true → v.ticket ≡ now.serving → v.has_turn ≡ false → now.is_out ≡ true → ⊥
  nobody_has_it now views id v r at has_ticket served no_turn o = let h = r.turn o in let t = (r.each h.0 h.1 h.2).turn h.3 in
      dite (ℕ_discrete h.0 id) (λ e. clash h.3 (ap (λ (u : View M). u.has_turn) (same_there views id h.0 v h.1 e h.2 at) ∙ no_turn))
      (λ ne. (r.pairs id h.0 v h.1 ne at h.2).tickets has_ticket t.0 (served ∙ sym t.1))

  served_allowed : (slots : ℕ) (now : Moment M) (views : List (View M)) (id : ℕ) (me : SeatOf M) → ViewsRule now views → get_elem? views id ≡ some me.0
      → me.0.has_ticket ≡ true → now.serving ≡ me.0.ticket → me.0.has_turn ≡ false → me.0.has_read ≡ false → me.0.spent ≡ false
      → IsAllowedAt now views 1 id (λ k. k) me (looks (step slots 1 0 0 none) me) (words_of now) (slot_of now ∷ [])
  served_allowed slots now views id me r at has_ticket served no_turn unread live = let v = me.0 in let s = r.each id v at in
      let home : now.is_out ≡ false = not_true now.is_out (nobody_has_it now views id v r at has_ticket (sym served) no_turn) in (
        after_look now.history now.made v,
        takes 0 (Some (now.history, now.made)),
        ap (λ b. some (cond b none (some (Some (now.history, now.made))))) home,
        record {
          now = taken_out now;
          words = refl;
          slot = refl;
          views = changed now views id v (taken_out now) (after_look now.history now.made v) r at (look_changes now views v r s has_ticket (sym served) unread live);
        },
        (
          (λ ne. absurd (ne served)),
          λ e. record {
            history = now.history;
            made = now.made;
            short = r.short;
            few = r.few;
            some_made = let x = (s.numbers live).below v.number (among_first v.number _) in omega arith;
            is = refl;
          },
        ),
      )

  pub looks_allowed : (slots id : ℕ) (me : SeatOf M) → me.0.has_ticket ≡ true → me.0.has_turn ≡ false → me.0.has_read ≡ false → me.0.spent ≡ false
      → Allows TurnRule slots id me 1 (λ k. k) (looks (step slots 1 0 0 none) me)
  looks_allowed slots id me has_ticket no_turn unread live = allows slots 1 id (λ k. k) me (looks (step slots 1 0 0 none) me) (λ now views r at.
      dite (ℕ_discrete now.serving me.0.ticket) (λ e. served_allowed slots now views id me r at has_ticket e no_turn unread live) (λ ne. (
        me.0,
        keeps,
        tt,
        record { now = now; words = refl; slot = refl; views = subst (λ (z : List (View M)). ViewsRule now z) (sym (set_again views id me.0 at)) r },
        ((λ _. refl), λ e. absurd (ne e)),
      )))

  abbrev one_served : Moment M → Moment M
  one_served now = record now { serving = now.serving + 1; is_out = false }

  -- nobody else has the turn
  pub only_turn : (now : Moment M) (v : View M) → ViewRule now v → v.has_turn ≡ true → (u : View M) → ViewRule now u → PairRule v u → u.has_turn ≡ true → ⊥
  only_turn now v s turn u t p h = let mine = s.turn turn in let x = t.turn h in p.tickets mine.0 x.0 (mine.1 ∙ sym x.1)

  leave_changes : (now : Moment M) (views : List (View M)) (v : View M) → ViewsRule now views → ViewRule now v → v.has_turn ≡ true → Changes now v (one_served now) (after_leave v)
  leave_changes now views v r s turn = let mine = s.turn turn in let is = mine.1 in let range = s.ticket mine.0 in record {
    made = refl;
    mine = record {
      own = s.own;
      taken_in = s.taken_in;
      seen_before = s.seen_before;
      ticket = λ h. absurd (cc h);
      handed = λ h _. absurd (cc h);
      read = λ h _. absurd (cc h);
      made = λ h. absurd (cc h);
      made_at_most = s.made_at_most;
      turn = λ h. absurd (cc h);
      reads_in_turn = λ h. absurd (cc h);
      numbers = s.numbers;
      draws = s.draws;
    };
    others = λ u t p. record {
      own = t.own;
      taken_in = t.taken_in;
      seen_before = t.seen_before;
      ticket = λ w. let h = t.ticket w in let ne : v.ticket ≢ u.ticket = p.tickets mine.0 w in (omega arith, h.1);
      handed = λ h _. absurd (only_turn now v s turn u t p h);
      read = λ h _. absurd (only_turn now v s turn u t p h);
      made = λ h. absurd (only_turn now v s turn u t p h);
      made_at_most = t.made_at_most;
      turn = λ h. absurd (only_turn now v s turn u t p h);
      reads_in_turn = t.reads_in_turn;
      numbers = t.numbers;
      draws = t.draws;
    };
    pairs = λ u t p. record { tickets = λ h. absurd (cc h); numbers = p.numbers; made_from = p.made_from };
    turn = λ o. absurd (cc o);
    tickets = λ t lo hi. inl (omega arith, hi, λ _ y. absurd (omega arith));
    callers = r.callers;
    numbers = λ k q. q;
    made_from = λ k q. q;
    full = inl (refl, λ q. q);
    draws = omega arith;
    order = omega arith;
    short = r.short;
  }

  pub leaves_allowed : (slots id : ℕ) (me : SeatOf M) → me.0.has_turn ≡ true → me.0.has_read ≡ true → me.1 ≡ (0, Some (me.0.seen, me.0.made)) ∷ []
      → Allows TurnRule slots id me 1 (λ k. (k + 1) % 2 ^ 64) (leaves (step slots 1 1 0 none) me)
  leaves_allowed slots id me turn read carried = allows slots 1 id (λ k. (k + 1) % 2 ^ 64) me (leaves (step slots 1 1 0 none) me) (λ now views r at. let s = r.each id me.0 at in
      let c = leave_changes now views me.0 r s turn in let below = next_below now views r in let o = c.order in (
        after_leave me.0,
        gives,
        tt,
        record {
          now = one_served now;
          words = ap (λ (k : ℕ). now.next ∷ k ∷ length now.history ∷ []) (mod-eq_of_lt (omega arith));
          slot = ap (λ (z : List (ℕ × Slot M)). put_back (slot_of now ∷ []) z) carried ∙ (λ k. some (Some (s.read turn read k, s.made turn k)) ∷ []);
          views = changed now views id me.0 (one_served now) (after_leave me.0) r at c;
        },
        refl,
      ))

  -- the same, by what the exchange told: a is the seat before the content came back, b the seat after
  pub leaves_told : (slots id : ℕ) (a b : SeatOf M) (journal : List (Entry M)) (made : ℕ) → (a.0.has_turn ≡ true) × (a.0.has_read ≡ true) → a.1 ≡ (0, None) ∷ [] → (journal ≡ a.0.seen) × (made ≡ a.0.made)
      → b ≡ (a.0, (0, Some (journal, made)) ∷ rest a.1) → Allows TurnRule slots id b 1 (λ k. (k + 1) % 2 ^ 64) (leaves (step slots 1 1 0 none) b)
  leaves_told slots id a b journal made turn slot content is = subst (λ (m : SeatOf M). Allows TurnRule slots id m 1 (λ k. (k + 1) % 2 ^ 64) (leaves (step slots 1 1 0 none) m)) (sym is)
      (leaves_allowed slots id (a.0, (0, Some (journal, made)) ∷ rest a.1) turn.0 turn.1 (λ i. (0, Some (content.0 i, content.1 i)) ∷ rest (slot i)))
