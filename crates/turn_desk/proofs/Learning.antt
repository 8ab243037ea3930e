-- What a pass learns at a read of the length, in its turn and outside.
use Rattle.std.proofs.Common.{◌≡◌, ℕ, true, false, ◌+◌, ◌<◌, ◌≤◌, List, length, sym, refl, ap, subst, arith, All}
use Rattle.std.proofs.lemmas.List.{length-map}
use mathlib.Core.Option.{none}
use Rattle.atomic_table.specs.Table.{step, keeps, Allows}
use Rattle.one_history.specs.declared.entry.Entry.{Entry}
use Rattle.turn_desk.specs.declared.limits.TheConstants.{PASSES_MAX}
use Rattle.turn_desk.specs.declared.view.View.{View}
use Rattle.turn_desk.specs.View.{after_learn, in_turn, numbers_of, numbers_in}
use Rattle.turn_desk.specs.Rule.{Moment, ViewRule, TurnRule}
use Rattle.turn_desk.specs.Steps.{SeatOf, Learns, learns, learns_in_turn}
use Rattle.turn_desk.proofs.Numbers.{no_more}
use Rattle.turn_desk.proofs.Whole.{whole}
use Rattle.turn_desk.proofs.Changes.{allows, Remains, remains, changed}

module _ {M : Type 0} where
  learn_remains : (now : Moment M) (v : View M) → ViewRule now v → Remains now v (after_learn v)
  learn_remains now v s = record {
    mine = record {
      own = s.own;
      taken_in = s.taken_in;
      seen_before = λ _. (now.history, refl);
      ticket = s.ticket;
      handed = s.handed;
      read = s.read;
      made = s.made;
      made_at_most = s.made_at_most;
      turn = s.turn;
      reads_in_turn = s.reads_in_turn;
      numbers = s.numbers;
      draws = s.draws;
    };
    pairs = λ u p. record { tickets = p.tickets; numbers = p.numbers; made_from = p.made_from };
    turn = refl;
    ticket = (refl, refl);
    numbers = λ k h. h;
    made_from = λ k h. h;
    seen = λ h. h;
    spent = refl;
    draws = refl;
  }

  learned : (now : Moment M) (v : View M) → ViewRule now v → v.spent ≡ false → now.made ≤ PASSES_MAX → Learns now.history v
  learned now v s live most = let r = s.numbers live in record {
    own = s.own live;
    taken_in = s.taken_in live;
    seen_before = s.seen_before live;
    distinct = r.distinct;
    few = let h = no_more now.made (numbers_of v) r.distinct r.below in let e : length (numbers_in v.taken_in) ≡ length v.taken_in = length-map _ _ in omega arith;
  }

  pub learns_allowed : (slots id : ℕ) (me : SeatOf M) → me.0.spent ≡ false → Allows TurnRule slots id me 2 (λ k. k) (learns (step slots 2 0 0 none) me)
  learns_allowed slots id me live = allows slots 2 id (λ k. k) me (learns (step slots 2 0 0 none) me) (λ now views r at. let v = me.0 in let s = r.each id v at in (
    after_learn v,
    keeps,
    tt,
    record { now = now; words = refl; slot = refl; views = changed now views id v now (after_learn v) r at (remains now views v (after_learn v) r (learn_remains now v s)) },
    (refl, (now.history, learned now v s live r.few)),
  ))

  pub learns_in_turn_allowed : (slots id : ℕ) (me : SeatOf M) → me.0.has_turn ≡ true → me.0.has_read ≡ true → Allows TurnRule slots id me 2 (λ k. k) (learns_in_turn (step slots 2 0 0 none) me)
  learns_in_turn_allowed slots id me turn read = allows slots 2 id (λ k. k) me (learns_in_turn (step slots 2 0 0 none) me) (λ now views r at. let v = me.0 in let s = r.each id v at in
      let live = (s.turn turn).3 in let all = s.read turn read in let made = s.made turn in let n = s.numbers live in (
        after_learn v,
        keeps,
        tt,
        record { now = now; words = refl; slot = refl; views = changed now views id v now (after_learn v) r at (remains now views v (after_learn v) r (learn_remains now v s)) },
        (
          refl,
          record {
            learned = subst (λ z. Learns z v) (sym all) (learned now v s live r.few);
            callers = subst (λ (z : List (Entry M) × ℕ). All (λ (e : Entry M). e.caller < z.1) z.0) (λ i. (sym all i, sym made i)) r.callers;
            below = λ k h. subst (λ z. k < z) (sym made) (n.below k h);
            made_below = λ k h. subst (λ z. k < z) (sym made) (n.made_below k h);
            whole = λ first all_made k lt. whole now views id v r at live first all_made (k + 1) k (omega arith) (omega arith);
          },
        ),
      ))

  -- the same, of a pass in its turn
  pub learns_in_turn_told : (slots id : ℕ) (m : SeatOf M) (v : View M) (ticket made : ℕ) (history : List (Entry M)) → m.0 ≡ in_turn ticket history made v → Allows TurnRule slots id m 2 (λ k. k) (learns_in_turn (step slots 2 0 0 none) m)
  learns_in_turn_told slots id m v ticket made history is = learns_in_turn_allowed slots id m (ap (λ (z : View M). z.has_turn) is) (ap (λ (z : View M). z.has_read) is)
