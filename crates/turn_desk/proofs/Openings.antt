-- A new desk keeps the rule.
use Rattle.std.proofs.Common.{◌≡◌, false, ◌<◌, List, [], ◌∷◌, sym, refl, ◌∙◌, subst, arith, Some}
use Rattle.std.proofs.lemmas.List.Elements.{All-nil}
use Rattle.atomic_table.specs.Table.{opening}
use Rattle.one_history.specs.declared.entry.Entry.{Entry}
use Rattle.turn_desk.specs.View.{new_view, AgreesWith}
use Rattle.turn_desk.specs.Rule.{Slot, Moment, ViewRule, TurnRule}
use Rattle.turn_desk.proofs.Lists.{at_one}
use Rattle.turn_desk.proofs.Numbers.{times_single, is_single, among_single}

module _ {M : Type 0} where
  first_moment : Moment M
  first_moment = record { next = 0; serving = 0; made = 1; history = []; is_out = false }

  first_view : ViewRule first_moment (new_view {M = M} 0 [])
  unfolding first_moment
  first_view = record {
    own = λ _. record { calls = refl; seen = ([], refl); own = refl };
    taken_in = λ _. All-nil (AgreesWith []);
    seen_before = λ _. ([], refl);
    ticket = λ h. absurd (cc h);
    handed = λ h _. absurd (cc h);
    read = λ h _. absurd (cc h);
    made = λ h. absurd (cc h);
    made_at_most = λ _. omega arith;
    turn = λ h. absurd (cc h);
    reads_in_turn = λ h. absurd (cc h);
    numbers = λ _. record {
      distinct = λ k. times_single k 0;
      below = λ k h. let e = is_single k 0 h in omega arith;
      made_distinct = λ k. omega arith;
      made_below = λ k h. absurd (omega arith);
      made_later = λ k h. absurd (omega arith);
    };
    draws = omega arith;
  }

  pub opens : (slots : List (Slot M)) → slots ≡ Some ([], 1) ∷ [] → TurnRule (opening (0 ∷ 0 ∷ 0 ∷ []) slots (new_view 0 []))
  unfolding first_moment
  opens slots e = subst (λ (z : List (Slot M)). TurnRule (opening (0 ∷ 0 ∷ 0 ∷ []) z (new_view 0 []))) (sym e) record {
    now = first_moment;
    words = refl;
    slot = refl;
    views = record {
      count = refl;
      each = λ i v at. subst (ViewRule first_moment) (at_one (new_view 0 []) v i at).1 first_view;
      pairs = λ i j v w ne at bt. absurd (ne ((at_one (new_view 0 []) w j bt).0 ∙ sym (at_one (new_view 0 []) v i at).0));
      full = (0, new_view 0 [], refl, (refl, refl));
      tickets = λ t lo hi. absurd (omega arith);
      turn = λ h. absurd (cc h);
      callers = All-nil (λ (e : Entry M). e.caller < 1);
      numbers = λ k lt. (0, new_view 0 [], refl, (refl, among_single k 0 (omega arith)));
      made_from = λ k lo lt. absurd (omega arith);
      draws = omega arith;
      few = omega arith;
      order = omega arith;
      short = omega arith;
    };
  }
