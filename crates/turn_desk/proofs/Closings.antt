-- A desk that is closed: all passes are taken in by the first, or the first has left its turn again.
use Rattle.std.proofs.Common.{◌≡◌, ℕ, Bool, true, ◌+◌, ◌<◌, ◌≤◌, cond, List, [], ◌∷◌, ◌++◌, length, get_or, sym, refl, ap, ◌∙◌, subst, arith, length-append, All}
use Rattle.std.specs.List.{remove}
use Rattle.std.proofs.lemmas.List.{length-map, append-nil, append_assoc}
use Rattle.std.proofs.lemmas.List.Elements.{All-cons, All-nil, All-weaker}
use Rattle.std.proofs.lemmas.List.Sums.{sum_by-cons}
use mathlib.Core.Logic.{dite}
use native.Mathlib.Decide.{dec_le}
use Rattle.one_history.specs.declared.entry.Entry.{Entry}
use Rattle.turn_desk.specs.declared.limits.TheConstants.{PASSES_MAX}
use Rattle.turn_desk.specs.declared.view.View.{View}
use Rattle.turn_desk.specs.declared.view.Kept.{Kept}
use Rattle.turn_desk.specs.Numbers.{IsAmong, AreDistinct}
use Rattle.turn_desk.specs.View.{after_join, after_learn, after_leave, own_of, kept_by, numbers_in, numbers_of, in_turn, longer, AgreesWith}
use Rattle.turn_desk.specs.Calls.{Continues}
use Rattle.turn_desk.specs.Closing.{PassValue, kept_by_all, HasAllMadeFrom, Closes, StaysOpen}
use Rattle.turn_desk.specs.Rule.{Slot}
use Rattle.turn_desk.specs.Steps.{SeatOf, LearnsInTurn, TakesTurn}
use Rattle.turn_desk.specs.Absorbing.{absorb, count_of}
use Rattle.turn_desk.proofs.Numbers.{all_among, no_fewer, among_first, among_left, among_right}
use Rattle.turn_desk.proofs.Calls.{left_told}

pub cons_of : {A : Type 0} (xs ys : List A) (x : A) → 0 < length xs → x ≡ get_or xs 0 x → ys ≡ remove xs 0 → xs ≡ x ∷ ys
cons_of [] ys x h e f = absurd (omega arith)
cons_of (z ∷ zs) ys x h e f = λ i. sym e i ∷ sym f i

module _ {M : Type 0} where
  -- a pass that has taken in others in its turn
  record Absorbs (v : View M) (passes : List (PassValue M)) (w : View M) : Type 0 where
    seen : w.seen ≡ v.seen
    number : w.number ≡ v.number
    calls : w.calls ≡ v.calls
    made : w.made ≡ v.made
    taken_in : w.taken_in ≡ v.taken_in ++ kept_by_all passes

  absorbs : (v : View M) (passes : List (PassValue M)) → v.has_read ≡ true → Absorbs v passes (absorb v passes)
  absorbs v [] read = record { seen = refl; number = refl; calls = refl; made = refl; taken_in = sym (append-nil v.taken_in) }
  absorbs v (p ∷ passes) read = let h = absorbs (after_join v p.1) passes read in record {
    seen = h.seen ∙ ap (λ (b : Bool). cond b v.seen (longer v.seen p.1.seen)) read;
    number = h.number;
    calls = h.calls;
    made = h.made;
    taken_in = h.taken_in ∙ append_assoc v.taken_in (kept_by p.1) (kept_by_all passes);
  }

  -- what was made from it stays, and what was made from them is added
  absorbs_first : (v : View M) (passes : List (PassValue M)) (k : ℕ) → IsAmong k v.made_from → IsAmong k (absorb v passes).made_from
  absorbs_first v [] k h = h
  absorbs_first v (p ∷ passes) k h = absorbs_first (after_join v p.1) passes k (among_left k v.made_from p.1.made_from h)

  absorbs_made : (P : ℕ → Type 0) (v : View M) (passes : List (PassValue M)) → ((k : ℕ) → IsAmong k (absorb v passes).made_from → P k) → All (λ (p : PassValue M). (k : ℕ) → IsAmong k p.1.made_from → P k) passes
  absorbs_made P v [] h = All-nil (λ (p : PassValue M). (k : ℕ) → IsAmong k p.1.made_from → P k)
  absorbs_made P v (p ∷ passes) h = All-cons (λ (p : PassValue M). (k : ℕ) → IsAmong k p.1.made_from → P k) p passes
      (λ k m. h k (absorbs_first (after_join v p.1) passes k (among_right k v.made_from p.1.made_from m))) (absorbs_made P (after_join v p.1) passes h)

  pub absorb_more : (v : View M) (passes : List (PassValue M)) (p : PassValue M) → absorb v (passes ++ p ∷ []) ≡ after_join (absorb v passes) p.1
  absorb_more v [] p = refl
  absorb_more v (q ∷ passes) p = absorb_more (after_join v q.1) passes p

  pub absorb_holds : (v : View M) (passes : List (PassValue M)) → ((absorb v passes).has_turn ≡ v.has_turn) × ((absorb v passes).has_read ≡ v.has_read) × ((absorb v passes).spent ≡ v.spent)
  absorb_holds v [] = (refl, refl, refl)
  absorb_holds v (p ∷ passes) = absorb_holds (after_join v p.1) passes

  pub length_kept : (passes : List (PassValue M)) → length (kept_by_all passes) ≡ count_of passes
  length_kept [] = refl
  length_kept (p ∷ passes) = let h = length_kept passes in let a = length-append (kept_by p.1) (kept_by_all passes) in let s = sum_by-cons (λ (q : PassValue M). length q.1.taken_in + 1) p passes in omega arith

  length_numbers : (kept : List (Kept M)) → length (numbers_in kept) ≡ length kept
  length_numbers kept = length-map _ _

  -- v is the first pass in its turn, which keeps what p kept, and has then taken in the others
  closes : (p : PassValue M) (others : List (PassValue M)) (v : View M) (journal : List (Entry M)) → v.has_read ≡ true → v.seen ≡ journal → v.number ≡ p.1.number → v.calls ≡ p.1.calls → v.taken_in ≡ p.1.taken_in
      → v.made_from ≡ p.1.made_from → AgreesWith journal (own_of p.1) → v.made ≤ length (kept_by_all (p ∷ others)) → LearnsInTurn (absorb v others) → Closes (p ∷ others) journal
  closes p others v journal read seen number calls taken_in made_from own many s = let w = absorb v others in let a = absorbs v others read in let l = s.learned in let all = kept_by_all (p ∷ others) in
      let seen' : w.seen ≡ journal = a.seen ∙ seen in
      let taken : w.taken_in ≡ p.1.taken_in ++ kept_by_all others = a.taken_in ∙ ap (λ z. z ++ kept_by_all others) taken_in in
      let numbers : numbers_of w ≡ numbers_in all = λ i. (a.number ∙ number) i ∷ numbers_in (taken i) in
      let long : length (numbers_of w) ≡ length all = ap length numbers ∙ length_numbers all in
      let made = a.made in
      let given : (k : ℕ) → k < w.made → IsAmong k (numbers_in all) = λ k lt. subst (IsAmong k) numbers (all_among w.made (numbers_of w) l.distinct s.below (omega arith) k lt) in
      let some_made = s.below w.number (among_first w.number _) in
      let made_all : (k : ℕ) → IsAmong k w.made_from → IsAmong k (numbers_in all) = λ k h. given k (s.made_below k h) in
      record {
        kept = All-cons (AgreesWith journal) (own_of p.1) (p.1.taken_in ++ kept_by_all others) own
            (subst (λ (z : List (Entry M) × List (Kept M)). All (AgreesWith z.0) z.1) (λ i. (seen' i, taken i)) l.taken_in);
        callers = All-weaker (λ (e : Entry M). e.caller < w.made) (λ (e : Entry M). IsAmong e.caller (numbers_in all)) (λ e lt. given e.caller lt) journal (subst (All (λ (e : Entry M). e.caller < w.made)) seen' s.callers);
        distinct = subst AreDistinct numbers l.distinct;
        first = given 0 (omega arith);
        made_from = All-cons (λ (q : PassValue M). HasAllMadeFrom (numbers_in all) q.1) p others
            (λ k h. made_all k (absorbs_first v others k (subst (IsAmong k) (sym made_from) h))) (absorbs_made (λ k. IsAmong k (numbers_in all)) v others made_all);
      }

  -- a single pass that has all that was made is not refused
  never_alone : (v p : View M) (made : ℕ) → LearnsInTurn v → v.made ≡ made → v.number ≡ p.number → v.taken_in ≡ p.taken_in → v.made_from ≡ p.made_from → length (kept_by p) < made
      → IsAmong 0 (numbers_of p) → HasAllMadeFrom (numbers_of p) p → ⊥
  never_alone v p made s m number taken_in made_from few first rest = let numbers : numbers_of p ≡ numbers_of v = λ i. sym number i ∷ numbers_in (sym taken_in i) in
      let all = s.whole (subst (IsAmong 0) numbers first) (λ k h. subst (IsAmong k) numbers (rest k (subst (IsAmong k) made_from h))) in
      let long : length (numbers_of v) ≡ length (kept_by p) = ap length (sym numbers) ∙ length_numbers (kept_by p) in
      let n = no_fewer v.made (numbers_of v) s.below all in omega arith

  -- a is the first view before the turn, b in the turn, c the seat once it has learned, d once it has left
  pub stays_open : (passes others back : List (PassValue M)) (p q : PassValue M) (a : View M) (b c d : SeatOf M) (ticket made given : ℕ) (journal : List (Entry M)) {x : List (ℕ × Slot M)}
      → passes ≡ p ∷ others → back ≡ q ∷ others → q ≡ (p.0, d.0) → a ≡ p.1 → TakesTurn a journal → b.0 ≡ in_turn ticket journal made a → LearnsInTurn b.0 → c ≡ (after_learn b.0, b.1) → d ≡ (after_leave c.0, x)
      → given < made → given ≡ count_of passes → StaysOpen passes made given back
  stays_open passes others back p q a b c d ticket made given journal {x} was are is same t eb s ec ed few counted =
      let in_c : c.0 ≡ in_turn ticket journal made a = ap (λ (z : SeatOf M). z.0) ec ∙ ap (λ (z : View M). after_learn z) eb in
      let in_d : d.0 ≡ after_leave (in_turn ticket journal made a) = ap (λ (z : SeatOf M). z.0) ed ∙ ap (λ (z : View M). after_leave z) in_c in
      let back_is : q.1 ≡ after_leave (in_turn ticket journal made p.1) = ap (λ (z : PassValue M). z.1) is ∙ (in_d ∙ ap (λ (z : View M). after_leave (in_turn ticket journal made z)) same) in record {
        fewer = few;
        counted = counted ∙ sym (length_kept passes);
        first = p;
        first_back = q;
        others = others;
        passes_are = was;
        passes_back_are = are;
        desk = ap (λ (z : PassValue M). z.0) is;
        continues = subst (Continues p.1) (sym (ap (λ (z : PassValue M). z.1) is)) (left_told p.1 a c.0 d ticket made journal same t in_c ed);
        refused = record { calls = ap (λ (z : View M). z.calls) back_is; made_from = ap (λ (z : View M). z.made_from) back_is };
        draws = ap (λ (z : View M). z.draws) back_is;
        made_is = ap (λ (z : View M). z.made) back_is;
        never_alone = λ alone first rest. let one : given ≡ length (kept_by p.1) = counted ∙ (sym (length_kept passes) ∙ (ap (λ (z : List (PassValue M)). length (kept_by_all z)) (was ∙ ap (λ l. p ∷ l) alone) ∙ ap length (append-nil (kept_by p.1)))) in
            never_alone b.0 p.1 made s (ap (λ (z : View M). z.made) eb) (ap (λ (z : View M). z.number) eb ∙ ap (λ (z : View M). z.number) same) (ap (λ (z : View M). z.taken_in) eb ∙ ap (λ (z : View M). z.taken_in) same)
            (ap (λ (z : View M). z.made_from) eb ∙ ap (λ (z : View M). z.made_from) same) (omega arith) first rest;
      }

  pub closes_told : (passes others : List (PassValue M)) (p : PassValue M) (a : View M) (b c : SeatOf M) (ticket made given : ℕ) (journal : List (Entry M))
      → passes ≡ p ∷ others → a ≡ p.1 → TakesTurn a journal → b.0 ≡ in_turn ticket journal made a → LearnsInTurn b.0 → c ≡ (after_learn b.0, b.1) → made ≤ given → made ≤ PASSES_MAX
      → (given < PASSES_MAX → given ≡ count_of passes) → (PASSES_MAX ≤ given → PASSES_MAX ≤ count_of passes) → LearnsInTurn (absorb c.0 others) → Closes passes journal
  closes_told passes others p a b c ticket made given journal was same t eb l ec fits most few many s =
      let v : c.0 ≡ in_turn ticket journal made p.1 = ap (λ (z : SeatOf M). z.0) ec ∙ (ap (λ (z : View M). after_learn z) eb ∙ ap (λ (z : View M). in_turn ticket journal made z) same) in
      let enough : made ≤ count_of passes = dite (dec_le PASSES_MAX given) (λ h. let x = many h in omega arith) (λ ne. let x = few (omega arith) in omega arith) in
      let kept : made ≤ length (kept_by_all (p ∷ others)) = subst (λ z. made ≤ length (kept_by_all z)) was (omega (arith, length_kept passes)) in
      let own : AgreesWith journal (own_of a) = record { calls = t.own; seen = t.seen; own = t.own_before } in
      subst (λ (z : List (PassValue M)). Closes z journal) (sym was)
      (closes p others c.0 journal (ap (λ (z : View M). z.has_read) v) (ap (λ (z : View M). z.seen) v) (ap (λ (z : View M). z.number) v) (ap (λ (z : View M). z.calls) v) (ap (λ (z : View M). z.taken_in) v) (ap (λ (z : View M). z.made_from) v)
      (subst (λ (z : View M). AgreesWith journal (own_of z)) same own) (subst (λ z. z ≤ length (kept_by_all (p ∷ others))) (sym (ap (λ (z : View M). z.made) v)) kept) s)
