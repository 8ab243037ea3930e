-- Making a pass keeps the rule.
use Rattle.std.proofs.Common.{◌≡◌, ℕ, true, false, ◌+◌, ◌<◌, ◌≤◌, ◌≢◌, cond, List, [], ◌∷◌, ◌++◌, length, set, sym, refl, ap, ◌∙◌, subst, ⊎_elim, arith, length-set, length-append, All, Some}
use Rattle.std.proofs.lemmas.List.Elements.{All-nil, All-weaker}
use mathlib.Core.Option.{none, some, Option as Maybe}
use mathlib.Core.Logic.{dite}
use native.Mathlib.Decide.{ℕ_discrete}
use lib.ListN.{get_elem?}
use Rattle.atomic_table.specs.Table.{Splits}
use Rattle.atomic_table.proofs.Lists.{at_set, at_longer, at_last}
use Rattle.one_history.specs.declared.entry.Entry.{Entry}
use Rattle.one_history.specs.History.{entries_by}
use Rattle.turn_desk.specs.declared.limits.TheConstants.{PASSES_MAX}
use Rattle.turn_desk.specs.declared.view.View.{View}
use Rattle.turn_desk.specs.Numbers.{times_in, IsAmong, AreApart}
use Rattle.turn_desk.specs.View.{after_split, split_off, in_turn, numbers_of, AgreesWith}
use Rattle.turn_desk.specs.Rule.{Slot, Moment, weight, NumbersRule, ViewRule, PairRule, SomeView, ViewsRule, TurnRule}
use Rattle.turn_desk.proofs.Lists.{set_in, total_set, total-append, each_set, still_some, at_end}
use Rattle.turn_desk.proofs.Numbers.{times-append, times_single, is_single, not_single, among_single, among_first, among_left, among_right}
use Rattle.turn_desk.proofs.Entries.{entries_none}
use Rattle.turn_desk.proofs.Changes.{clash, pair_sym}
use Rattle.turn_desk.proofs.Turns.{only_turn}

-- one number more was made, from a pass with these numbers
numbers_more : (n : ℕ) (numbers made_from : List ℕ) → NumbersRule n numbers made_from → NumbersRule (n + 1) numbers made_from
numbers_more n numbers made_from r = record {
  distinct = r.distinct;
  below = λ k h. let x = r.below k h in omega arith;
  made_distinct = r.made_distinct;
  made_below = λ k h. let x = r.made_below k h in omega arith;
  made_later = r.made_later;
}

numbers_made : (n own : ℕ) (numbers made_from : List ℕ) → IsAmong own numbers → NumbersRule n numbers made_from → NumbersRule (n + 1) numbers (made_from ++ n ∷ [])
numbers_made n own numbers made_from mine r = record {
  distinct = r.distinct;
  below = λ k h. let x = r.below k h in omega arith;
  made_distinct = λ k. let z = times-append k made_from (n ∷ []) in let x = r.made_distinct k in dite (ℕ_discrete k n)
      (λ e. let y = times_single k n in dite (ℕ_discrete (times_in k made_from) 0) (λ none_before. omega arith) (λ ne. let lt = r.made_below k (omega arith) in absurd (omega arith)))
      (λ ne. let y = not_single k n ne in omega arith);
  made_below = λ k h. let z = times-append k made_from (n ∷ []) in dite (ℕ_discrete (times_in k made_from) 0) (λ none_before. let e = is_single k n (omega arith) in omega arith) (λ ne. let lt = r.made_below k (omega arith) in omega arith);
  made_later = λ k h. let z = times-append k made_from (n ∷ []) in dite (ℕ_discrete (times_in k made_from) 0)
      (λ none_before. let e = is_single k n (omega arith) in let lt = r.below own mine in (own, mine, omega arith))
      (λ ne. r.made_later k (omega arith));
}

numbers_new : (n : ℕ) → NumbersRule (n + 1) (n ∷ []) []
numbers_new n = record {
  distinct = λ k. times_single k n;
  below = λ k h. let e = is_single k n h in omega arith;
  made_distinct = λ k. omega arith;
  made_below = λ k h. absurd (omega arith);
  made_later = λ k h. absurd (omega arith);
}

-- a number that is not below n is not among numbers that are
new_apart : (n x : ℕ) (numbers : List ℕ) → ((k : ℕ) → IsAmong k numbers → k < n) → n ≤ x → AreApart (x ∷ []) numbers
new_apart n x numbers below le k h = let e = is_single k x h in dite (ℕ_discrete (times_in k numbers) 0) (λ z. z) (λ ne. let lt = below k (omega arith) in absurd (omega arith))

module _ {M : Type 0} where
  abbrev one_made : Moment M → Moment M
  one_made now = record now { made = now.made + 1 }

  maker_rule : (now : Moment M) (v : View M) → ViewRule now v → v.has_turn ≡ true → v.has_read ≡ true → ViewRule (one_made now) (after_split v)
  maker_rule now v s turn read = let made = s.made turn in record {
    own = s.own;
    taken_in = s.taken_in;
    seen_before = s.seen_before;
    ticket = s.ticket;
    handed = λ _ h. absurd (clash read h);
    read = s.read;
    made = λ _. ap (λ k. k + 1) made;
    made_at_most = λ _. omega arith;
    turn = s.turn;
    reads_in_turn = s.reads_in_turn;
    numbers = λ live. subst (λ n. NumbersRule (now.made + 1) (numbers_of v) (v.made_from ++ n ∷ [])) (sym made) (numbers_made now.made v.number (numbers_of v) v.made_from (among_first v.number _) (s.numbers live));
    draws = s.draws;
  }

  new_rule : (now : Moment M) (v : View M) → ViewRule now v → All (λ (e : Entry M). e.caller < now.made) now.history → v.has_turn ≡ true → v.has_read ≡ true → ViewRule (one_made now) (split_off v)
  new_rule now v s callers turn read = let made = s.made turn in let live = (s.turn turn).3 in
      let none_mine : entries_by v.made now.history ≡ [] = ap (λ k. entries_by k now.history) made ∙ entries_none now.made now.history callers in record {
        own = λ _. record { calls = none_mine; seen = (s.own live).seen; own = ap (entries_by v.made) (s.read turn read) ∙ none_mine };
        taken_in = λ _. All-nil (AgreesWith now.history);
        seen_before = λ _. (now.history, refl);
        ticket = λ h. absurd (cc h);
        handed = λ h _. absurd (cc h);
        read = λ h _. absurd (cc h);
        made = λ h. absurd (cc h);
        made_at_most = λ _. omega arith;
        turn = λ h. absurd (cc h);
        reads_in_turn = λ h. absurd (cc h);
        numbers = λ _. subst (λ n. NumbersRule (now.made + 1) (n ∷ []) []) (sym made) (numbers_new now.made);
        draws = omega arith;
      }

  other_rule : (now : Moment M) (v u : View M) → ViewRule now v → v.has_turn ≡ true → ViewRule now u → PairRule v u → ViewRule (one_made now) u
  other_rule now v u s turn t p = record {
    own = t.own;
    taken_in = t.taken_in;
    seen_before = t.seen_before;
    ticket = t.ticket;
    handed = t.handed;
    read = t.read;
    made = λ h. absurd (only_turn now v s turn u t p h);
    made_at_most = λ live. let x = t.made_at_most live in omega arith;
    turn = t.turn;
    reads_in_turn = t.reads_in_turn;
    numbers = λ live. numbers_more now.made (numbers_of u) u.made_from (t.numbers live);
    draws = t.draws;
  }

  maker_pair : (now : Moment M) (v u : View M) → ViewRule now v → v.has_turn ≡ true → ViewRule now u → PairRule v u → PairRule (after_split v) u
  maker_pair now v u s turn t p = let made = s.made turn in record {
    tickets = p.tickets;
    numbers = p.numbers;
    made_from = λ sv su k h. let z = times-append k v.made_from (v.made ∷ []) in dite (ℕ_discrete (times_in k v.made_from) 0)
        (λ none_before. let e = is_single k v.made (omega arith) in dite (ℕ_discrete (times_in k u.made_from) 0) (λ q. q) (λ ne. let lt = (t.numbers su).made_below k (omega arith) in absurd (omega arith)))
        (λ ne. p.made_from sv su k (omega arith));
  }

  new_pair : (v u : View M) (n : ℕ) → n ≤ v.made → (u.spent ≡ false → (k : ℕ) → IsAmong k (numbers_of u) → k < n) → PairRule (split_off v) u
  new_pair v u n le below = record { tickets = λ h. absurd (cc h); numbers = λ _ live. new_apart n v.made (numbers_of u) (below live) le; made_from = λ _ live k h. absurd (omega arith) }

  -- of two views after the split, neither is the new one
  old_pairs : (now : Moment M) (views : List (View M)) (id : ℕ) (v : View M) → ViewsRule now views → get_elem? views id ≡ some v → v.has_turn ≡ true → (i j : ℕ) (a b : View M) → j ≢ i
      → get_elem? (set views id (after_split v)) i ≡ some a → get_elem? (set views id (after_split v)) j ≡ some b → PairRule a b
  old_pairs now views id v r at turn i j a b ne x y = let s = r.each id v at in ⊎_elim
      (λ (t : (i ≡ id) × (after_split v ≡ a)). ⊎_elim (λ (z : (j ≡ id) × (after_split v ≡ b)). absurd (ne (z.0 ∙ sym t.0)))
      (λ (z : (j ≢ id) × (get_elem? views j ≡ some b)). subst (λ x. PairRule x b) t.1 (maker_pair now v b s turn (r.each j b z.1) (r.pairs id j v b z.0 at z.1))) (at_set views id j (after_split v) b y))
      (λ (t : (i ≢ id) × (get_elem? views i ≡ some a)). ⊎_elim
      (λ (z : (j ≡ id) × (after_split v ≡ b)). subst (λ x. PairRule a x) z.1 (pair_sym (after_split v) a (maker_pair now v a s turn (r.each i a t.1) (r.pairs id i v a t.0 at t.1))))
      (λ (z : (j ≢ id) × (get_elem? views j ≡ some b)). r.pairs i j a b ne t.1 z.1) (at_set views id j (after_split v) b y))
      (at_set views id i (after_split v) a x)

  splits_views : (now : Moment M) (views : List (View M)) (id : ℕ) (v : View M) → ViewsRule now views → get_elem? views id ≡ some v → v.has_turn ≡ true → v.has_read ≡ true → v.made < PASSES_MAX
      → ViewsRule (one_made now) (set views id (after_split v) ++ split_off v ∷ [])
  splits_views now views id v r at turn read few = let s = r.each id v at in let live = (s.turn turn).3 in let made = s.made turn in let l = set views id (after_split v) in
      let new : (i : ℕ) (u : View M) → get_elem? l i ≡ some u → PairRule (split_off v) u = λ i u e. new_pair v u now.made (omega arith)
      (each_set (λ (u : View M). u.spent ≡ false → (k : ℕ) → IsAmong k (numbers_of u) → k < now.made) views id (after_split v) (λ sp. (s.numbers sp).below) (λ j u _ e sp. ((r.each j u e).numbers sp).below) i u e) in
      let still : (Q : View M → Type 0) → (Q v → Q (after_split v)) → SomeView views Q → SomeView (l ++ split_off v ∷ []) Q =
      λ Q f h. let x = still_some Q views id v (after_split v) at f h in (x.0, x.1, at_longer l (split_off v ∷ []) x.0 x.1 x.2, x.3) in
      record {
        count = length-append l (split_off v ∷ []) ∙ ap (λ k. k + 1) (length-set views id (after_split v) ∙ r.count);
        each = λ j u e. ⊎_elim
            (λ h. each_set (ViewRule (one_made now)) views id (after_split v) (maker_rule now v s turn read) (λ j u ne e. other_rule now v u s turn (r.each j u e) (r.pairs id j v u ne at e)) j u h)
            (λ (h : (j ≡ length l) × (split_off v ≡ u)). subst (ViewRule (one_made now)) h.1 (new_rule now v s r.callers turn read)) (at_end l (split_off v) u j e);
        pairs = λ i j a b ne e f. ⊎_elim
            (λ (x : get_elem? l i ≡ some a). ⊎_elim (λ (y : get_elem? l j ≡ some b). old_pairs now views id v r at turn i j a b ne x y)
            (λ (y : (j ≡ length l) × (split_off v ≡ b)). subst (λ z. PairRule a z) y.1 (pair_sym (split_off v) a (new i a x))) (at_end l (split_off v) b j f))
            (λ (x : (i ≡ length l) × (split_off v ≡ a)). ⊎_elim (λ (y : get_elem? l j ≡ some b). subst (λ z. PairRule z b) x.1 (new j b y)) (λ (y : (j ≡ length l) × (split_off v ≡ b)). absurd (ne (y.0 ∙ sym x.0)))
            (at_end l (split_off v) b j f))
            (at_end l (split_off v) a i e);
        full = still (λ (u : View M). (u.spent ≡ false) × (u.seen ≡ now.history)) (λ q. q) r.full;
        tickets = λ t lo hi. still (λ (u : View M). (u.has_ticket ≡ true) × (u.ticket ≡ t)) (λ q. q) (r.tickets t lo hi);
        turn = λ o. still (λ (u : View M). u.has_turn ≡ true) (λ q. q) (r.turn o);
        callers = All-weaker (λ (e : Entry M). e.caller < now.made) (λ (e : Entry M). e.caller < now.made + 1) (λ e lt. omega arith) now.history r.callers;
        numbers = λ k lt. dite (ℕ_discrete k now.made) (λ e. (length l, split_off v, at_last l (split_off v) (length l) refl, (refl, among_single k v.made (e ∙ sym made))))
            (λ ne. still (λ (u : View M). (u.spent ≡ false) × IsAmong k (numbers_of u)) (λ q. q) (r.numbers k (omega arith)));
        made_from = λ k lo lt. dite (ℕ_discrete k now.made)
            (λ e. (id, after_split v, at_longer l (split_off v ∷ []) id (after_split v) (set_in views id v (after_split v) at), (live, among_right k v.made_from (v.made ∷ []) (among_single k v.made (e ∙ sym made)))))
            (λ ne. still (λ (u : View M). (u.spent ≡ false) × IsAmong k u.made_from) (λ q. (q.0, among_left k v.made_from (v.made ∷ []) q.1)) (r.made_from k lo (omega arith)));
        draws = let a = total_set weight views id v (after_split v) at in let b = total-append weight l (split_off v ∷ []) in let d = r.draws in omega arith;
        few = omega arith;
        order = r.order;
        short = r.short;
      }

  pub splits : (id : ℕ) (v : View M) → v.has_turn ≡ true → v.has_read ≡ true → v.made < PASSES_MAX → Splits TurnRule id v (after_split v) (split_off v)
  splits id v turn read few s d at = let out = ((d.views.each id v at).turn turn).2 in record {
    now = one_made d.now;
    words = d.words;
    slot = d.slot ∙ subst (λ b. ◌≡◌ {A = List (Maybe (Slot M))} (cond b none (some (Some (d.now.history, d.now.made))) ∷ []) (cond b none (some (Some (d.now.history, d.now.made + 1))) ∷ [])) (sym out) refl;
    views = splits_views d.now s.views id v d.views at turn read few;
  }

  -- the same, of a pass in its turn
  pub splits_told : (id : ℕ) (v w : View M) (ticket made : ℕ) (history : List (Entry M)) → w ≡ in_turn ticket history made v → made < PASSES_MAX → Splits TurnRule id w (after_split w) (split_off w)
  splits_told id v w ticket made history is few = splits id w (ap (λ (z : View M). z.has_turn) is) (ap (λ (z : View M). z.has_read) is) (subst (λ n. n < PASSES_MAX) (sym (ap (λ (z : View M). z.made) is)) few)
