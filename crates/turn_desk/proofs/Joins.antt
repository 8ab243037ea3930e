-- Taking in another pass keeps the rule.
use Rattle.std.proofs.Common.{◌≡◌, ℕ, Bool, true, false, ◌≢◌, cond, List, ◌∷◌, ◌++◌, set, sym, refl, ap, ◌∙◌, subst, ⊎_elim, arith, length-set}
use Rattle.std.proofs.lemmas.List.{map-append}
use Rattle.std.proofs.lemmas.List.Elements.{All-append, All-cons}
use mathlib.Core.List.{IsPrefix}
use mathlib.Core.Option.{some}
use mathlib.Core.Logic.{dite}
use native.Mathlib.Decide.{ℕ_discrete}
use lib.ListN.{get_elem?}
use Rattle.atomic_table.specs.Table.{Joins}
use Rattle.atomic_table.proofs.Lists.{set_else}
use Rattle.one_history.specs.declared.entry.Entry.{Entry}
use Rattle.turn_desk.specs.declared.view.View.{View}
use Rattle.turn_desk.specs.declared.view.Kept.{Kept}
use Rattle.turn_desk.specs.Numbers.{times_in, IsAmong}
use Rattle.turn_desk.specs.View.{after_join, spent_view, own_of, kept_by, numbers_in, numbers_of, longer, AgreesWith}
use Rattle.turn_desk.specs.Rule.{Moment, weight, NumbersRule, ViewRule, PairRule, SomeView, ViewsRule, TurnRule}
use Rattle.turn_desk.proofs.Lists.{set_in, same_there, total_set, at_two}
use Rattle.turn_desk.proofs.Prefixes.{prefix_self, longer_of, longer_left, longer_whole_left, longer_whole_right, entries_between}
use Rattle.turn_desk.proofs.Numbers.{times-append, apart-append, distinct-append, below-append, among_left, among_right}
use Rattle.turn_desk.proofs.Changes.{clash, pair_sym}

module _ {M : Type 0} where
  pub numbers-append : (xs ys : List (Kept M)) → numbers_in (xs ++ ys) ≡ numbers_in xs ++ numbers_in ys
  numbers-append xs ys = map-append (λ (k : Kept M). k.number) xs ys

  numbers_joined : (v w : View M) → numbers_of (after_join v w) ≡ numbers_of v ++ numbers_of w
  numbers_joined v w = ap (λ (l : List ℕ). v.number ∷ l) (numbers-append v.taken_in (kept_by w))

  -- what it has seen is what it had seen, or the longer of both
  seen_joined : (P : List (Entry M) → Type 0) (v w : View M) → P v.seen → P (longer v.seen w.seen) → P (after_join v w).seen
  seen_joined P v w p q = elim (v.has_read) as (λ b. P (cond b v.seen (longer v.seen w.seen))) [ true ↦ p | false ↦ q ]

  full_left : (v w : View M) (history : List (Entry M)) → v.seen ≡ history → IsPrefix w.seen history → (after_join v w).seen ≡ history
  full_left v w history e q = seen_joined (λ z. z ≡ history) v w e (longer_whole_left v.seen w.seen history e q)

  full_right : (v w : View M) (history : List (Entry M)) → IsPrefix v.seen history → w.seen ≡ history → (v.has_read ≡ true → v.seen ≡ history) → (after_join v w).seen ≡ history
  full_right v w history p e read = (elim (v.has_read) as (λ b. (b ≡ true → v.seen ≡ history) → cond b v.seen (longer v.seen w.seen) ≡ history)
      [ true ↦ (λ h. h refl) | false ↦ (λ h. longer_whole_right v.seen w.seen history p e) ]) read

  joined_numbers : (n : ℕ) (v w : View M) → NumbersRule n (numbers_of v) v.made_from → NumbersRule n (numbers_of w) w.made_from → v.spent ≡ false → w.spent ≡ false → PairRule v w
      → NumbersRule n (numbers_of v ++ numbers_of w) (v.made_from ++ w.made_from)
  joined_numbers n v w s t sv sw p = record {
    distinct = distinct-append (numbers_of v) (numbers_of w) s.distinct t.distinct (p.numbers sv sw);
    below = below-append n (numbers_of v) (numbers_of w) s.below t.below;
    made_distinct = distinct-append v.made_from w.made_from s.made_distinct t.made_distinct (p.made_from sv sw);
    made_below = below-append n v.made_from w.made_from s.made_below t.made_below;
    made_later = λ k h. let g = times-append k v.made_from w.made_from in dite (ℕ_discrete (times_in k v.made_from) 0)
        (λ z. let x = t.made_later k (omega arith) in (x.0, among_right x.0 (numbers_of v) (numbers_of w) x.1, x.2))
        (λ ne. let x = s.made_later k (omega arith) in (x.0, among_left x.0 (numbers_of v) (numbers_of w) x.1, x.2));
  }

  joined_rule : (now : Moment M) (v w : View M) → ViewRule now v → ViewRule now w → PairRule v w → v.spent ≡ false → w.spent ≡ false → (v.has_turn ≡ true → v.has_read ≡ true) → ViewRule now (after_join v w)
  joined_rule now v w s t a sv sw read = let own = s.own sv in let p = own.seen in let q = (t.own sw).seen in
      let begins : IsPrefix (after_join v w).seen now.history = seen_joined (λ z. IsPrefix z now.history) v w p (longer_of (λ z. IsPrefix z now.history) v.seen w.seen p q) in
      let left : IsPrefix v.seen (after_join v w).seen = seen_joined (IsPrefix v.seen) v w (prefix_self v.seen) (longer_left v.seen w.seen now.history p q) in record {
        own = λ _. record { calls = own.calls; seen = begins; own = entries_between v.number v.seen (after_join v w).seen now.history v.calls left begins own.own own.calls };
        taken_in = λ _. All-append (AgreesWith now.history) v.taken_in (kept_by w) (s.taken_in sv) (All-cons (AgreesWith now.history) (own_of w) w.taken_in (t.own sw) (t.taken_in sw));
        seen_before = λ _. p;
        ticket = s.ticket;
        handed = λ h unread. absurd (clash (read h) unread);
        read = λ h r. ap (λ (b : Bool). cond b v.seen (longer v.seen w.seen)) r ∙ s.read h r;
        made = s.made;
        made_at_most = s.made_at_most;
        turn = s.turn;
        reads_in_turn = s.reads_in_turn;
        numbers = λ _. subst (λ z. NumbersRule now.made z (v.made_from ++ w.made_from)) (sym (numbers_joined v w)) (joined_numbers now.made v w (s.numbers sv) (t.numbers sw) sv sw a);
        draws = s.draws;
      }

  spent_rule : (now : Moment M) → ViewRule now (spent_view {M = M})
  spent_rule now = record {
    own = λ h. absurd (cc h);
    taken_in = λ h. absurd (cc h);
    seen_before = λ h. absurd (cc h);
    ticket = λ h. absurd (cc h);
    handed = λ h _. absurd (cc h);
    read = λ h _. absurd (cc h);
    made = λ h. absurd (cc h);
    made_at_most = λ h. absurd (cc h);
    turn = λ h. absurd (cc h);
    reads_in_turn = λ h. absurd (cc h);
    numbers = λ h. absurd (cc h);
    draws = omega arith;
  }

  spent_pair : (u : View M) → PairRule spent_view u
  spent_pair u = record { tickets = λ h. absurd (cc h); numbers = λ h. absurd (cc h); made_from = λ h. absurd (cc h) }

  joined_pair : (v w u : View M) → v.spent ≡ false → w.spent ≡ false → PairRule v u → PairRule w u → PairRule (after_join v w) u
  joined_pair v w u sv sw a b = record {
    tickets = a.tickets;
    numbers = λ _ su k h. apart-append (numbers_of v) (numbers_of w) (numbers_of u) (a.numbers sv su) (b.numbers sw su) k (subst (IsAmong k) (numbers_joined v w) h);
    made_from = λ _ su. apart-append v.made_from w.made_from u.made_from (a.made_from sv su) (b.made_from sw su);
  }

  -- a pass that can be taken in
  pub record IsOutside (w : View M) : Type 0 where
    pub has_ticket : w.has_ticket ≡ false
    pub has_turn : w.has_turn ≡ false
    pub spent : w.spent ≡ false

  joined_pairs : (now : Moment M) (views : List (View M)) (id other : ℕ) (v w : View M) → ViewsRule now views → get_elem? views id ≡ some v → other ≢ id → get_elem? views other ≡ some w → v.spent ≡ false → w.spent ≡ false
      → (i j : ℕ) (x y : View M) → j ≢ i → get_elem? (set (set views id (after_join v w)) other spent_view) i ≡ some x → get_elem? (set (set views id (after_join v w)) other spent_view) j ≡ some y → PairRule x y
  joined_pairs now views id other v w r at differ bt sv sw i j x y ne e f =
      let joined : (j : ℕ) (u : View M) → j ≢ other → j ≢ id → get_elem? views j ≡ some u → PairRule (after_join v w) u = λ j u no ni e. joined_pair v w u sv sw (r.pairs id j v u ni at e) (r.pairs other j w u no bt e) in ⊎_elim
      (λ (h : (i ≡ other) × (spent_view ≡ x)). subst (λ z. PairRule z y) h.1 (spent_pair y))
      (λ h. ⊎_elim (λ (g : (j ≡ other) × (spent_view ≡ y)). subst (λ z. PairRule x z) g.1 (pair_sym spent_view x (spent_pair x)))
      (λ g. ⊎_elim
      (λ (m : (i ≢ other) × (i ≡ id) × (after_join v w ≡ x)). ⊎_elim (λ (o : (j ≢ other) × (j ≡ id) × (after_join v w ≡ y)). absurd (ne (o.1 ∙ sym m.1)))
      (λ (o : (j ≢ other) × (j ≢ id) × (get_elem? views j ≡ some y)). subst (λ z. PairRule z y) m.2 (joined j y o.0 o.1 o.2)) g)
      (λ (m : (i ≢ other) × (i ≢ id) × (get_elem? views i ≡ some x)). ⊎_elim
      (λ (o : (j ≢ other) × (j ≡ id) × (after_join v w ≡ y)). subst (λ z. PairRule x z) o.2 (pair_sym (after_join v w) x (joined i x m.0 m.1 m.2)))
      (λ (o : (j ≢ other) × (j ≢ id) × (get_elem? views j ≡ some y)). r.pairs i j x y ne m.2 o.2) g)
      h)
      (at_two views id other j (after_join v w) spent_view y f))
      (at_two views id other i (after_join v w) spent_view x e)

  joins_views : (now : Moment M) (views : List (View M)) (id other : ℕ) (v w : View M) → ViewsRule now views → get_elem? views id ≡ some v → other ≢ id → get_elem? views other ≡ some w
      → v.spent ≡ false → (v.has_turn ≡ true → v.has_read ≡ true) → IsOutside w → ViewsRule now (set (set views id (after_join v w)) other spent_view)
  joins_views now views id other v w r at differ bt sv read outside = let s = r.each id v at in let t = r.each other w bt in let sw = outside.spent in
      let a = r.pairs id other v w differ at bt in
      let l = set views id (after_join v w) in let new = set l other spent_view in
      let bt' : get_elem? l other ≡ some w = set_else views id other (after_join v w) differ ∙ bt in
      let joined : get_elem? new id ≡ some (after_join v w) = set_else l other id spent_view (λ e. differ (sym e)) ∙ set_in views id v (after_join v w) at in
      let still : (Q : View M → Type 0) → (Q v → Q (after_join v w)) → (Q w → Q (after_join v w)) → SomeView views Q → SomeView new Q = λ Q f g h. dite (ℕ_discrete h.0 other)
      (λ e. (id, after_join v w, joined, g (subst Q (same_there views other h.0 w h.1 e h.2 bt) h.3)))
      (λ ne. dite (ℕ_discrete h.0 id)
      (λ e. (id, after_join v w, joined, f (subst Q (same_there views id h.0 v h.1 e h.2 at) h.3)))
      (λ ne'. (h.0, h.1, set_else l other h.0 spent_view ne ∙ (set_else views id h.0 (after_join v w) ne' ∙ h.2), h.3))) in
      record {
        count = length-set l other spent_view ∙ (length-set views id (after_join v w) ∙ r.count);
        each = λ k u e. ⊎_elim (λ (h : (k ≡ other) × (spent_view ≡ u)). subst (ViewRule now) h.1 (spent_rule now))
            (λ h. ⊎_elim (λ (x : (k ≢ other) × (k ≡ id) × (after_join v w ≡ u)). subst (ViewRule now) x.2 (joined_rule now v w s t a sv sw read)) (λ (x : (k ≢ other) × (k ≢ id) × (get_elem? views k ≡ some u)). r.each k u x.2) h)
            (at_two views id other k (after_join v w) spent_view u e);
        pairs = joined_pairs now views id other v w r at differ bt sv sw;
        full = still (λ (u : View M). (u.spent ≡ false) × (u.seen ≡ now.history)) (λ q. (sv, full_left v w now.history q.1 (t.own sw).seen))
            (λ q. (sv, full_right v w now.history (s.own sv).seen q.1 (λ h. s.read (s.reads_in_turn h) h))) r.full;
        tickets = λ k lo hi. still (λ (u : View M). (u.has_ticket ≡ true) × (u.ticket ≡ k)) (λ q. q) (λ q. absurd (clash q.0 outside.has_ticket)) (r.tickets k lo hi);
        turn = λ o. still (λ (u : View M). u.has_turn ≡ true) (λ q. q) (λ q. absurd (clash q outside.has_turn)) (r.turn o);
        callers = r.callers;
        numbers = λ k lt. let f : IsAmong k (numbers_of v ++ numbers_of w) → IsAmong k (numbers_of (after_join v w)) = subst (IsAmong k) (sym (numbers_joined v w)) in
            still (λ (u : View M). (u.spent ≡ false) × IsAmong k (numbers_of u)) (λ q. (sv, f (among_left k (numbers_of v) (numbers_of w) q.1))) (λ q. (sv, f (among_right k (numbers_of v) (numbers_of w) q.1))) (r.numbers k lt);
        made_from = λ k lo lt. still (λ (u : View M). (u.spent ≡ false) × IsAmong k u.made_from) (λ q. (sv, among_left k v.made_from w.made_from q.1)) (λ q. (sv, among_right k v.made_from w.made_from q.1)) (r.made_from k lo lt);
        draws = let a = total_set weight views id v (after_join v w) at in let b = total_set weight l other w spent_view bt' in let d = r.draws in let m = t.draws in omega arith;
        few = r.few;
        order = r.order;
        short = r.short;
      }

  pub joins : (id : ℕ) (v : View M) (other : ℕ) (w : View M) → v.spent ≡ false → (v.has_turn ≡ true → v.has_read ≡ true) → w.has_ticket ≡ false → w.has_turn ≡ false → w.spent ≡ false
      → Joins TurnRule id v other w (after_join v w) spent_view
  joins id v other w sv read has_ticket has_turn spent s d at differ bt = record {
    now = d.now;
    words = d.words;
    slot = d.slot;
    views = joins_views d.now s.views id other v w d.views at differ (sym (set_else s.views id other (after_join v w) differ) ∙ bt) sv read record { has_ticket = has_ticket; has_turn = has_turn; spent = spent };
  }
