-- The rule after a step by which one view changes.
use Rattle.std.proofs.Common.{◌≡◌, ℕ, Bool, true, false, ◌+◌, ◌^◌, ◌<◌, ◌≤◌, ◌≢◌, ◌⊎◌, inl, cond, List, [], ◌∷◌, length, set, sym, refl, ◌∙◌, subst, ⊎_elim, arith, length-set, All}
use Rattle.std.specs.List.{slice_index}
use mathlib.Core.Option.{some, Option as Maybe}
use lib.ListN.{get_elem?}
use Rattle.atomic_table.specs.Table.{Act, stepped, Allows, Valid, carried_after}
use Rattle.atomic_table.proofs.Lists.{at_set}
use Rattle.one_history.specs.declared.entry.Entry.{Entry}
use Rattle.one_history.specs.declared.journal.TheConstants.{JOURNAL_MAX}
use Rattle.turn_desk.specs.declared.limits.TheConstants.{TURNS_MAX}
use Rattle.turn_desk.specs.declared.view.View.{View}
use Rattle.turn_desk.specs.Numbers.{IsAmong}
use Rattle.turn_desk.specs.View.{numbers_of}
use Rattle.turn_desk.specs.Rule.{Slot, Moment, weight, ViewRule, PairRule, ViewsRule, TurnRule, words_of, slot_of}
use Rattle.turn_desk.specs.Steps.{SeatOf}
use Rattle.turn_desk.proofs.Lists.{set_in, total_set, total_below, each_set, still_some}
use Rattle.turn_desk.proofs.Numbers.{apart_sym}

pub clash : {b : Bool} → b ≡ true → b ≡ false → ⊥
clash p q = cc

module _ {M : Type 0} where
  -- what a step on the word i owes at one moment
  abbrev pub IsAllowedAt : Moment M → List (View M) → ℕ → ℕ → (ℕ → ℕ) → SeatOf M → (ℕ → SeatOf M → Type 0) → List ℕ → List (Maybe (Slot M)) → Type 0
  IsAllowedAt now views i id f me then words homes = (w : View M) × (a : Act (Slot M)) × Valid homes me.1 a
      × TurnRule (stepped record { words = words; homes = homes; views = views } i (f (slice_index words i)) id me.1 w a) × then (slice_index words i) (w, carried_after me.1 a)

  pub allows : (slots i id : ℕ) (f : ℕ → ℕ) (me : SeatOf M) (then : ℕ → SeatOf M → Type 0)
      → ((now : Moment M) (views : List (View M)) → ViewsRule now views → get_elem? views id ≡ some me.0 → IsAllowedAt now views i id f me then (words_of now) (slot_of now ∷ []))
      → Allows TurnRule slots id me i f then
  allows slots i id f me then go s d len at fits = subst (λ (z : List ℕ × List (Maybe (Slot M))). IsAllowedAt d.now s.views i id f me then z.0 z.1) (λ k. (sym d.words k, sym d.slot k)) (go d.now s.views d.views at)

  pub pair_sym : (v w : View M) → PairRule v w → PairRule w v
  pair_sym v w p = record {
    tickets = λ x y e. p.tickets y x (sym e);
    numbers = λ x y. apart_sym (numbers_of v) (numbers_of w) (p.numbers y x);
    made_from = λ x y. apart_sym v.made_from w.made_from (p.made_from y x);
  }

  -- the first word does not wrap
  pub next_below : (now : Moment M) (views : List (View M)) → ViewsRule now views → now.next + 1 < 2 ^ 64
  next_below now views r = let s = total_below weight TURNS_MAX views (λ i a e. (r.each i a e).draws) in let c = r.count in let f = r.few in let d = r.draws in omega arith

  -- what a step owes if by it one view v becomes w
  pub record Changes (now : Moment M) (v : View M) (later : Moment M) (w : View M) : Type 0 where
    pub made : later.made ≡ now.made
    pub mine : ViewRule later w
    pub others : (u : View M) → ViewRule now u → PairRule v u → ViewRule later u
    pub pairs : (u : View M) → ViewRule now u → PairRule v u → PairRule w u
    pub turn : later.is_out ≡ true → ((now.is_out ≡ true) × (v.has_turn ≡ true → w.has_turn ≡ true)) ⊎ (w.has_turn ≡ true)
    pub tickets : (t : ℕ) → later.serving ≤ t → t < later.next
        → ((now.serving ≤ t) × (t < now.next) × (v.has_ticket ≡ true → v.ticket ≡ t → (w.has_ticket ≡ true) × (w.ticket ≡ t))) ⊎ ((w.has_ticket ≡ true) × (w.ticket ≡ t))
    pub callers : All (λ (e : Entry M). e.caller < later.made) later.history
    pub numbers : (k : ℕ) → (v.spent ≡ false) × IsAmong k (numbers_of v) → (w.spent ≡ false) × IsAmong k (numbers_of w)
    pub made_from : (k : ℕ) → (v.spent ≡ false) × IsAmong k v.made_from → (w.spent ≡ false) × IsAmong k w.made_from
    pub full : ((later.history ≡ now.history) × ((v.spent ≡ false) × (v.seen ≡ now.history) → (w.spent ≡ false) × (w.seen ≡ now.history))) ⊎ ((w.spent ≡ false) × (w.seen ≡ later.history))
    pub draws : later.next + weight v ≤ now.next + weight w
    pub order : later.serving ≤ later.next
    pub short : length later.history ≤ JOURNAL_MAX

  pub changed : (now : Moment M) (views : List (View M)) (id : ℕ) (v : View M) (later : Moment M) (w : View M)
      → ViewsRule now views → get_elem? views id ≡ some v → Changes now v later w → ViewsRule later (set views id w)
  changed now views id v later w r at c = record {
    count = length-set views id w ∙ (r.count ∙ sym c.made);
    each = each_set (ViewRule later) views id w c.mine (λ j u ne e. c.others u (r.each j u e) (r.pairs id j v u ne at e));
    pairs = λ i j a b ne e f. ⊎_elim
        (λ (t : (i ≡ id) × (w ≡ a)). ⊎_elim (λ (z : (j ≡ id) × (w ≡ b)). absurd (ne (z.0 ∙ sym t.0)))
        (λ (z : (j ≢ id) × (get_elem? views j ≡ some b)). subst (λ x. PairRule x b) t.1 (c.pairs b (r.each j b z.1) (r.pairs id j v b z.0 at z.1))) (at_set views id j w b f))
        (λ (t : (i ≢ id) × (get_elem? views i ≡ some a)). ⊎_elim (λ (z : (j ≡ id) × (w ≡ b)). subst (λ x. PairRule a x) z.1 (pair_sym w a (c.pairs a (r.each i a t.1) (r.pairs id i v a t.0 at t.1))))
        (λ (z : (j ≢ id) × (get_elem? views j ≡ some b)). r.pairs i j a b ne t.1 z.1) (at_set views id j w b f))
        (at_set views id i w a e);
    turn = λ o. ⊎_elim (λ (t : (now.is_out ≡ true) × (v.has_turn ≡ true → w.has_turn ≡ true)). still_some (λ (u : View M). u.has_turn ≡ true) views id v w at t.1 (r.turn t.0))
        (λ h. (id, w, set_in views id v w at, h)) (c.turn o);
    tickets = λ t lo hi. ⊎_elim
        (λ (z : (now.serving ≤ t) × (t < now.next) × (v.has_ticket ≡ true → v.ticket ≡ t → (w.has_ticket ≡ true) × (w.ticket ≡ t))).
        still_some (λ (u : View M). (u.has_ticket ≡ true) × (u.ticket ≡ t)) views id v w at (λ q. z.2 q.0 q.1) (r.tickets t z.0 z.1))
        (λ h. (id, w, set_in views id v w at, h)) (c.tickets t lo hi);
    numbers = λ k lt. still_some (λ (u : View M). (u.spent ≡ false) × IsAmong k (numbers_of u)) views id v w at (c.numbers k) (r.numbers k (subst (λ n. k < n) c.made lt));
    made_from = λ k lo lt. still_some (λ (u : View M). (u.spent ≡ false) × IsAmong k u.made_from) views id v w at (c.made_from k) (r.made_from k lo (subst (λ n. k < n) c.made lt));
    full = ⊎_elim
        (λ (t : (later.history ≡ now.history) × ((v.spent ≡ false) × (v.seen ≡ now.history) → (w.spent ≡ false) × (w.seen ≡ now.history))).
        let h = still_some (λ (u : View M). (u.spent ≡ false) × (u.seen ≡ now.history)) views id v w at t.1 r.full in (h.0, h.1, h.2, (h.3.0, h.3.1 ∙ sym t.0)))
        (λ q. (id, w, set_in views id v w at, q)) c.full;
    callers = c.callers;
    draws = let s = total_set weight views id v w at in let d = r.draws in let e = c.draws in omega arith;
    few = subst (λ n. n ≤ 65536) (sym c.made) r.few;
    order = c.order;
    short = c.short;
  }

  -- what a step owes that changes neither the moment nor tickets, turns and numbers
  pub record Remains (now : Moment M) (v w : View M) : Type 0 where
    pub mine : ViewRule now w
    pub pairs : (u : View M) → PairRule v u → PairRule w u
    pub turn : w.has_turn ≡ v.has_turn
    pub ticket : (w.has_ticket ≡ v.has_ticket) × (w.ticket ≡ v.ticket)
    pub numbers : (k : ℕ) → IsAmong k (numbers_of v) → IsAmong k (numbers_of w)
    pub made_from : (k : ℕ) → IsAmong k v.made_from → IsAmong k w.made_from
    pub seen : v.seen ≡ now.history → w.seen ≡ now.history
    pub spent : w.spent ≡ v.spent
    pub draws : w.draws ≡ v.draws

  pub remains : (now : Moment M) (views : List (View M)) (v w : View M) → ViewsRule now views → Remains now v w → Changes now v now w
  remains now views v w r c = record {
    made = refl;
    mine = c.mine;
    others = λ u t p. t;
    pairs = λ u t p. c.pairs u p;
    turn = λ o. inl (o, λ h. c.turn ∙ h);
    tickets = λ t lo hi. inl (lo, hi, λ x y. (c.ticket.0 ∙ x, c.ticket.1 ∙ y));
    callers = r.callers;
    numbers = λ k q. (c.spent ∙ q.0, c.numbers k q.1);
    made_from = λ k q. (c.spent ∙ q.0, c.made_from k q.1);
    full = inl (refl, λ q. (c.spent ∙ q.0, c.seen q.1));
    draws = subst (λ (z : Bool × ℕ). now.next + weight v ≤ now.next + cond z.0 TURNS_MAX z.1) (λ i. (sym c.spent i, sym c.draws i)) (omega arith);
    order = r.order;
    short = r.short;
  }
