-- What the calls of a desk make of a pass, by what its steps told.
use Rattle.std.proofs.Common.{◌≡◌, ℕ, Bool, false, ◌<◌, ◌≤◌, inl, inr, cond, List, [], ◌∷◌, ◌++◌, length, sym, refl, ap, ◌∙◌, subst, ⊎_elim, arith}
use mathlib.Core.List.{IsPrefix}
use Rattle.one_history.specs.declared.entry.Entry.{Entry}
use Rattle.one_history.specs.History.{entry_of, entries_by, HasSeen}
use Rattle.turn_desk.specs.declared.view.View.{View}
use Rattle.turn_desk.specs.Numbers.{AreDistinct}
use Rattle.turn_desk.specs.View.{after_commit, after_leave, after_split, after_join, after_learn, own_of, kept_by, numbers_of, in_turn, longer, AgreesWith, IsIdle}
use Rattle.turn_desk.specs.Calls.{Continues, Commits, TakesIn}
use Rattle.turn_desk.specs.Rule.{Slot}
use Rattle.turn_desk.specs.Steps.{SeatOf, Learns, TakesTurn}
use Rattle.turn_desk.proofs.Lists.{all_right}
use Rattle.turn_desk.proofs.Prefixes.{prefix_self, prefix_more, longer_is, longer_left, longer_right}
use Rattle.turn_desk.proofs.Entries.{entries_own, others_between}

not_nil : (xs : List ℕ) (x : ℕ) → xs ++ x ∷ [] ≡ [] → ⊥
not_nil [] x e = cc e
not_nil (y ∷ ys) x e = cc e

module _ {M : Type 0} where
  -- a pass has taken in another
  takes_in : (v w u : View M) (history : List (Entry M)) → u ≡ after_learn (after_join v w) → Learns history (after_join v w) → v.has_read ≡ false → TakesIn v w u
  takes_in v w u history e l unread = let p = l.seen_before in let q = (all_right (AgreesWith history) v.taken_in (kept_by w) l.taken_in 0 (own_of w) (omega arith)).seen in
      let seen : u.seen ≡ longer v.seen w.seen = ap (λ (x : View M). x.seen) e ∙ ap (λ (b : Bool). cond b v.seen (longer v.seen w.seen)) unread in record {
        number = ap (λ (x : View M). x.number) e;
        calls = ap (λ (x : View M). x.calls) e;
        draws = ap (λ (x : View M). x.draws) e;
        taken_in = ap (λ (x : View M). x.taken_in) e;
        made_from = ap (λ (x : View M). x.made_from) e;
        longer = ⊎_elim (λ (h : (longer v.seen w.seen ≡ w.seen) × (length v.seen < length w.seen)). inr (seen ∙ h.0)) (λ (h : (longer v.seen w.seen ≡ v.seen) × (length w.seen ≤ length v.seen)). inl (seen ∙ h.0)) (longer_is v.seen w.seen);
        seen = subst (IsPrefix v.seen) (sym seen) (longer_left v.seen w.seen history p q);
        seen_by_other = subst (IsPrefix w.seen) (sym seen) (longer_right v.seen w.seen history p q);
        own = subst (λ (x : View M). HasSeen x.seen x.number x.calls) (sym e) l.own.own;
        distinct = subst (λ (x : View M). AreDistinct (numbers_of x)) (sym e) l.distinct;
      }

  -- the same, by what the two steps told
  pub takes_in_told : (v w v' w' : View M) (m m' : SeatOf M) (history : List (Entry M)) → v ≡ v' → w ≡ w' → {c : List (ℕ × Slot M)} → m ≡ (after_join v w, c) → m' ≡ (after_learn m.0, m.1) → Learns history m.0 → v.has_read ≡ false → TakesIn v' w' m'.0
  takes_in_told v w v' w' m m' history ev ew e f l unread = subst (λ (z : View M × View M). TakesIn z.0 z.1 m'.0) (λ i. (ev i, ew i))
      (takes_in v w m'.0 history (ap (λ (x : SeatOf M). x.0) f ∙ ap (λ (x : SeatOf M). after_learn x.0) e) (subst (λ (x : SeatOf M). Learns history x.0) e l) unread)

  -- a pass that takes no turn
  pub spent_continues : (v : View M) → IsIdle v → Continues v v
  spent_continues v i = record { number = refl; taken_in = refl; seen = prefix_self v.seen; own_before = i.own; own = i.own; only = i.only }

  -- a pass has left its turn, without an entry more
  left_continues : (v : View M) (ticket made : ℕ) (history : List (Entry M)) → TakesTurn v history → Continues v (after_leave (in_turn ticket history made v))
  left_continues v ticket made history t = record { number = refl; taken_in = refl; seen = t.seen; own_before = t.own_before; own = t.own; only = t.only }

  -- with a pass or a note more
  split_continues : (v : View M) (ticket made : ℕ) (history : List (Entry M)) → TakesTurn v history → Continues v (after_leave (after_split (in_turn ticket history made v)))
  split_continues v ticket made history t = record { number = refl; taken_in = refl; seen = t.seen; own_before = t.own_before; own = t.own; only = λ only. absurd (not_nil v.made_from made only.1) }

  -- with an entry more
  commit_continues : (v : View M) (ticket made : ℕ) (history : List (Entry M)) (e : Entry M) → e.caller ≡ v.number → TakesTurn v history → Continues v (after_leave (after_commit (history ++ e ∷ []) (in_turn ticket history made v)))
  commit_continues v ticket made history e by t = record {
    number = refl;
    taken_in = refl;
    seen = prefix_more v.seen history e t.seen;
    own_before = t.own_before;
    own = refl;
    only = λ only. ap (λ l. l ++ e ∷ []) (t.only only) ∙ sym (entries_own v.number history e by ∙ ap (λ l. l ++ e ∷ []) t.own);
  }

  commits_entry : (v : View M) (ticket made : ℕ) (history : List (Entry M)) (e : Entry M) → e.caller ≡ v.number → TakesTurn v history → Commits v e (length history) (after_leave (after_commit (history ++ e ∷ []) (in_turn ticket history made v)))
  commits_entry v ticket made history e by t = record {
    between = t.seen.0;
    others = others_between v.number v.seen t.seen.0 v.calls t.own_before (ap (entries_by v.number) t.seen.1 ∙ t.own);
    seen = ap (λ l. l ++ e ∷ []) (sym t.seen.1);
    at = ap length (sym t.seen.1);
    calls = entries_own v.number history e by ∙ ap (λ l. l ++ e ∷ []) t.own;
    made_from = refl;
  }

  -- what was told: a is the view before the turn, b the one in the turn, c the seat after it

  pub committed_told : (v a b : View M) (c : SeatOf M) (ticket made number moment at : ℕ) (command : M) (history longer : List (Entry M)) {x : List (ℕ × Slot M)}
      → a ≡ v → number ≡ a.number → TakesTurn a history → b ≡ in_turn ticket history made a → longer ≡ history ++ entry_of number moment command ∷ [] → c ≡ (after_leave (after_commit longer b), x) → at ≡ length history
      → Continues v c.0 × Commits v (entry_of v.number moment command) at c.0
  committed_told v a b c ticket made number moment at command history longer ea by t eb el ec eat =
      let e = entry_of number moment command in
      let w : c.0 ≡ after_leave (after_commit (history ++ e ∷ []) (in_turn ticket history made a)) = ap (λ (z : SeatOf M). z.0) ec
      ∙ (ap (λ (z : View M). after_leave (after_commit longer z)) eb ∙ ap (λ (z : List (Entry M)). after_leave (after_commit z (in_turn ticket history made a))) el) in
      subst (λ (z : View M × View M × Entry M × ℕ). Continues z.0 z.1 × Commits z.0 z.2 z.3 z.1)
      (λ i. (ea i, sym w i, entry_of ((by ∙ ap (λ (z : View M). z.number) ea) i) moment command, sym eat i))
      (commit_continues a ticket made history e by t, commits_entry a ticket made history e by t)

  pub left_told : (v a b : View M) (c : SeatOf M) (ticket made : ℕ) (history : List (Entry M)) {x : List (ℕ × Slot M)}
      → a ≡ v → TakesTurn a history → b ≡ in_turn ticket history made a → c ≡ (after_leave b, x) → Continues v c.0
  left_told v a b c ticket made history ea t eb ec = subst (λ (z : View M × View M). Continues z.0 z.1)
      (λ i. (ea i, sym (ap (λ (z : SeatOf M). z.0) ec ∙ ap (λ (z : View M). after_leave z) eb) i)) (left_continues a ticket made history t)

  pub split_told : (v a b s : View M) (c : SeatOf M) (ticket made : ℕ) (history : List (Entry M)) {x : List (ℕ × Slot M)}
      → a ≡ v → TakesTurn a history → b ≡ in_turn ticket history made a → s ≡ after_split b → c ≡ (after_leave s, x) → Continues v c.0
  split_told v a b s c ticket made history ea t eb es ec = subst (λ (z : View M × View M). Continues z.0 z.1)
      (λ i. (ea i, sym (ap (λ (z : SeatOf M). z.0) ec ∙ (ap (λ (z : View M). after_leave z) es ∙ ap (λ (z : View M). after_leave (after_split z)) eb)) i)) (split_continues a ticket made history t)
