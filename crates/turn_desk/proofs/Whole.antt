-- A pass that has 0 and all that was made from it has every number, and the only pass has seen nothing but its own entries.
use Rattle.std.proofs.Common.{◌≡◌, ℕ, false, zero, suc, ◌<◌, ◌≤◌, List, [], ◌∷◌, sym, ap, ◌∙◌, subst, arith}
use Rattle.std.proofs.lemmas.List.Elements.{All-weaker}
use mathlib.Core.Option.{some}
use mathlib.Core.Logic.{dite}
use native.Mathlib.Decide.{ℕ_discrete, dec_le}
use lib.ListN.{get_elem?}
use Rattle.one_history.specs.declared.entry.Entry.{Entry}
use Rattle.one_history.specs.History.{entries_by}
use Rattle.turn_desk.specs.declared.view.View.{View}
use Rattle.turn_desk.specs.Numbers.{IsAmong}
use Rattle.turn_desk.specs.View.{numbers_of, numbers_in, IsOnlyPass}
use Rattle.turn_desk.specs.Closing.{HasAllMadeFrom}
use Rattle.turn_desk.specs.Rule.{Moment, ViewsRule}
use Rattle.turn_desk.proofs.Lists.{same_there}
use Rattle.turn_desk.proofs.Numbers.{is_single, among_single}
use Rattle.turn_desk.proofs.Entries.{entries_all}

module _ {M : Type 0} where
  -- by induction: k was made from a view with a lesser number, which is this view's, so it was made from this view
  pub whole : (now : Moment M) (views : List (View M)) (id : ℕ) (v : View M) → ViewsRule now views → get_elem? views id ≡ some v → v.spent ≡ false
      → IsAmong 0 (numbers_of v) → HasAllMadeFrom (numbers_of v) v → (b k : ℕ) → k < b → k < now.made → IsAmong k (numbers_of v)
  whole now views id v r at live first all zero k lb lt = absurd (omega arith)
  whole now views id v r at live first all (suc b) zero lb lt = first
  whole now views id v r at live first all (suc b) (suc k) lb lt = let g = r.made_from (suc k) (omega arith) lt in
      let o = ((r.each g.0 g.1 g.2).numbers g.3.0).made_later (suc k) g.3.1 in let less = o.2 in
      let mine = whole now views id v r at live first all b o.0 (omega arith) (omega arith) in
      dite (ℕ_discrete g.0 id)
      (λ e. all (suc k) (subst (λ (u : View M). IsAmong (suc k) u.made_from) (same_there views id g.0 v g.1 e g.2 at) g.3.1))
      (λ ne. let z = (r.pairs id g.0 v g.1 ne at g.2).numbers live g.3.0 o.0 mine in let h = o.1 in absurd (omega arith))

  -- nothing but the only pass was made
  only_one : (now : Moment M) (views : List (View M)) (id : ℕ) (v : View M) → ViewsRule now views → get_elem? views id ≡ some v → v.spent ≡ false → IsOnlyPass v → now.made ≤ 1
  only_one now views id v r at live only = let numbers : numbers_of v ≡ 0 ∷ [] = λ i. only.0 i ∷ numbers_in (only.2 i) in
      dite (dec_le now.made 1) (λ h. h) (λ ne.
      let w = whole now views id v r at live (subst (IsAmong 0) (sym numbers) (among_single 0 0 (λ i. 0))) (λ k h. let z = subst (IsAmong k) only.1 h in absurd (omega arith)) 2 1 (omega arith) (omega arith) in
      let z = is_single 1 0 (subst (IsAmong 1) numbers w) in absurd (omega arith))

  pub only_sees_own : (now : Moment M) (views : List (View M)) (id : ℕ) (v : View M) → ViewsRule now views → get_elem? views id ≡ some v → v.spent ≡ false → IsOnlyPass v → now.history ≡ v.calls
  only_sees_own now views id v r at live only = let few = only_one now views id v r at live only in
      sym (entries_all now.history (All-weaker (λ (e : Entry M). e.caller < now.made) (λ (e : Entry M). e.caller < 1) (λ e lt. omega arith) now.history r.callers))
      ∙ (ap (λ k. entries_by k now.history) (sym only.0) ∙ ((r.each id v at).own live).calls)
