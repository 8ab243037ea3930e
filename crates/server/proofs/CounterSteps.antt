-- Each step of the counter keeps its rule.
use Rattle.std.proofs.Common.{◌≡◌, ℕ, zero, suc, ◌+◌, ◌%◌, ◌^◌, ◌<◌, ◌≤◌, List, [], ◌∷◌, ◌++◌, length, set, sym, refl, ap, ◌∙◌, subst, arith, length-set, length-append, ⊎_elim}
use Rattle.std.specs.List.{slice_index}
use Rattle.std.proofs.Math.Nat.{mod-eq_of_lt}
use Rattle.std.proofs.lemmas.Bool.Decides.{nat_tests}
use mathlib.Core.Option.{none, some, some-injective, some-ne-none}
use mathlib.Core.Logic.{dite}
use native.Mathlib.Decide.{ℕ_discrete, dec_le}
use lib.ListN.{get_elem?}
use Rattle.atomic_table.specs.Table.{State, Me, step, keeps, Allows, Splits, Joins}
use Rattle.atomic_table.proofs.Lists.{set_again, set_else}
use Rattle.turn_desk.specs.Numbers.{times_in}
use Rattle.turn_desk.specs.Rule.{total}
use Rattle.turn_desk.proofs.Numbers.{times-append, among_single, not_single, times_single}
use Rattle.turn_desk.proofs.Lists.{total_set, total-append, each_set, at_end}
use Rattle.server.specs.declared.limits.TheConstants.{WORKERS_MAX}
use Rattle.server.specs.declared.counter.Drawn.{Drawn}
use Rattle.server.specs.Counter.{above, kept_drawn, new_part, joined_drawn, spent_drawn, DrawnRule, CounterRule, draws, learns, learns_whole}

module _ {A : Type 0} where
  -- one of them is at most all
  pub total_has : (f : A → ℕ) (l : List A) (i : ℕ) (a : A) → get_elem? l i ≡ some a → f a ≤ total f l
  total_has f [] i a e = absurd (some-ne-none a (sym e))
  total_has f (x ∷ xs) zero a e = let s : f x ≡ f a = ap f (some-injective x a e) in omega arith
  total_has f (x ∷ xs) (suc i) a e = let h = total_has f xs i a e in omega arith

  total_le : (f g : A → ℕ) (l : List A) → ((i : ℕ) (a : A) → get_elem? l i ≡ some a → f a ≤ g a) → total f l ≤ total g l
  total_le f g [] h = omega arith
  total_le f g (x ∷ xs) h = let a : f x ≤ g x = h 0 x refl in let b = total_le f g xs (λ i a e. h (suc i) a e) in omega arith

  -- if g is 0 of each, so is f
  total_none : (f g : A → ℕ) (l : List A) → ((i : ℕ) (a : A) → get_elem? l i ≡ some a → g a ≡ 0 → f a ≡ 0) → total g l ≡ 0 → total f l ≡ 0
  total_none f g [] h z = refl
  total_none f g (x ∷ xs) h z = let a : f x ≡ 0 = h 0 x refl (omega arith) in let b = total_none f g xs (λ i a e. h (suc i) a e) (omega arith) in omega arith

  -- if g is 0 of all but one, so is f
  total_alone : (f g : A → ℕ) (l : List A) (i : ℕ) (v : A) → get_elem? l i ≡ some v → ((i : ℕ) (a : A) → get_elem? l i ≡ some a → g a ≡ 0 → f a ≡ 0) → total g l ≡ g v → total f l ≡ f v
  total_alone f g [] i v e h z = absurd (some-ne-none v (sym e))
  total_alone f g (x ∷ xs) zero v e h z = let s : g x ≡ g v = ap g (some-injective x v e) in let t : f x ≡ f v = ap f (some-injective x v e) in
      let b = total_none f g xs (λ i a e. h (suc i) a e) (omega arith) in omega arith
  total_alone f g (x ∷ xs) (suc i) v e h z = let l = total_has g xs i v e in let a : f x ≡ 0 = h 0 x refl (omega arith) in
      let b = total_alone f g xs i v e (λ i a e. h (suc i) a e) (omega arith) in omega arith

  each_more : (P : A → Type 0) (l : List A) (w : A) → P w → ((j : ℕ) (a : A) → get_elem? l j ≡ some a → P a) → (j : ℕ) (a : A) → get_elem? (l ++ w ∷ []) j ≡ some a → P a
  each_more P l w mine others j a e = ⊎_elim (λ (h : get_elem? l j ≡ some a). others j a h) (λ (h : (j ≡ length l) × (w ≡ a)). subst P h.1 mine) (at_end l w a j e)

pub above-append : (n : ℕ) (xs ys : List ℕ) → above n (xs ++ ys) ≡ above n xs + above n ys
above-append n [] ys = omega arith
above-append n (x ∷ xs) ys = omega (arith, above-append n xs ys)

pub above_one : (n x : ℕ) → n ≤ x → above n (x ∷ []) ≡ 1
above_one n x h = grind (arith, nat_tests)

pub above_none : (n x : ℕ) → x < n → above n (x ∷ []) ≡ 0
above_none n x h = grind (arith, nat_tests)

-- there are at most as many numbers that are no connection's as drawers
few_above_all : (connections : ℕ) (s : State (Unit {0}) Drawn) → CounterRule connections s → total (λ v. above connections v.numbers) s.views ≤ WORKERS_MAX + 1
few_above_all connections s r = let a = total_le (λ v. above connections v.numbers) (λ v. v.parts) s.views (λ i v e. (r.each i v e).few_above) in let b = r.parts in let c = r.splits in omega arith

pub draws_allowed : (connections slots id : ℕ) (me : Me (Unit {0}) Drawn) → above me.0.connections me.0.numbers < me.0.parts → Allows (CounterRule connections) slots id me 0 (λ k. (k + 1) % 2 ^ 64) (draws (step slots 0 1 0 none) me)
draws_allowed connections slots id me going s r len at fits = let v = me.0 in let n = r.word in let w : Drawn = record v { numbers = v.numbers ++ n ∷ [] } in let mine = r.each id v at in
    let known : v.connections ≡ connections = mine.connections_are (omega arith) in let may : above connections v.numbers < v.parts = subst (λ z. above z v.numbers < v.parts) known going in
    let f = few_above_all connections s r in let b = r.bound in let few = r.few in
    let word : slice_index s.words 0 ≡ n = ap (λ l. slice_index l 0) r.words in
    let counts : (k : ℕ) → total (λ u. times_in k u.numbers) (set s.views id w) ≡ total (λ u. times_in k u.numbers) s.views + times_in k (n ∷ []) = λ k.
    let x = total_set (λ (u : Drawn). times_in k u.numbers) s.views id v w at in omega (arith, times-append k v.numbers (n ∷ [])) in
    let overs : total (λ u. above connections u.numbers) (set s.views id w) ≡ total (λ u. above connections u.numbers) s.views + above connections (n ∷ []) =
    let x = total_set (λ (u : Drawn). above connections u.numbers) s.views id v w at in omega (arith, above-append connections v.numbers (n ∷ [])) in
    let at_most : above connections (n ∷ []) ≤ 1 = dite (dec_le connections n) (λ h. let x = above_one connections n h in omega arith) (λ h. let x = above_none connections n (omega arith) in omega arith) in (
      w,
      keeps,
      tt,
      record {
        word = n + 1;
        words = subst (λ (z : List ℕ). set z 0 ((slice_index z 0 + 1) % 2 ^ 64) ≡ (n + 1) ∷ []) (sym r.words) (ap (λ (k : ℕ). k ∷ []) (mod-eq_of_lt (omega arith)));
        each = each_set (DrawnRule connections) s.views id w record { spent = λ z. absurd (omega arith); few_above = let x = above-append connections v.numbers (n ∷ []) in omega arith; connections_are = mine.connections_are } (λ j a ne e. r.each j a e);
        once = λ k lt. let c = counts k in dite (ℕ_discrete k n) (λ e. let x = among_single k n e in let z = times_single k n in let y = r.unborn k (omega arith) in omega arith) (λ ne. let x = not_single k n ne in let y = r.once k (omega arith) in omega arith);
        unborn = λ k le. let c = counts k in let x = not_single k n (λ e. omega arith) in let y = r.unborn k (omega arith) in omega arith;
        parts = let x = total_set (λ (u : Drawn). u.parts) s.views id v w at in let y = r.parts in let z = length-set s.views id w in omega arith;
        splits = let x = total_set (λ (u : Drawn). u.splits) s.views id v w at in let y = r.splits in let z = length-set s.views id w in omega arith;
        bound = dite (dec_le connections n) (λ h. let x = above_one connections n h in omega arith) (λ h. let x = above_none connections n (omega arith) in omega arith);
        few = few;
      },
      subst (λ k. draws (step slots 0 1 0 none) me k (w, me.1)) (sym word)
          (refl, λ k h. dite (dec_le n k) (λ le. let x = r.unborn k le in let y = total_has (λ (u : Drawn). times_in k u.numbers) s.views id v at in absurd (omega arith)) (λ ne. omega arith)),
    )

same_words : (n : ℕ) (words : List ℕ) → words ≡ n ∷ [] → words ≡ set words 0 (slice_index words 0)
same_words n words e = subst (λ (z : List ℕ). z ≡ set z 0 (slice_index z 0)) (sym e) refl

pub learns_allowed : (connections slots id : ℕ) (me : Me (Unit {0}) Drawn) → Allows (CounterRule connections) slots id me 0 (λ k. k) (learns (step slots 0 0 0 none) me)
learns_allowed connections slots id me s r len at fits = let v = me.0 in let n = r.word in (
  v,
  keeps,
  tt,
  subst (CounterRule connections) (λ i. record { words = same_words n s.words r.words i; homes = s.homes; views = sym (set_again s.views id v at) i }) r,
  (refl, λ k. let x = total_has (λ (u : Drawn). times_in k u.numbers) s.views id v at in dite (dec_le n k) (λ le. let y = r.unborn k le in omega arith) (λ ne. let y = r.once k (omega arith) in omega arith)),
)

pub whole_allowed : (connections slots id : ℕ) (me : Me (Unit {0}) Drawn) → 0 < me.0.parts → WORKERS_MAX + 1 ≤ me.0.parts + me.0.splits → Allows (CounterRule connections) slots id me 0 (λ k. k) (learns_whole (step slots 0 0 0 none) me)
whole_allowed connections slots id me some_part all s r len at fits = let v = me.0 in let n = r.word in let mine = r.each id v at in
    let parts : total (λ u. u.parts) s.views ≡ v.parts = let a = total_has (λ (u : Drawn). u.parts) s.views id v at in let b = total_has (λ (u : Drawn). u.splits) s.views id v at in let c = r.parts in let d = r.splits in omega arith in
    let alone : (f : List ℕ → ℕ) → f [] ≡ 0 → total (λ (u : Drawn). f u.numbers) s.views ≡ f v.numbers =
    λ f none_of. total_alone (λ (u : Drawn). f u.numbers) (λ (u : Drawn). u.parts) s.views id v at (λ i a e z. ap f ((r.each i a e).spent z) ∙ none_of) parts in (
      v,
      keeps,
      tt,
      subst (CounterRule connections) (λ i. record { words = same_words n s.words r.words i; homes = s.homes; views = sym (set_again s.views id v at) i }) r,
      subst (λ k. learns_whole (step slots 0 0 0 none) me k (v, me.1)) (sym (ap (λ l. slice_index l 0) r.words)) (
        refl,
        record {
          word = n;
          once = λ k lt. sym (alone (times_in k) refl) ∙ r.once k lt;
          unborn = λ k le. sym (alone (times_in k) refl) ∙ r.unborn k le;
          bound = let x = alone (above connections) refl in let b = r.bound in subst (λ z. n ≤ z + above z v.numbers) (sym (mine.connections_are some_part)) (omega arith);
        },
      ),
    )

pub splits : (connections id : ℕ) (v : Drawn) → 0 < v.splits → 0 < v.parts → Splits (CounterRule connections) id v (kept_drawn v) (new_part v)
splits connections id v some_split some_part s r at = let mine = r.each id v at in let l = set s.views id (kept_drawn v) in
    let sums : (f : Drawn → ℕ) → total f (l ++ new_part v ∷ []) + f v ≡ total f s.views + f (kept_drawn v) + f (new_part v) = λ f.
    let x = total_set f s.views id v (kept_drawn v) at in let y = total-append f l (new_part v ∷ []) in omega arith in
    let len : length (l ++ new_part v ∷ []) ≡ length s.views + 1 = length-append l (new_part v ∷ []) ∙ ap (λ k. k + 1) (length-set s.views id (kept_drawn v)) in record {
      word = r.word;
      words = r.words;
      each = each_more (DrawnRule connections) l (new_part v) record { spent = λ z. refl; few_above = omega arith; connections_are = λ z. mine.connections_are some_part }
          (each_set (DrawnRule connections) s.views id (kept_drawn v) record { spent = mine.spent; few_above = mine.few_above; connections_are = mine.connections_are } (λ j a ne e. r.each j a e));
      once = λ k lt. let x = sums (λ u. times_in k u.numbers) in let y = r.once k lt in omega arith;
      unborn = λ k le. let x = sums (λ u. times_in k u.numbers) in let y = r.unborn k le in omega arith;
      parts = let x = sums (λ u. u.parts) in let y = r.parts in omega arith;
      splits = let x = sums (λ u. u.splits) in let y = r.splits in omega arith;
      bound = let x = sums (λ u. above connections u.numbers) in let y = r.bound in omega arith;
      few = r.few;
    }

pub joins : (connections id other : ℕ) (v w : Drawn) → 0 < v.parts → Joins (CounterRule connections) id v other w (joined_drawn v w) spent_drawn
joins connections id other v w some_part s r at apart bt = let mine = r.each id v at in let l = set s.views id (joined_drawn v w) in
    let theirs : DrawnRule connections w = r.each other w (sym (set_else s.views id other (joined_drawn v w) apart) ∙ bt) in
    let sums : (f : Drawn → ℕ) → total f (set l other spent_drawn) + f v + f w ≡ total f s.views + f (joined_drawn v w) + f spent_drawn = λ f.
    let x = total_set f s.views id v (joined_drawn v w) at in let y = total_set f l other w spent_drawn bt in omega arith in
    let len : length (set l other spent_drawn) ≡ length s.views = length-set l other spent_drawn ∙ length-set s.views id (joined_drawn v w) in record {
      word = r.word;
      words = r.words;
      each = each_set (DrawnRule connections) l other spent_drawn record { spent = λ z. refl; few_above = omega arith; connections_are = λ z. absurd (omega arith) }
          (λ j a ne e. each_set (DrawnRule connections) s.views id (joined_drawn v w) record { spent = λ z. absurd (omega arith); few_above = let x = above-append connections v.numbers w.numbers in let a = mine.few_above in let b = theirs.few_above in omega arith; connections_are = λ z. mine.connections_are some_part } (λ j a ne e. r.each j a e) j a e);
      once = λ k lt. let x = sums (λ u. times_in k u.numbers) in let z = times-append k v.numbers w.numbers in let y = r.once k lt in omega arith;
      unborn = λ k le. let x = sums (λ u. times_in k u.numbers) in let z = times-append k v.numbers w.numbers in let y = r.unborn k le in omega arith;
      parts = let x = sums (λ u. u.parts) in let y = r.parts in omega arith;
      splits = let x = sums (λ u. u.splits) in let y = r.splits in omega arith;
      bound = let x = sums (λ u. above connections u.numbers) in let z = above-append connections v.numbers w.numbers in let y = r.bound in omega arith;
      few = r.few;
    }
