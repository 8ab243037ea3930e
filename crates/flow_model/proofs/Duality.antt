-- The two laws of weak duality: potentials bound every cost from below, a side bounds every flow from above.
use Rattle.std.proofs.Common.{ℕ, ◌+◌, ◌-◌, ◌*◌, ◌<◌, ◌≤◌, ◌≡◌, Bool, true, false, cond, List, [], ◌∷◌, sym, refl, ap, ◌∙◌, subst, ⊎_elim, arith}
use Rattle.std.specs.Prelude.{All, sum_by, zip, length, not, ◌&&◌, slice_index_or, pos, ℤ}
use Rattle.std.proofs.lemmas.Bool.{cases_lt}
use Rattle.std.proofs.lemmas.List.Elements.{All-head, All-tail, All-weaker}
use Rattle.std.proofs.lemmas.List.Sums.{sum_by-cons}
use Rattle.std.proofs.lemmas.Int.{ints}
use borrow.Author.Differences.{up, down}
use Rattle.flow_model.specs.declared.instance.Arc.{Arc}
use Rattle.flow_model.specs.Laws.{ShownIsCheapest, CutHasNoFlow}
use Rattle.flow_model.specs.Flow.{IsFeasible, loads, cost_of}
use Rattle.flow_model.specs.Potentials.{IsShown}
use Rattle.flow_model.specs.Side.{on_side, crossing}
use Rattle.flow_model.proofs.Balance.{out_sum, in_sum, balanced}

-- a sum of sums
pub sum_by-add : {X : Type 0} (f g h : X → ℕ) (xs : List X) → ((x : X) → f x ≡ g x + h x) → sum_by f xs ≡ sum_by g xs + sum_by h xs
sum_by-add f g h [] e = refl
sum_by-add f g h (x ∷ xs) e = omega (arith, sum_by-cons f x xs, sum_by-cons g x xs, sum_by-cons h x xs, e x, sum_by-add f g h xs e)

more : (d a b : ℕ) → a ≤ b → d * a ≤ d * b
more d a b le = grind arith

-- one arc: x units by the shown flow, y by the other
trade : (x y r a b : ℕ) → x ≤ r → y ≤ r → (x < r → b ≤ a) → (0 < x → a ≤ b) → x * a + y * b ≤ y * a + x * b
trade x y r a b xr yr left used = ⊎_elim
    (λ (l : y < x). let e : x ≡ y + (x - y) = omega arith in subst (λ z. z * a + y * b ≤ y * a + z * b) (sym e) (omega (arith, more (x - y) a b (used (omega arith)))))
    (λ (l : x ≤ y). ⊎_elim
    (λ (k : x < y). let e : y ≡ x + (y - x) = omega arith in subst (λ z. x * a + z * b ≤ z * a + x * b) (sym e) (omega (arith, more (y - x) b a (left (omega arith)))))
    (λ (k : y ≤ x). let e : y ≡ x = omega arith in subst (λ z. x * a + z * b ≤ z * a + x * b) (sym e) (omega arith))
    (cases_lt x y))
    (cases_lt y x)

-- all arcs
pub traded : (a b : Arc → ℕ) (arcs : List Arc) (f g : List ℕ) → length f ≡ length arcs → length g ≡ length arcs → All (λ (l : Arc × ℕ). l.1 ≤ l.0.room) (zip arcs f) → All (λ (l : Arc × ℕ). l.1 ≤ l.0.room) (zip arcs g) → All (λ (l : Arc × ℕ). l.1 < l.0.room → b l.0 ≤ a l.0) (zip arcs f) → All (λ (l : Arc × ℕ). 0 < l.1 → a l.0 ≤ b l.0) (zip arcs f) → sum_by (λ (l : Arc × ℕ). l.1 * a l.0) (zip arcs f) + sum_by (λ (l : Arc × ℕ). l.1 * b l.0) (zip arcs g) ≤ sum_by (λ (l : Arc × ℕ). l.1 * a l.0) (zip arcs g) + sum_by (λ (l : Arc × ℕ). l.1 * b l.0) (zip arcs f)
traded a b [] f g lf lg rf rg left used = omega arith
traded a b (k ∷ arcs) [] g lf lg rf rg left used = absurd (omega arith)
traded a b (k ∷ arcs) (x ∷ f) [] lf lg rf rg left used = absurd (omega arith)
traded a b (k ∷ arcs) (x ∷ f) (y ∷ g) lf lg rf rg left used =
    let room : Arc × ℕ → Type 0 = λ (l : Arc × ℕ). l.1 ≤ l.0.room in
    let low : Arc × ℕ → Type 0 = λ (l : Arc × ℕ). l.1 < l.0.room → b l.0 ≤ a l.0 in
    let high : Arc × ℕ → Type 0 = λ (l : Arc × ℕ). 0 < l.1 → a l.0 ≤ b l.0 in
    let wa : Arc × ℕ → ℕ = λ (l : Arc × ℕ). l.1 * a l.0 in
    let wb : Arc × ℕ → ℕ = λ (l : Arc × ℕ). l.1 * b l.0 in
    let one = trade x y k.room (a k) (b k) (All-head room (k, x) (zip arcs f) rf) (All-head room (k, y) (zip arcs g) rg) (All-head low (k, x) (zip arcs f) left) (All-head high (k, x) (zip arcs f) used) in
    let rest = traded a b arcs f g (omega arith) (omega arith) (All-tail room (k, x) (zip arcs f) rf) (All-tail room (k, y) (zip arcs g) rg) (All-tail low (k, x) (zip arcs f) left) (All-tail high (k, x) (zip arcs f) used) in
    omega (arith, one, rest, sum_by-cons wa (k, x) (zip arcs f), sum_by-cons wb (k, y) (zip arcs g), sum_by-cons wa (k, y) (zip arcs g), sum_by-cons wb (k, x) (zip arcs f))

-- what a potential adds and takes away
abbrev ups : List ℤ → ℕ → ℕ
ups p v = up (slice_index_or p v (pos 0))

abbrev downs : List ℤ → ℕ → ℕ
downs p v = down (slice_index_or p v (pos 0))

abbrev pays : List ℤ → Arc → ℕ
pays p a = a.cost + ups p a.from + downs p a.to

abbrev saves : List ℤ → Arc → ℕ
saves p a = ups p a.to + downs p a.from

paid : (p : List ℤ) (ls : List (Arc × ℕ)) → sum_by (λ (l : Arc × ℕ). l.1 * pays p l.0) ls ≡ sum_by (λ (l : Arc × ℕ). l.1 * l.0.cost) ls + out_sum (ups p) ls + in_sum (downs p) ls
paid p ls =
    let a : Arc × ℕ → ℕ = λ l. l.1 * l.0.cost in
    let b : Arc × ℕ → ℕ = λ l. l.1 * ups p l.0.from in
    let c : Arc × ℕ → ℕ = λ l. l.1 * downs p l.0.to in
    omega (arith, sum_by-add (λ (l : Arc × ℕ). l.1 * pays p l.0) (λ (l : Arc × ℕ). a l + b l) c ls (λ l. omega arith), sum_by-add (λ (l : Arc × ℕ). a l + b l) a b ls (λ l. refl))

saved : (p : List ℤ) (ls : List (Arc × ℕ)) → sum_by (λ (l : Arc × ℕ). l.1 * saves p l.0) ls ≡ in_sum (ups p) ls + out_sum (downs p) ls
saved p ls = sum_by-add (λ (l : Arc × ℕ). l.1 * saves p l.0) (λ (l : Arc × ℕ). l.1 * ups p l.0.to) (λ (l : Arc × ℕ). l.1 * downs p l.0.from) ls (λ l. omega arith)

pub shown_is_cheapest : ShownIsCheapest
shown_is_cheapest net flow p good shows = record { feasible = shows.feasible; least = least }
  where
    least : (other : List ℕ) → IsFeasible net other → cost_of net flow ≤ cost_of net other
    least other ok =
        let low : All (λ (l : Arc × ℕ). l.1 < l.0.room → saves p l.0 ≤ pays p l.0) (loads net flow) = All-weaker (IsShown p) (λ (l : Arc × ℕ). l.1 < l.0.room → saves p l.0 ≤ pays p l.0) (λ l h less. omega (arith, ints, h.0 less)) (loads net flow) shows.shown in
        let high : All (λ (l : Arc × ℕ). 0 < l.1 → pays p l.0 ≤ saves p l.0) (loads net flow) = All-weaker (IsShown p) (λ (l : Arc × ℕ). 0 < l.1 → pays p l.0 ≤ saves p l.0) (λ l h some. omega (arith, ints, h.1 some)) (loads net flow) shows.shown in
        let whole = traded (pays p) (saves p) net.arcs flow other shows.feasible.long ok.long shows.feasible.fits ok.fits low high in
        omega (arith, whole, paid p (loads net flow), paid p (loads net other), saved p (loads net flow), saved p (loads net other), balanced net flow good net.demand shows.feasible (ups p), balanced net other good net.demand ok (ups p), balanced net flow good net.demand shows.feasible (downs p), balanced net other good net.demand ok (downs p))

-- 1 on the side, 0 off it
abbrev pub inside : List Bool → ℕ → ℕ
inside side v = cond (on_side side v) 1 0

leaves : (x r : ℕ) (a b : Bool) → x ≤ r → x * cond a 1 0 ≤ x * cond b 1 0 + cond (a && not b) r 0
leaves x r true true le = omega arith
leaves x r true false le = omega arith
leaves x r false true le = omega arith
leaves x r false false le = omega arith

crossed : (side : List Bool) (arcs : List Arc) (f : List ℕ) → All (λ (l : Arc × ℕ). l.1 ≤ l.0.room) (zip arcs f) → out_sum (inside side) (zip arcs f) ≤ in_sum (inside side) (zip arcs f) + sum_by (crossing side) arcs
crossed side [] f fits = omega arith
crossed side (k ∷ arcs) [] fits = omega arith
crossed side (k ∷ arcs) (x ∷ f) fits =
    let room : Arc × ℕ → Type 0 = λ l. l.1 ≤ l.0.room in
    let one = leaves x k.room (on_side side k.from) (on_side side k.to) (All-head room (k, x) (zip arcs f) fits) in
    let rest = crossed side arcs f (All-tail room (k, x) (zip arcs f) fits) in
    omega (arith, one, rest, sum_by-cons (λ (l : Arc × ℕ). l.1 * inside side l.0.from) (k, x) (zip arcs f), sum_by-cons (λ (l : Arc × ℕ). l.1 * inside side l.0.to) (k, x) (zip arcs f), sum_by-cons (crossing side) k arcs)

pub cut_has_no_flow : CutHasNoFlow
cut_has_no_flow net side flow good cuts ok =
    let s : inside side net.source ≡ 1 = ap (λ b. cond b 1 0) cuts.source_on in
    let t : inside side net.destination ≡ 0 = ap (λ b. cond b 1 0) cuts.destination_off in
    let sent : inside side net.source * net.demand ≡ net.demand = ap (λ m. m * net.demand) s ∙ omega arith in
    let none : inside side net.destination * net.demand ≡ 0 = ap (λ m. m * net.demand) t ∙ omega arith in
    omega (arith, crossed side net.arcs flow ok.fits, balanced net flow good net.demand ok (inside side), sent, none, cuts.small)
