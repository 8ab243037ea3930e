-- Turns of the loop that makes routes.
use Rattle.std.proofs.Common.{ℕ, suc, ◌+◌, ◌-◌, ◌*◌, ◌<◌, ◌≤◌, ◌≡◌, Bool, true, false, cond, List, [], ◌∷◌, ◌++◌, sym, ap, ◌∙◌, ⊎_elim, arith, length}
use Rattle.std.specs.Prelude.{All, sum_by, drop, nat_eq, slice_index_or}
use Rattle.std.proofs.Math.Seq.{drop-cons}
use Rattle.std.proofs.lemmas.Nat.{mul-le}
use Rattle.std.proofs.lemmas.Bool.{cases_eq, cases_lt, eq-eqb, ne_eqb}
use Rattle.std.proofs.lemmas.List.{append_assoc, drop_all}
use Rattle.std.proofs.lemmas.List.Sums.{sum_by_more, sum_by_more_le, get_or-le-sum_by}
use Rattle.path_split.specs.declared.part.Part.{Part}
use Rattle.layer.specs.declared.ask.Ask.{Ask}
use Rattle.round_rules.specs.declared.round.Route.{Route}
use Rattle.view_build.specs.View.{ViewParts}
use Rattle.round_rules.specs.Amounts.{route_of, routes_with}

pub no_part : Part
no_part = record { path = []; units = 0 }

module _ (parts : List Part) (demand unit amount i : ℕ) (d : Part) (sum : sum_by (λ (p : Part). p.units) parts ≡ demand) (some : All (λ (p : Part). 1 ≤ p.units) parts) (low : amount ≤ demand * unit) (high : demand * unit < amount + unit) (l : i < length parts) where
  abbrev u : ℕ
  u = (slice_index_or parts i d).units

  whole : u * unit ≤ demand * unit
  whole =
      let h = get_or-le-sum_by (λ (p : Part). p.units) parts i d l in
      let same : unit ≤ unit = omega arith in
      mul-le u unit demand unit (omega (arith, h, sum)) same

  two : i + 1 < length parts → u * unit + unit ≤ demand * unit
  two more =
      let a = sum_by_more (λ (p : Part). p.units) parts i d l in
      let b = sum_by_more_le (λ (p : Part). p.units) parts (i + 1) d more in
      let c = some (i + 1) d more in
      let same : unit ≤ unit = omega arith in
      let m = mul-le (u + 1) unit demand unit (omega (arith, a, b, c, sum)) same in
      omega (arith, m)

  pub product_most : u * unit < amount + unit
  product_most = let w = whole in omega (arith, w, high)

  pub cut_within : cond (nat_eq (i + 1) (length parts)) (demand * unit - amount) 0 ≤ u * unit
  cut_within = by (nat_eq (i + 1) (length parts))
    where
      one : unit ≤ u * unit
      one = let s = some i d l in let same : unit ≤ unit = omega arith in let m = mul-le 1 unit u unit s same in omega (arith, m)

      by : (b : Bool) → cond b (demand * unit - amount) 0 ≤ u * unit
      by true = let o = one in omega (arith, o, high, low)
      by false = omega arith

  pub delivers_most : u * unit - cond (nat_eq (i + 1) (length parts)) (demand * unit - amount) 0 ≤ amount
  delivers_most = ⊎_elim
      (λ (e : i + 1 ≡ length parts). let c = ap {B = ℕ} (λ b. cond b (demand * unit - amount) 0) (eq-eqb (i + 1) (length parts) e) in let w = whole in omega (arith, c, w, low))
      (λ (ne : i + 1 ≡ length parts → ⊥). let t = two (⊎_elim (λ (k : i + 1 < length parts). k) (λ (k : length parts ≤ i + 1). absurd (ne (omega (arith, k, l)))) (cases_lt (i + 1) (length parts))) in omega (arith, t, high))
      (cases_eq (i + 1) (length parts))

pub routes_turn : (view : ViewParts) (ask : Ask) (unit excess i : ℕ) (parts : List Part) (d : Part) (routes more : List Route) (r : Route) (whole : List Route) → i < length parts → r ≡ route_of view ask (slice_index_or parts i d).path ((slice_index_or parts i d).units * unit - cond (nat_eq (i + 1) (length parts)) excess 0) → more ≡ routes ++ r ∷ [] → routes ++ routes_with view ask unit excess (drop i parts) ≡ whole → more ++ routes_with view ask unit excess (drop (i + 1) parts) ≡ whole
routes_turn view ask unit excess i parts d routes more r whole l is grows old =
    ap (λ xs. xs ++ routes_with view ask unit excess (drop (i + 1) parts)) grows ∙ append_assoc routes (r ∷ []) (routes_with view ask unit excess (drop (i + 1) parts)) ∙ ap (λ xs. routes ++ xs) (sym step) ∙ old
  where
    p : Part
    p = slice_index_or parts i d

    e : suc i ≡ i + 1
    e = omega arith

    split : drop i parts ≡ slice_index_or parts i d ∷ drop (i + 1) parts
    split = drop-cons parts i d l ∙ ap (λ n. slice_index_or parts i d ∷ drop n parts) e

    last : i + 1 ≡ length parts → routes_with view ask unit excess (drop i parts) ≡ r ∷ routes_with view ask unit excess (drop (i + 1) parts)
    last f =
        let none : drop (i + 1) parts ≡ [] = drop_all (i + 1) parts (omega (arith, f)) in
        let c = ap {B = ℕ} (λ b. cond b excess 0) (eq-eqb (i + 1) (length parts) f) in
        ap (routes_with view ask unit excess) split ∙ ap (λ xs. routes_with view ask unit excess (slice_index_or parts i d ∷ xs)) none ∙ ap (λ n. route_of view ask (slice_index_or parts i d).path ((slice_index_or parts i d).units * unit - n) ∷ []) (sym c) ∙ ap (λ x. x ∷ []) (sym is) ∙ ap (λ xs. r ∷ routes_with view ask unit excess xs) (sym none)

    later : (i + 1 ≡ length parts → ⊥) → routes_with view ask unit excess (drop i parts) ≡ r ∷ routes_with view ask unit excess (drop (i + 1) parts)
    later ne =
        let k : i + 1 < length parts = ⊎_elim (λ (x : i + 1 < length parts). x) (λ (x : length parts ≤ i + 1). absurd (ne (omega (arith, x, l)))) (cases_lt (i + 1) (length parts)) in
        let c = ap {B = ℕ} (λ b. cond b excess 0) (ne_eqb (i + 1) (length parts) ne) in
        let next = drop-cons parts (i + 1) d k in
        let m : (slice_index_or parts i d).units * unit ≡ (slice_index_or parts i d).units * unit - cond (nat_eq (i + 1) (length parts)) excess 0 = omega (arith, c) in
        ap (routes_with view ask unit excess) split ∙ ap (λ xs. routes_with view ask unit excess (slice_index_or parts i d ∷ xs)) next ∙ ap (λ n. route_of view ask (slice_index_or parts i d).path n ∷ routes_with view ask unit excess (slice_index_or parts (i + 1) d ∷ drop (suc (i + 1)) parts)) m ∙ ap (λ x. x ∷ routes_with view ask unit excess (slice_index_or parts (i + 1) d ∷ drop (suc (i + 1)) parts)) (sym is) ∙ ap (λ xs. r ∷ routes_with view ask unit excess xs) (sym next)

    step : routes_with view ask unit excess (drop i parts) ≡ r ∷ routes_with view ask unit excess (drop (i + 1) parts)
    step = ⊎_elim last later (cases_eq (i + 1) (length parts))
