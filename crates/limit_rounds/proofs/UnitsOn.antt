-- Units of parts, direction by direction.
use Rattle.std.proofs.Common.{ℕ, ◌+◌, ◌<◌, ◌≤◌, ◌≡◌, ◌≢◌, ◌^◌, Bool, true, false, cond, List, [], ◌∷◌, sym, refl, ap, ◌∙◌, subst, ⊎_elim, arith, length}
use Rattle.std.proofs.Math.Bool.{or-true, or-false}
use Rattle.std.specs.Prelude.{All, sum_by, set, take, nat_eq, slice_index_or, ◌||◌}
use Rattle.std.specs.List.{list_any}
use Rattle.std.proofs.lemmas.Bool.{cases_eq, eq-eqb, ne_eqb}
use Rattle.std.proofs.lemmas.List.{get_or-set_same, get_or-set_other}
use Rattle.std.proofs.lemmas.List.Folds.{list_any_more}
use Rattle.std.proofs.lemmas.List.Sums.{sum_by-cons, sum_by_more, sum_by_more_le, sum_by-take-le}
use lib.ListN.{length-set}
use Rattle.plan_base.specs.declared.amount.TheConstants.{MAX}
use Rattle.path_split.specs.declared.part.Part.{Part}
use Rattle.path_split.specs.Parts.{units_on}
use Rattle.limit_rounds.specs.declared.units.Share.{Share}
use Rattle.limit_rounds.specs.Caps.{counted, no_share, share_at}

-- the shares after these directions of the part's path
abbrev pub share_after : Share → ℕ → ℕ → Bool → Share
share_after old units part passes = cond passes (record { units = old.units + units; part = part }) old

pub record Counts (old new : List Share) (units part : ℕ) (path : List ℕ) : Type 0 where
  pub long : length new ≡ length old
  pub value : (d : ℕ) → d < length old → share_at new d ≡ share_after (share_at old d) units part (list_any (nat_eq d) path)

pub counts_none : (old : List Share) (units part : ℕ) (path : List ℕ) → Counts old old units part (take 0 path)
counts_none old units part path = record { long = refl; value = λ d l. refl }

counted_once : (old : Share) (units part : ℕ) (b : Bool) → old.part < part → counted (share_after old units part b) units part ≡ record { units = old.units + units; part = part }
counted_once old units part true l = ap (λ b. cond b (record { units = old.units + units; part = part }) (record { units = old.units + units + units; part = part })) (eq-eqb part part refl)
counted_once old units part false l = ap (λ b. cond b old (record { units = old.units + units; part = part })) (ne_eqb old.part part (λ e. omega (arith, e, l)))

module _ (old new : List Share) (units part : ℕ) (path : List ℕ) (i : ℕ) (l : i < length path) (within : All (λ d. d < length old) path) (before : (d : ℕ) → d < length old → (share_at old d).part < part) (counts : Counts old new units part (take i path)) where
  abbrev u : ℕ
  u = slice_index_or path i 0

  in_old : u < length old
  in_old = within i 0 l

  pub count_in : u < length new
  count_in = let a = in_old in let b = counts.long in omega (arith, a, b)

  pub count_turn : Counts old (set new u (counted (share_at new u) units part)) units part (take (i + 1) path)
  count_turn = record {
    long = length-set new u (counted (share_at new u) units part) ∙ counts.long;
    value = λ d ld. ⊎_elim
        (λ (e : u ≡ d).
        subst (λ n. share_at (set new u (counted (share_at new u) units part)) n ≡ share_after (share_at old n) units part (list_any (nat_eq n) (take (i + 1) path))) e
        (get_or-set_same new u (counted (share_at new u) units part) no_share count_in
        ∙ ap (λ s. counted s units part) (counts.value u in_old)
        ∙ counted_once (share_at old u) units part (list_any (nat_eq u) (take i path)) (before u in_old)
        ∙ sym (ap (share_after (share_at old u) units part) (list_any_more (nat_eq u) path i 0 l ∙ ap (λ b. list_any (nat_eq u) (take i path) || b) (eq-eqb u u refl) ∙ or-true (list_any (nat_eq u) (take i path))))))
        (λ (ne : u ≡ d → ⊥).
        get_or-set_other new u d (counted (share_at new u) units part) no_share (λ q. ne (sym q))
        ∙ counts.value d ld
        ∙ sym (ap (share_after (share_at old d) units part) (list_any_more (nat_eq d) path i 0 l ∙ ap (λ b. list_any (nat_eq d) (take i path) || b) (ne_eqb d u (λ q. ne (sym q))) ∙ or-false (list_any (nat_eq d) (take i path)))))
        (cases_eq u d);
  }

  pub count_fits : ((d : ℕ) → d < length old → (share_at old d).units + units < 2 ^ 64) → (share_at new u).part ≢ part → (share_at new u).units + units < 2 ^ 64
  count_fits fits ne = by (list_any (nat_eq u) (take i path)) (counts.value u in_old)
    where
      by : (b : Bool) → share_at new u ≡ share_after (share_at old u) units part b → (share_at new u).units + units < 2 ^ 64
      by true e = absurd (ne (ap (λ (s : Share). s.part) e))
      by false e = let f = fits u in_old in let m = ap (λ (s : Share). s.units) e in omega (arith, f, m)

-- what is counted so far
pub record Counted (all : List Share) (count : ℕ) (parts : List Part) (i : ℕ) : Type 0 where
  pub long : length all ≡ count
  pub units : (d : ℕ) → d < count → (share_at all d).units ≡ units_on d (take i parts)
  pub part : (d : ℕ) → d < count → (share_at all d).part ≤ i

module _ (all more : List Share) (count : ℕ) (parts : List Part) (i : ℕ) (p : Part) (l : i < length parts) (so_far : Counted all count parts i) where
  pub part_fits : sum_by (λ (q : Part). q.units) parts ≤ MAX → (d : ℕ) → d < count → (share_at all d).units + (slice_index_or parts i p).units < 2 ^ 64
  part_fits most d ld =
      let u = so_far.units d ld in
      let on = units_le d (take i parts) in
      let s = sum_by_more (λ (q : Part). q.units) parts i p l in
      let le = sum_by_more_le (λ (q : Part). q.units) parts i p l in
      let a = take_sum in
      omega (arith, u, on, s, a, most)
    where
      units_le : (x : ℕ) (ps : List Part) → units_on x ps ≤ sum_by (λ (q : Part). q.units) ps
      units_le x [] = omega arith
      units_le x (q ∷ ps) =
          let a = sum_by-cons (λ (r : Part). cond (list_any (nat_eq x) r.path) r.units 0) q ps in
          let b = sum_by-cons (λ (r : Part). r.units) q ps in
          let c = by (list_any (nat_eq x) q.path) in
          omega (arith, a, b, c, units_le x ps)
        where
          by : (b : Bool) → cond b q.units 0 ≤ q.units
          by true = omega arith
          by false = omega arith

      take_sum : sum_by (λ (q : Part). q.units) (take (i + 1) parts) ≤ sum_by (λ (q : Part). q.units) parts
      take_sum = sum_by-take-le (λ (q : Part). q.units) parts (i + 1)

  pub part_turn : length more ≡ length all → ((d : ℕ) → d < length all → share_at more d ≡ share_after (share_at all d) (slice_index_or parts i p).units (i + 1) (list_any (nat_eq d) (slice_index_or parts i p).path)) → Counted more count parts (i + 1)
  part_turn same value = record {
    long = same ∙ so_far.long;
    units = λ d ld. let s = sum_by_more (λ (q : Part). cond (list_any (nat_eq d) q.path) q.units 0) parts i p l in let u = so_far.units d ld in by_units d (list_any (nat_eq d) (slice_index_or parts i p).path) (value d (in_all d ld)) u s;
    part = λ d ld. by_part d (list_any (nat_eq d) (slice_index_or parts i p).path) (value d (in_all d ld)) (so_far.part d ld);
  }
    where
      in_all : (d : ℕ) → d < count → d < length all
      in_all d ld = let n = so_far.long in omega (arith, n, ld)

      by_units : (d : ℕ) (b : Bool) → share_at more d ≡ share_after (share_at all d) (slice_index_or parts i p).units (i + 1) b → (share_at all d).units ≡ units_on d (take i parts) → units_on d (take (i + 1) parts) ≡ units_on d (take i parts) + cond b (slice_index_or parts i p).units 0 → (share_at more d).units ≡ units_on d (take (i + 1) parts)
      by_units d true e u s = let m = ap (λ (x : Share). x.units) e in omega (arith, m, u, s)
      by_units d false e u s = let m = ap (λ (x : Share). x.units) e in omega (arith, m, u, s)

      by_part : (d : ℕ) (b : Bool) → share_at more d ≡ share_after (share_at all d) (slice_index_or parts i p).units (i + 1) b → (share_at all d).part ≤ i → (share_at more d).part ≤ i + 1
      by_part d true e h = let m = ap (λ (x : Share). x.part) e in omega (arith, m)
      by_part d false e h = let m = ap (λ (x : Share). x.part) e in omega (arith, m, h)
