-- Loads of directions, hop by hop.
use Rattle.std.proofs.Common.{ℕ, suc, ◌+◌, ◌-◌, ◌<◌, ◌≤◌, ◌≡◌, ◌^◌, Bool, true, false, cond, List, [], ◌∷◌, ◌++◌, sym, refl, ap, ◌∙◌, subst, ⊎_elim, arith, length, take-suc}
use Rattle.std.specs.Prelude.{All, zip, set, take, drop, min, max, nat_eq, nat_lt, slice_index_or, ◌||◌, ◌&&◌}
use Rattle.std.proofs.lemmas.Bool.{cases_eq, cases_lt, eq-eqb, ne_eqb, lt-ltb, le-ltb}
use Rattle.std.proofs.lemmas.List.{get_or-set_same, get_or-set_other, get_or_past, append-nil, take-append-drop}
use Rattle.std.proofs.lemmas.Grind.{flat_map-append}
use Rattle.std.proofs.lemmas.List.Sums.{sum_by-cons, sum_by-append, sum_by_more_le}
use Rattle.std.proofs.lemmas.Slice.Zip.{get_or-zip, length-zip}
use lib.ListN.{length-set}
use Rattle.fee_backward.specs.declared.hop.Hop.{Hop}
use Rattle.round_rules.specs.declared.round.Route.{Route}
use Rattle.round_rules.specs.Amounts.{carried, carried_of, total_on, any_below, any_above}
use Rattle.limit_rounds.specs.declared.loads.Load.{Load}
use Rattle.limit_rounds.specs.Loads.{no_load, with_hop, load_after, load_on, load_at}

pub load_append : (d : ℕ) (load : Load) (xs ys : List (ℕ × Hop)) → load_after d load (xs ++ ys) ≡ load_after d (load_after d load xs) ys
load_append d load [] ys = refl
load_append d load (x ∷ xs) ys = load_append d (cond (nat_eq x.0 d) (with_hop load x.1.carried) load) xs ys

pub total_after : (d : ℕ) (load : Load) (ls : List (ℕ × Hop)) → (load_after d load ls).total ≡ load.total + total_on d ls
total_after d load [] = omega arith
total_after d load (l ∷ ls) =
    let rest = total_after d (cond (nat_eq l.0 d) (with_hop load l.1.carried) load) ls in
    let one = by (nat_eq l.0 d) in
    omega (arith, rest, one, sum_by-cons (λ (l : ℕ × Hop). cond (nat_eq l.0 d) l.1.carried 0) l ls)
  where
    by : (b : Bool) → (cond b (with_hop load l.1.carried) load).total ≡ load.total + cond b l.1.carried 0
    by true = refl
    by false = omega arith

lt_min : (a c m : ℕ) → nat_lt (min a c) m ≡ (nat_lt a m || nat_lt c m)
lt_min a c m = ⊎_elim
    (λ (l : a < m). lt-ltb (min a c) m (omega (arith, l)) ∙ sym (ap (λ b. b || nat_lt c m) (lt-ltb a m l)))
    (λ (g : m ≤ a). ⊎_elim
    (λ (l : c < m). lt-ltb (min a c) m (omega (arith, l)) ∙ sym (ap (λ b. b || nat_lt c m) (le-ltb a m g) ∙ lt-ltb c m l))
    (λ (k : m ≤ c). le-ltb (min a c) m (omega (arith, g, k)) ∙ sym (ap (λ b. b || nat_lt c m) (le-ltb a m g) ∙ le-ltb c m k))
    (cases_lt c m))
    (cases_lt a m)

lt_max : (m a c : ℕ) → nat_lt m (max a c) ≡ (nat_lt m a || nat_lt m c)
lt_max m a c = ⊎_elim
    (λ (l : m < a). lt-ltb m (max a c) (omega (arith, l)) ∙ sym (ap (λ b. b || nat_lt m c) (lt-ltb m a l)))
    (λ (g : a ≤ m). ⊎_elim
    (λ (l : m < c). lt-ltb m (max a c) (omega (arith, l)) ∙ sym (ap (λ b. b || nat_lt m c) (le-ltb m a g) ∙ lt-ltb m c l))
    (λ (k : c ≤ m). le-ltb m (max a c) (omega (arith, g, k)) ∙ sym (ap (λ b. b || nat_lt m c) (le-ltb m a g) ∙ le-ltb m c k))
    (cases_lt m c))
    (cases_lt m a)

or_assoc : (a b c : Bool) → ((a || b) || c) ≡ (a || (b || c))
or_assoc true b c = refl
or_assoc false b c = refl

pub below_after : (d m : ℕ) (load : Load) (ls : List (ℕ × Hop)) → nat_lt (load_after d load ls).least m ≡ (nat_lt load.least m || any_below d m ls)
below_after d m load [] = by (nat_lt load.least m)
  where
    by : (b : Bool) → b ≡ (b || false)
    by true = refl
    by false = refl
below_after d m load (l ∷ ls) = below_after d m (cond (nat_eq l.0 d) (with_hop load l.1.carried) load) ls ∙ by (nat_eq l.0 d)
  where
    by : (b : Bool) → (nat_lt (cond b (with_hop load l.1.carried) load).least m || any_below d m ls) ≡ (nat_lt load.least m || ((b && nat_lt l.1.carried m) || any_below d m ls))
    by true = ap (λ x. x || any_below d m ls) (lt_min load.least l.1.carried m) ∙ or_assoc (nat_lt load.least m) (nat_lt l.1.carried m) (any_below d m ls)
    by false = refl

pub above_after : (d m : ℕ) (load : Load) (ls : List (ℕ × Hop)) → nat_lt m (load_after d load ls).most ≡ (nat_lt m load.most || any_above d m ls)
above_after d m load [] = by (nat_lt m load.most)
  where
    by : (b : Bool) → b ≡ (b || false)
    by true = refl
    by false = refl
above_after d m load (l ∷ ls) = above_after d m (cond (nat_eq l.0 d) (with_hop load l.1.carried) load) ls ∙ by (nat_eq l.0 d)
  where
    by : (b : Bool) → (nat_lt m (cond b (with_hop load l.1.carried) load).most || any_above d m ls) ≡ (nat_lt m load.most || ((b && nat_lt m l.1.carried) || any_above d m ls))
    by true = ap (λ x. x || any_above d m ls) (lt_max m load.most l.1.carried) ∙ or_assoc (nat_lt m load.most) (nat_lt m l.1.carried) (any_above d m ls)
    by false = refl

-- what a load says of all hops
pub total_load : (d : ℕ) (ls : List (ℕ × Hop)) → (load_on d ls).total ≡ total_on d ls
total_load d ls = let h = total_after d no_load ls in omega (arith, h)

pub below_load : (d m : ℕ) (ls : List (ℕ × Hop)) → m ≤ 2 ^ 64 - 1 → nat_lt (load_on d ls).least m ≡ any_below d m ls
below_load d m ls le = below_after d m no_load ls ∙ ap (λ b. b || any_below d m ls) (le-ltb (2 ^ 64 - 1) m le)

pub above_load : (d m : ℕ) (ls : List (ℕ × Hop)) → nat_lt m (load_on d ls).most ≡ any_above d m ls
above_load d m ls = above_after d m no_load ls ∙ ap (λ b. b || any_above d m ls) (le-ltb m 0 (omega arith))

-- the new loads are the old ones after these hops
pub record Adds (old new : List Load) (ls : List (ℕ × Hop)) : Type 0 where
  pub long : length new ≡ length old
  pub value : (d : ℕ) → d < length old → load_at new d ≡ load_after d (load_at old d) ls

pub adds_none : (old : List Load) (ls : List (ℕ × Hop)) → Adds old old (take 0 ls)
adds_none old ls = record { long = refl; value = λ d l. refl }

module _ (old new : List Load) (path : List ℕ) (hops : List Hop) (i : ℕ) (h : Hop) (l : i < length path) (long : length hops ≡ length path) (within : All (λ d. d < length old) path) (adds : Adds old new (take i (zip path hops))) where
  abbrev u : ℕ
  u = slice_index_or path i 0

  abbrev x : ℕ
  x = (slice_index_or hops i h).carried

  in_old : u < length old
  in_old = within i 0 l

  pub add_in : u < length new
  add_in = let a = in_old in let b = adds.long in omega (arith, a, b)

  more : (d : ℕ) (load : Load) → load_after d load (take (i + 1) (zip path hops)) ≡ cond (nat_eq u d) (with_hop (load_after d load (take i (zip path hops))) x) (load_after d load (take i (zip path hops)))
  more d load =
      let e : i + 1 ≡ suc i = omega arith in
      let z = get_or-zip path hops i (0, h) l (omega (arith, l, long)) in
      ap (λ n. load_after d load (take n (zip path hops))) e
      ∙ ap (load_after d load) (take-suc (zip path hops) i (0, h) (omega (arith, length-zip path hops, l, long)))
      ∙ load_append d load (take i (zip path hops)) (slice_index_or (zip path hops) i (0, h) ∷ [])
      ∙ ap (λ (y : ℕ × Hop). cond (nat_eq y.0 d) (with_hop (load_after d load (take i (zip path hops))) y.1.carried) (load_after d load (take i (zip path hops)))) z

  pub add_turn : Adds old (set new u (with_hop (load_at new u) x)) (take (i + 1) (zip path hops))
  add_turn = record {
    long = length-set new u (with_hop (load_at new u) x) ∙ adds.long;
    value = λ d ld. ⊎_elim
        (λ (e : u ≡ d).
        subst (λ n. load_at (set new u (with_hop (load_at new u) x)) n ≡ load_after n (load_at old n) (take (i + 1) (zip path hops))) e
        (get_or-set_same new u (with_hop (load_at new u) x) no_load add_in
        ∙ ap (λ y. with_hop y x) (adds.value u in_old)
        ∙ sym (more u (load_at old u) ∙ ap (λ b. cond b (with_hop (load_after u (load_at old u) (take i (zip path hops))) x) (load_after u (load_at old u) (take i (zip path hops)))) (eq-eqb u u refl))))
        (λ (ne : u ≡ d → ⊥).
        get_or-set_other new u d (with_hop (load_at new u) x) no_load (λ q. ne (sym q))
        ∙ adds.value d ld
        ∙ sym (more d (load_at old d) ∙ ap (λ b. cond b (with_hop (load_after d (load_at old d) (take i (zip path hops))) x) (load_after d (load_at old d) (take i (zip path hops)))) (ne_eqb u d ne)))
        (cases_eq u d);
  }

  pub add_fits : ((d : ℕ) → (load_at old d).total + total_on d (zip path hops) < 2 ^ 128) → (load_at new u).total + x < 2 ^ 128
  add_fits fits =
      let v = ap (λ (y : Load). y.total) (adds.value u in_old) ∙ total_after u (load_at old u) (take i (zip path hops)) in
      let f = fits u in
      let le = sum_by_more_le (λ (l : ℕ × Hop). cond (nat_eq l.0 u) l.1.carried 0) (zip path hops) i (0, h) (omega (arith, length-zip path hops, l, long)) in
      let e = ap (λ (l : ℕ × Hop). cond (nat_eq l.0 u) l.1.carried 0) (get_or-zip path hops i (0, h) l (omega (arith, l, long))) in
      let c = ap {B = ℕ} (λ b. cond b x 0) (eq-eqb u u refl) in
      omega (arith, v, f, le, e, c)

carried_more : (routes : List Route) (i : ℕ) (r : Route) → i < length routes → carried (take (i + 1) routes) ≡ carried (take i routes) ++ carried_of (slice_index_or routes i r)
carried_more routes i r l =
    let plus : i + 1 ≡ suc i = omega arith in
    ap (λ n. carried (take n routes)) plus ∙ ap carried (take-suc routes i r l) ∙ flat_map-append carried_of (take i routes) (slice_index_or routes i r ∷ []) ∙ ap (λ xs. carried (take i routes) ++ xs) (append-nil (carried_of (slice_index_or routes i r)))

pub load_more : (routes : List Route) (i : ℕ) (r : Route) (d : ℕ) → i < length routes → load_on d (carried (take (i + 1) routes)) ≡ load_after d (load_on d (carried (take i routes))) (carried_of (slice_index_or routes i r))
load_more routes i r d l = ap (load_on d) (carried_more routes i r l) ∙ load_append d no_load (carried (take i routes)) (carried_of (slice_index_or routes i r))

total_more : (routes : List Route) (i : ℕ) (r : Route) (d : ℕ) → i < length routes → total_on d (carried (take (i + 1) routes)) ≡ total_on d (carried (take i routes)) + total_on d (carried_of (slice_index_or routes i r))
total_more routes i r d l = ap (total_on d) (carried_more routes i r l) ∙ sum_by-append (λ (l : ℕ × Hop). cond (nat_eq l.0 d) l.1.carried 0) (carried (take i routes)) (carried_of (slice_index_or routes i r))

total_within : (routes : List Route) (i : ℕ) (d : ℕ) → total_on d (carried (take i routes)) ≤ total_on d (carried routes)
total_within routes i d =
    let e = ap (λ rs. total_on d (carried rs)) (take-append-drop i routes) in
    let s = ap (total_on d) (flat_map-append carried_of (take i routes) (drop i routes)) ∙ sum_by-append (λ (l : ℕ × Hop). cond (nat_eq l.0 d) l.1.carried 0) (carried (take i routes)) (carried (drop i routes)) in
    omega (arith, e, s)

pub route_fits : (all : List Load) (routes : List Route) (i count : ℕ) (r : Route) → i < length routes → length all ≡ count → ((d : ℕ) → d < count → load_at all d ≡ load_on d (carried (take i routes))) → ((d : ℕ) → total_on d (carried routes) < 2 ^ 128) → (d : ℕ) → (load_at all d).total + total_on d (carried_of (slice_index_or routes i r)) < 2 ^ 128
route_fits all routes i count r l long value fits d =
    let a = total_more routes i r d l in
    let b = total_within routes (i + 1) d in
    let f = fits d in
    ⊎_elim
    (λ (k : d < count). let v = ap (λ (y : Load). y.total) (value d k) ∙ total_load d (carried (take i routes)) in omega (arith, a, b, f, v))
    (λ (k : count ≤ d). let z = ap (λ (y : Load). y.total) (get_or_past all d no_load (omega (arith, k, long))) in omega (arith, a, b, f, z))
    (cases_lt d count)

pub same_total : (d : ℕ) (path path' : List ℕ) (hops hops' : List Hop) → path ≡ path' → hops ≡ hops' → total_on d (zip path hops) ≡ total_on d (zip path' hops')
same_total d path path' hops hops' p q = ap (λ x. total_on d (zip x hops)) p ∙ ap (λ x. total_on d (zip path' x)) q

pub same_load : (d : ℕ) (load : Load) (path path' : List ℕ) (hops hops' : List Hop) → path ≡ path' → hops ≡ hops' → load_after d load (zip path hops) ≡ load_after d load (zip path' hops')
same_load d load path path' hops hops' p q = ap (λ x. load_after d load (zip x hops)) p ∙ ap (λ x. load_after d load (zip path' x)) q
