-- The instance of a state is an instance.
use Rattle.std.proofs.Common.{ℕ, suc, ◌+◌, ◌*◌, ◌^◌, ◌<◌, ◌≤◌, ◌≡◌, Bool, true, false, cond, List, [], ◌∷◌, ◌++◌, refl, ⊎_elim, arith, length}
use Rattle.std.specs.Prelude.{All, AllPairs, min, nat_eq}
use Rattle.std.specs.Option.{option_map_or}
use Rattle.std.specs.Prelude.{Option, None, Some}
use Rattle.round_rules.specs.declared.round.Cap.{Cap}
use Rattle.std.proofs.lemmas.Bool.{cases_lt, eqb-false}
use Rattle.std.proofs.lemmas.List.{length-append}
use Rattle.std.proofs.lemmas.List.Elements.{All-head, All-tail, All-cons, All-nil, All-append, All-weaker}
use Rattle.std.proofs.lemmas.List.Kept.{AllPairs-cons}
use Rattle.plan_base.specs.declared.amount.TheConstants.{MAX}
use Rattle.flow_model.specs.declared.instance.Arc.{Arc}
use Rattle.flow_model.specs.Instance.{IsGoodArc, Dearer, StandTogether, IsInstance}
use Rattle.cost_pieces.specs.Pieces.{rooms_of}
use Rattle.path_split.proofs.Shares.{count_some}
use Rattle.view_build.specs.declared.view.ViewDir.{ViewDir}
use Rattle.layer.specs.declared.ask.Ask.{Ask}
use Rattle.view_build.specs.View.{ViewParts, IsGoodView, IsGoodViewDir}
use Rattle.round_rules.specs.State.{RoundState, IsGoodState}
use Rattle.round_rules.specs.Instance.{terms_of, arcs_with, arc_of, arcs_of_dir, arcs_from, demand_of, instance_of, find_cap, cap_in}
use Rattle.layer.specs.Ask.{IsGoodAsk}
use Rattle.cost_pieces.proofs.Rooms.{rooms_most}
use Rattle.cost_pieces.proofs.Slopes.{cost_rises}
use Rattle.limit_rounds.proofs.Costs.{cost_bounds}

-- what holds of each arc that is made of a room above 0 holds of all
with_all : (P : Arc → Type 0) (arc : ℕ → ℕ → Arc) (most piece : ℕ) (rooms : List ℕ) → ((p r : ℕ) → 1 ≤ r → r ≤ most → P (arc p r)) → All (λ r. r ≤ most) rooms → All P (arcs_with arc piece rooms)
with_all P arc most piece [] each le = All-nil P
with_all P arc most piece (r ∷ rooms) each le = by (nat_eq r 0) refl (with_all P arc most (suc piece) rooms each (All-tail (λ x. x ≤ most) r rooms le))
  where
    by : (b : Bool) → nat_eq r 0 ≡ b → All P (arcs_with arc (suc piece) rooms) → All P (cond b (arcs_with arc (suc piece) rooms) (arc piece r ∷ arcs_with arc (suc piece) rooms))
    by true e h = h
    by false e h = All-cons P (arc piece r) (arcs_with arc (suc piece) rooms) (let ne = eqb-false r 0 e in each piece r (⊎_elim (λ (k : 0 < r). omega (arith, k)) (λ (k : r ≤ 0). absurd (ne (omega (arith, k)))) (cases_lt 0 r)) (All-head (λ x. x ≤ most) r rooms le)) h

-- each arc and each later one, by their pieces
later : (R : Arc → Arc → Type 0) (arc : ℕ → ℕ → Arc) (p r q : ℕ) (rooms : List ℕ) → ((p q r s : ℕ) → p ≤ q → q < 8 → R (arc p r) (arc q s)) → p ≤ q → q + length rooms ≤ 8 → All (R (arc p r)) (arcs_with arc q rooms)
later R arc p r q [] each le few = All-nil (R (arc p r))
later R arc p r q (s ∷ rooms) each le few = by (nat_eq s 0) (later R arc p r (suc q) rooms each (omega (arith, le)) (omega (arith, few)))
  where
    by : (b : Bool) → All (R (arc p r)) (arcs_with arc (suc q) rooms) → All (R (arc p r)) (cond b (arcs_with arc (suc q) rooms) (arc q s ∷ arcs_with arc (suc q) rooms))
    by true h = h
    by false h = All-cons (R (arc p r)) (arc q s) (arcs_with arc (suc q) rooms) (each p q r s le (omega (arith, few))) h

pairs_with : (R : Arc → Arc → Type 0) (arc : ℕ → ℕ → Arc) (piece : ℕ) (rooms : List ℕ) → ((p q r s : ℕ) → p ≤ q → q < 8 → R (arc p r) (arc q s)) → piece + length rooms ≤ 8 → AllPairs R (arcs_with arc piece rooms)
pairs_with R arc piece [] each few = λ i j d l m. absurd (omega (arith, l, m))
pairs_with R arc piece (r ∷ rooms) each few = by (nat_eq r 0) (pairs_with R arc (suc piece) rooms each (omega (arith, few)))
  where
    by : (b : Bool) → AllPairs R (arcs_with arc (suc piece) rooms) → AllPairs R (cond b (arcs_with arc (suc piece) rooms) (arc piece r ∷ arcs_with arc (suc piece) rooms))
    by true h = h
    by false h = AllPairs-cons R (arc piece r) (arcs_with arc (suc piece) rooms) (later R arc piece r (suc piece) rooms each (omega arith) (omega (arith, few))) h

length_with : (arc : ℕ → ℕ → Arc) (piece : ℕ) (rooms : List ℕ) → length (arcs_with arc piece rooms) ≤ length rooms
length_with arc piece [] = omega arith
length_with arc piece (r ∷ rooms) = by (nat_eq r 0) (length_with arc (suc piece) rooms)
  where
    by : (b : Bool) → length (arcs_with arc (suc piece) rooms) ≤ length rooms → length (cond b (arcs_with arc (suc piece) rooms) (arc piece r ∷ arcs_with arc (suc piece) rooms)) ≤ suc (length rooms)
    by true h = omega (arith, h)
    by false h = omega (arith, h)

pairs_append : (R : Arc → Arc → Type 0) (xs ys : List Arc) → AllPairs R xs → AllPairs R ys → All (λ x. All (R x) ys) xs → AllPairs R (xs ++ ys)
pairs_append R [] ys px py cross = py
pairs_append R (x ∷ xs) ys px py cross = AllPairs-cons R x (xs ++ ys) (All-append (R x) xs ys (λ k d l. px 0 (suc k) d (omega arith) (omega (arith, l))) (All-head (λ z. All (R z) ys) x xs cross)) (pairs_append R xs ys (λ i j d l m. px (suc i) (suc j) d (omega (arith, l)) (omega (arith, m))) py (All-tail (λ z. All (R z) ys) x xs cross))

pub eight_rooms : (lo hi unit cap : ℕ) → length (rooms_of lo hi unit cap) ≡ 8
eight_rooms lo hi unit cap = refl

cap_most : (s : RoundState) (d m : ℕ) → cap_in s.caps d m ≤ m
cap_most s d m = from (find_cap s.caps d)
  where
    from : (o : Option Cap) → option_map_or (λ (c : Cap). min c.cap m) o m ≤ m
    from None = omega arith
    from (Some c) = omega arith

-- arcs stand in the order of their directions, and within one never get cheaper
abbrev InOrder : Arc → Arc → Type 0
InOrder a b = (a.dir ≤ b.dir) × Dearer a b

module _ (nodes amount : ℕ) (s : RoundState) (some : 1 ≤ amount) (most : amount ≤ MAX) (unit : 1 ≤ s.unit) (fee : s.fee_level ≤ 8) (delay : s.delay_level ≤ 5) where
  demand_most : demand_of amount s ≤ MAX
  demand_most = let c = count_some amount s.unit some unit in omega (arith, c, most)

  abbrev IsFit : ℕ → Arc → Type 0
  IsFit x a = (x ≤ a.dir) × (a.from < nodes) × (a.to < nodes) × IsGoodArc a

  block_good : (x : ℕ) (v : ViewDir) → x < 2 ^ 32 → IsGoodViewDir nodes v → All (λ (a : Arc). (a.dir ≡ x) × (a.from < nodes) × (a.to < nodes) × IsGoodArc a) (arcs_of_dir amount s x v)
  block_good x v small good = with_all (λ (a : Arc). (a.dir ≡ x) × (a.from < nodes) × (a.to < nodes) × IsGoodArc a) (arc_of amount s x v) (cap_in s.caps x (demand_of amount s)) 0 (rooms_of v.min v.max s.unit (cap_in s.caps x (demand_of amount s)))
      (λ p r some_room within.
      let c = cost_bounds p (terms_of amount v) s.fee_level s.delay_level fee delay (let x = good.delay in omega (arith, x)) good.bias_low good.bias_high in
      let m = cap_most s x (demand_of amount s) in
      let u = demand_most in
      (refl, good.from_in, good.to_in, record { apart = good.apart; some_room = some_room; most_room = omega (arith, within, m, u); some_cost = c.0; most_cost = c.1; direction = small }))
      (rooms_most v.min v.max s.unit (cap_in s.caps x (demand_of amount s)))

  block_pairs : (x : ℕ) (v : ViewDir) → AllPairs InOrder (arcs_of_dir amount s x v)
  block_pairs x v = pairs_with InOrder (arc_of amount s x v) 0 (rooms_of v.min v.max s.unit (cap_in s.caps x (demand_of amount s))) (λ p q r t le l. (omega arith, λ e. (refl, refl, cost_rises (terms_of amount v) p q s.fee_level s.delay_level le l))) (let h = eight_rooms v.min v.max s.unit (cap_in s.caps x (demand_of amount s)) in omega (arith, h))

  all_good : (x : ℕ) (dirs : List ViewDir) → x + length dirs ≤ 2 ^ 32 → All (IsGoodViewDir nodes) dirs → All (IsFit x) (arcs_from amount s x dirs)
  all_good x [] few good = All-nil (IsFit x)
  all_good x (v ∷ dirs) few good = All-append (IsFit x) (arcs_of_dir amount s x v) (arcs_from amount s (suc x) dirs)
      (All-weaker (λ (a : Arc). (a.dir ≡ x) × (a.from < nodes) × (a.to < nodes) × IsGoodArc a) (IsFit x) (λ a h. let e = h.0 in (omega (arith, e), h.1, h.2, h.3)) (arcs_of_dir amount s x v) (block_good x v (omega (arith, few)) (All-head (IsGoodViewDir nodes) v dirs good)))
      (All-weaker (IsFit (suc x)) (IsFit x) (λ a h. let e = h.0 in (omega (arith, e), h.1, h.2, h.3)) (arcs_from amount s (suc x) dirs) (all_good (suc x) dirs (omega (arith, few)) (All-tail (IsGoodViewDir nodes) v dirs good)))

  all_pairs : (x : ℕ) (dirs : List ViewDir) → x + length dirs ≤ 2 ^ 32 → All (IsGoodViewDir nodes) dirs → AllPairs InOrder (arcs_from amount s x dirs)
  all_pairs x [] few good = λ i j d l m. absurd (omega (arith, l, m))
  all_pairs x (v ∷ dirs) few good = pairs_append InOrder (arcs_of_dir amount s x v) (arcs_from amount s (suc x) dirs) (block_pairs x v) (all_pairs (suc x) dirs (omega (arith, few)) (All-tail (IsGoodViewDir nodes) v dirs good))
      (All-weaker (λ (a : Arc). (a.dir ≡ x) × (a.from < nodes) × (a.to < nodes) × IsGoodArc a) (λ a. All (InOrder a) (arcs_from amount s (suc x) dirs))
      (λ a h. All-weaker (IsFit (suc x)) (InOrder a) (λ b k. let e = h.0 in let f = k.0 in (omega (arith, e, f), λ g. absurd (omega (arith, e, f, g)))) (arcs_from amount s (suc x) dirs) (all_good (suc x) dirs (omega (arith, few)) (All-tail (IsGoodViewDir nodes) v dirs good)))
      (arcs_of_dir amount s x v) (block_good x v (omega (arith, few)) (All-head (IsGoodViewDir nodes) v dirs good)))

  all_few : (x : ℕ) (dirs : List ViewDir) → length (arcs_from amount s x dirs) ≤ length dirs * 8
  all_few x [] = omega arith
  all_few x (v ∷ dirs) =
      let rooms = rooms_of v.min v.max s.unit (cap_in s.caps x (demand_of amount s)) in
      let a = length-append (arcs_of_dir amount s x v) (arcs_from amount s (suc x) dirs) in
      let b = length_with (arc_of amount s x v) 0 rooms in
      let e = eight_rooms v.min v.max s.unit (cap_in s.caps x (demand_of amount s)) in
      let h = all_few (suc x) dirs in
      omega (arith, a, b, e, h)

-- where directions never fall, those of one direction stand together
together : (arcs : List Arc) → AllPairs InOrder arcs → StandTogether arcs
together arcs pairs i j k d ij jk l same =
    let a = (pairs i j d ij (omega (arith, jk, l))).0 in
    let b = (pairs j k d jk l).0 in
    omega (arith, a, b, same)

pub is_instance : (view : ViewParts) (ask : Ask) (s : RoundState) → IsGoodView view → IsGoodAsk ask → IsGoodState view ask s → IsInstance (instance_of view ask s)
is_instance view ask s seen good state =
    let unit = state.some_unit in
    let fee = state.fee in
    let delay = state.delay in
    let nodes = length view.nodes in
    let fit = all_good nodes ask.amount s good.some good.most unit fee delay 0 view.dirs (let f = seen.few_dirs in omega (arith, f)) seen.good in
    let pairs = all_pairs nodes ask.amount s good.some good.most unit fee delay 0 view.dirs (let f = seen.few_dirs in omega (arith, f)) seen.good in
    let few = all_few nodes ask.amount s good.some good.most unit fee delay 0 view.dirs in
    let c = count_some ask.amount s.unit good.some unit in
    let m = good.most in
    let fd = seen.few_dirs in
    let fn = seen.few_nodes in
    record {
      ranges = record {
        ends = record { source_in = seen.source_in; destination_in = seen.destination_in; apart = seen.ends_differ; froms = λ k d l. (fit k d l).1; tos = λ k d l. (fit k d l).2 };
        few_nodes = omega (arith, fn, fd);
        few_arcs = omega (arith, few, fd);
        some_demand = c.0;
        most_demand = omega (arith, c, m);
        good_arcs = λ k d l. (fit k d l).3;
      };
      dearer = λ i j d l k. (pairs i j d l k).1;
      together = together (arcs_from ask.amount s 0 view.dirs) pairs;
    }
