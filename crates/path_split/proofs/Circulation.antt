-- A cheapest flow has no circulation below it.
use Rattle.std.proofs.Common.{ℕ, zero, suc, ◌+◌, ◌-◌, ◌*◌, ◌<◌, ◌≤◌, ◌≡◌, Bool, true, false, cond, List, [], ◌∷◌, sym, refl, ap, ◌∙◌, ⊎_elim, arith, length}
use Rattle.std.specs.Prelude.{All, AllPairs, sum_by, zip, nat_eq, min, slice_index_or}
use Rattle.std.proofs.lemmas.Bool.{cases_eq, eq-eqb, ne_eqb}
use Rattle.std.proofs.lemmas.List.Elements.{All-head, All-tail, All-cons, All-nil}
use Rattle.std.proofs.lemmas.List.Sums.{sum_by-cons, get_or-le-sum_by}
use Rattle.flow_model.specs.declared.instance.Arc.{Arc}
use Rattle.flow_model.specs.Instance.{Net, IsInstance, no_arc}
use Rattle.flow_model.specs.Flow.{IsFeasible, IsCheapest, leaving, entering, units_of, loads}
use Rattle.flow_model.proofs.Balance.{sum_below, below_same, below_add, below_none, below_point, at_node, at_node-same, at_node-other, All-zip}
use Rattle.path_split.specs.declared.edge.Edge.{Edge}
use Rattle.path_split.specs.Path.{HasArc}
use Rattle.path_split.specs.Edges.{weighted_flow}
use Rattle.path_split.specs.Walk.{weighted_sum, leaves, enters, over, whole}

pub at_node-times : (u x v : ℕ) → at_node u x v ≡ x * at_node u 1 v
at_node-times u x v = by (nat_eq u v)
  where
    by : (b : Bool) → cond b x 0 ≡ x * cond b 1 0
    by true = omega arith
    by false = omega arith

pub sum_by-same : {X : Type 0} (f g : X → ℕ) (xs : List X) → All (λ x. f x ≡ g x) xs → sum_by f xs ≡ sum_by g xs
sum_by-same f g [] same = refl
sum_by-same f g (x ∷ xs) same = omega (arith, sum_by-cons f x xs, sum_by-cons g x xs, All-head (λ y. f y ≡ g y) x xs same, sum_by-same f g xs (All-tail (λ y. f y ≡ g y) x xs same))

-- the sum over keys is the sum over the list
pub swapped_keys : {X : Type 0} (key amount : X → ℕ) (q : ℕ → ℕ) (n : ℕ) (xs : List X) → All (λ x. key x < n) xs → sum_below (λ v. q v * sum_by (λ x. at_node (key x) (amount x) v) xs) n ≡ sum_by (λ x. amount x * q (key x)) xs
swapped_keys key amount q n [] all = below_none (λ v. q v * 0) n (λ v l. omega arith)
swapped_keys {X} key amount q n (x ∷ xs) all =
    let f : ℕ → List X → ℕ = λ v ys. sum_by (λ y. at_node (key y) (amount y) v) ys in
    let one = below_point q (key x) (amount x) n (All-head (λ y. key y < n) x xs all) in
    let rest = swapped_keys key amount q n xs (All-tail (λ y. key y < n) x xs all) in
    let split = below_same (λ v. q v * f v (x ∷ xs)) (λ v. q v * at_node (key x) (amount x) v + q v * f v xs) n (λ v k. ap (λ z. q v * z) (sum_by-cons (λ y. at_node (key y) (amount y) v) x xs) ∙ omega arith) in
    let added = below_add (λ v. q v * at_node (key x) (amount x) v) (λ v. q v * f v xs) n in
    omega (arith, split, added, one, rest, sum_by-cons (λ y. amount y * q (key y)) x xs)

below_all : {X : Type 0} (key : X → ℕ) (n : ℕ) (xs : List X) → sum_by (λ x. key x + 1) xs ≤ n → All (λ x. key x < n) xs
below_all key n xs le k d l = omega (arith, le, get_or-le-sum_by (λ x. key x + 1) xs k d l)

-- two lists with the same amounts at each key have the same sums of any weight of keys
pub same_keys : {X Y : Type 0} (kx ax : X → ℕ) (ky ay : Y → ℕ) (g : ℕ → ℕ) (xs : List X) (ys : List Y) → ((d : ℕ) → sum_by (λ x. at_node (kx x) (ax x) d) xs ≡ sum_by (λ y. at_node (ky y) (ay y) d) ys) → sum_by (λ x. ax x * g (kx x)) xs ≡ sum_by (λ y. ay y * g (ky y)) ys
same_keys kx ax ky ay g xs ys same =
    let n = sum_by (λ x. kx x + 1) xs + sum_by (λ y. ky y + 1) ys in
    let a = swapped_keys kx ax g n xs (below_all kx n xs (omega arith)) in
    let b = swapped_keys ky ay g n ys (below_all ky n ys (omega arith)) in
    let c = below_same (λ v. g v * sum_by (λ x. at_node (kx x) (ax x) v) xs) (λ v. g v * sum_by (λ y. at_node (ky y) (ay y) v) ys) n (λ v l. ap (λ m. g v * m) (same v)) in
    omega (arith, a, b, c)

-- a field of the first arc of a direction
abbrev pub first_of : (Arc → ℕ) → List Arc → ℕ → ℕ
first_of f [] d = 0
first_of f (a ∷ arcs) d = cond (nat_eq a.dir d) (f a) (first_of f arcs d)

pub agrees : (f : Arc → ℕ) (arcs : List Arc) → AllPairs (λ a b. a.dir ≡ b.dir → f a ≡ f b) arcs → All (λ a. f a ≡ first_of f arcs a.dir) arcs
agrees f [] pairs k d l = absurd (omega arith)
agrees f (a ∷ arcs) pairs zero d l = sym (ap (λ b. cond b (f a) (first_of f arcs a.dir)) (eq-eqb a.dir a.dir refl))
agrees f (a ∷ arcs) pairs (suc k) d l =
    let b = slice_index_or arcs k d in
    let rest = agrees f arcs (λ i j e m n. pairs (suc i) (suc j) e (omega arith) (omega arith)) k d (omega arith) in
    ⊎_elim
    (λ (e : a.dir ≡ b.dir). sym (pairs 0 (suc k) d (omega arith) l e) ∙ sym (ap (λ c. cond c (f a) (first_of f arcs b.dir)) (eq-eqb a.dir b.dir e)))
    (λ (ne : a.dir ≡ b.dir → ⊥). rest ∙ sym (ap (λ c. cond c (f a) (first_of f arcs b.dir)) (ne_eqb a.dir b.dir ne)))
    (cases_eq a.dir b.dir)

-- a circulation's share of each arc, in order, and what is left over
abbrev pub share : (ℕ → ℕ) → List Arc → List ℕ → List ℕ
share c [] flow = []
share c (a ∷ arcs) [] = []
share c (a ∷ arcs) (x ∷ flow) = min x (c a.dir) ∷ share (λ d. c d - at_node a.dir (min x (c a.dir)) d) arcs flow

abbrev pub over_share : (ℕ → ℕ) → List Arc → List ℕ → List ℕ
over_share c [] flow = []
over_share c (a ∷ arcs) [] = []
over_share c (a ∷ arcs) (x ∷ flow) = (x - min x (c a.dir)) ∷ over_share (λ d. c d - at_node a.dir (min x (c a.dir)) d) arcs flow

module _ (w : Arc → ℕ) where
  pub share_splits : (c : ℕ → ℕ) (arcs : List Arc) (flow : List ℕ) → sum_by (λ (l : Arc × ℕ). l.1 * w l.0) (zip arcs flow) ≡ sum_by (λ (l : Arc × ℕ). l.1 * w l.0) (zip arcs (over_share c arcs flow)) + sum_by (λ (l : Arc × ℕ). l.1 * w l.0) (zip arcs (share c arcs flow))
  share_splits c [] flow = refl
  share_splits c (a ∷ arcs) [] = refl
  share_splits c (a ∷ arcs) (x ∷ flow) =
      let f : Arc × ℕ → ℕ = λ l. l.1 * w l.0 in
      let m = min x (c a.dir) in
      let next : ℕ → ℕ = λ d. c d - at_node a.dir (min x (c a.dir)) d in
      let e : x ≡ x - m + m = omega arith in
      let p = ap (λ n. n * w a) e in
      omega (arith, p, share_splits next arcs flow, sum_by-cons f (a, x) (zip arcs flow), sum_by-cons f (a, x - m) (zip arcs (over_share next arcs flow)), sum_by-cons f (a, m) (zip arcs (share next arcs flow)))

pub length-over_share : (c : ℕ → ℕ) (arcs : List Arc) (flow : List ℕ) → length flow ≡ length arcs → length (over_share c arcs flow) ≡ length arcs
length-over_share c [] flow long = refl
length-over_share c (a ∷ arcs) [] long = absurd (omega arith)
length-over_share c (a ∷ arcs) (x ∷ flow) long = let rest = length-over_share (λ d. c d - at_node a.dir (min x (c a.dir)) d) arcs flow (omega arith) in omega (arith, rest)

pub fits-over_share : (c : ℕ → ℕ) (arcs : List Arc) (flow : List ℕ) → All (λ (l : Arc × ℕ). l.1 ≤ l.0.room) (zip arcs flow) → All (λ (l : Arc × ℕ). l.1 ≤ l.0.room) (zip arcs (over_share c arcs flow))
fits-over_share c [] flow fits = All-nil (λ (l : Arc × ℕ). l.1 ≤ l.0.room)
fits-over_share c (a ∷ arcs) [] fits = All-nil (λ (l : Arc × ℕ). l.1 ≤ l.0.room)
fits-over_share c (a ∷ arcs) (x ∷ flow) fits =
    let P : Arc × ℕ → Type 0 = λ l. l.1 ≤ l.0.room in
    let next : ℕ → ℕ = λ d. c d - at_node a.dir (min x (c a.dir)) d in
    let h = All-head P (a, x) (zip arcs flow) fits in
    All-cons P (a, x - min x (c a.dir)) (zip arcs (over_share next arcs flow)) (omega (arith, h)) (fits-over_share next arcs flow (All-tail P (a, x) (zip arcs flow) fits))

pub units-share : (d : ℕ) (c : ℕ → ℕ) (arcs : List Arc) (flow : List ℕ) → units_of d (zip arcs (share c arcs flow)) ≡ min (c d) (units_of d (zip arcs flow))
units-share d c [] flow = omega arith
units-share d c (a ∷ arcs) [] = omega arith
units-share d c (a ∷ arcs) (x ∷ flow) =
    let m = min x (c a.dir) in
    let next : ℕ → ℕ = λ e. c e - at_node a.dir (min x (c a.dir)) e in
    let rest = units-share d next arcs flow in
    let c1 = sum_by-cons (λ (l : Arc × ℕ). at_node l.0.dir l.1 d) (a, m) (zip arcs (share next arcs flow)) in
    let c2 = sum_by-cons (λ (l : Arc × ℕ). at_node l.0.dir l.1 d) (a, x) (zip arcs flow) in
    ⊎_elim
    (λ (e : a.dir ≡ d). let s1 = at_node-same a.dir (min x (c a.dir)) in let s2 = at_node-same a.dir x in let t1 = ap (at_node a.dir (min x (c a.dir))) e in let t2 = ap (at_node a.dir x) e in let t3 = ap c e in omega (arith, rest, c1, c2, s1, s2, t1, t2, t3))
    (λ (ne : a.dir ≡ d → ⊥). omega (arith, rest, c1, c2, at_node-other a.dir (min x (c a.dir)) d ne, at_node-other a.dir x d ne))
    (cases_eq a.dir d)

pub costs_most : (ls : List (Arc × ℕ)) → All (λ (l : Arc × ℕ). 1 ≤ l.0.cost) ls → sum_by (λ (l : Arc × ℕ). l.1 * 1) ls ≤ sum_by (λ (l : Arc × ℕ). l.1 * l.0.cost) ls
costs_most [] some = omega arith
costs_most (l ∷ ls) some =
    let one : 1 ≤ l.0.cost = All-head (λ (k : Arc × ℕ). 1 ≤ k.0.cost) l ls some in
    let e : l.0.cost ≡ 1 + (l.0.cost - 1) = omega arith in
    let p = ap (λ m. l.1 * m) e in
    omega (arith, p, costs_most ls (All-tail (λ (k : Arc × ℕ). 1 ≤ k.0.cost) l ls some), sum_by-cons (λ (k : Arc × ℕ). k.1 * 1) l ls, sum_by-cons (λ (k : Arc × ℕ). k.1 * k.0.cost) l ls)

-- the words of flows are sums of weights
pub leaving-weighs : (v : ℕ) (ls : List (Arc × ℕ)) → leaving v ls ≡ weighted_flow (leaves v) ls
leaving-weighs v ls = sum_by-same (λ (l : Arc × ℕ). at_node l.0.from l.1 v) (λ (l : Arc × ℕ). l.1 * at_node l.0.from 1 v) ls (λ k d l. at_node-times _ _ v)

pub entering-weighs : (v : ℕ) (ls : List (Arc × ℕ)) → entering v ls ≡ weighted_flow (enters v) ls
entering-weighs v ls = sum_by-same (λ (l : Arc × ℕ). at_node l.0.to l.1 v) (λ (l : Arc × ℕ). l.1 * at_node l.0.to 1 v) ls (λ k d l. at_node-times _ _ v)

pub units-weighs : (d : ℕ) (ls : List (Arc × ℕ)) → units_of d ls ≡ weighted_flow (over d) ls
units-weighs d ls = sum_by-same (λ (l : Arc × ℕ). at_node l.0.dir l.1 d) (λ (l : Arc × ℕ). l.1 * at_node l.0.dir 1 d) ls (λ k e l. at_node-times _ _ d)

abbrev pub IsOver : List Arc → Edge × ℕ → Type 0
IsOver arcs l = HasArc arcs l.0.dir l.0.from l.0.to

module _ (net : Net) (flow : List ℕ) (c : List (Edge × ℕ)) (good : IsInstance net) (best : IsCheapest net flow) (known : All (IsOver net.arcs) c) (round : (v : ℕ) → v < net.nodes → weighted_sum (leaves v) c ≡ weighted_sum (enters v) c) (below : (d : ℕ) → weighted_sum (over d) c ≤ units_of d (loads net flow)) where
  abbrev left : ℕ → ℕ
  left d = weighted_sum (over d) c

  abbrev froms : ℕ → ℕ
  froms = first_of (λ a. a.from) net.arcs

  abbrev tos : ℕ → ℕ
  tos = first_of (λ a. a.to) net.arcs

  of_arcs : (f : Arc → ℕ) → AllPairs (λ a b. a.dir ≡ b.dir → f a ≡ f b) net.arcs → (g : ℕ → ℕ) (xs : List ℕ) → sum_by (λ (l : Arc × ℕ). l.1 * g (f l.0)) (zip net.arcs xs) ≡ sum_by (λ (l : Arc × ℕ). l.1 * g (first_of f net.arcs l.0.dir)) (zip net.arcs xs)
  of_arcs f pairs g xs = sum_by-same _ _ (zip net.arcs xs) (λ k d l. ap (λ m. (slice_index_or (zip net.arcs xs) k d).1 * g m) (All-zip (λ a. f a ≡ first_of f net.arcs a.dir) net.arcs xs (agrees f net.arcs pairs) k d l))

  same_dirs : (d : ℕ) → sum_by (λ (l : Arc × ℕ). at_node l.0.dir l.1 d) (zip net.arcs (share left net.arcs flow)) ≡ sum_by (λ (l : Edge × ℕ). at_node l.0.dir l.1 d) c
  same_dirs d =
      let a = units-share d left net.arcs flow in
      let b = sum_by-same (λ (l : Edge × ℕ). at_node l.0.dir l.1 d) (λ (l : Edge × ℕ). l.1 * at_node l.0.dir 1 d) c (λ k e l. at_node-times _ _ d) in
      omega (arith, a, b, below d)

  by_dirs : (g : ℕ → ℕ) → sum_by (λ (l : Arc × ℕ). l.1 * g l.0.dir) (zip net.arcs (share left net.arcs flow)) ≡ sum_by (λ (l : Edge × ℕ). l.1 * g l.0.dir) c
  by_dirs g = same_keys (λ (l : Arc × ℕ). l.0.dir) (λ l. l.1) (λ (l : Edge × ℕ). l.0.dir) (λ l. l.1) g (zip net.arcs (share left net.arcs flow)) c same_dirs

  from_pairs : AllPairs (λ a b. a.dir ≡ b.dir → a.from ≡ b.from) net.arcs
  from_pairs i j d l k e = (good.dearer i j d l k e).0

  to_pairs : AllPairs (λ a b. a.dir ≡ b.dir → a.to ≡ b.to) net.arcs
  to_pairs i j d l k e = (good.dearer i j d l k e).1

  edge_from : All (λ (l : Edge × ℕ). l.0.from ≡ froms l.0.dir) c
  edge_from k d l =
      let h = known k d l in
      sym h.starts ∙ agrees (λ a. a.from) net.arcs from_pairs h.at no_arc h.within ∙ ap froms h.of_dir

  edge_to : All (λ (l : Edge × ℕ). l.0.to ≡ tos l.0.dir) c
  edge_to k d l =
      let h = known k d l in
      sym h.ends ∙ agrees (λ a. a.to) net.arcs to_pairs h.at no_arc h.within ∙ ap tos h.of_dir

  shared_from : (v : ℕ) → leaving v (zip net.arcs (share left net.arcs flow)) ≡ weighted_sum (leaves v) c
  shared_from v =
      leaving-weighs v (zip net.arcs (share left net.arcs flow)) ∙ of_arcs (λ a. a.from) from_pairs (λ u. at_node u 1 v) (share left net.arcs flow) ∙ by_dirs (λ d. at_node (froms d) 1 v) ∙ sym (sum_by-same (λ (l : Edge × ℕ). l.1 * at_node l.0.from 1 v) (λ (l : Edge × ℕ). l.1 * at_node (froms l.0.dir) 1 v) c (λ k d l. ap (λ u. (slice_index_or c k d).1 * at_node u 1 v) (edge_from k d l)))

  shared_to : (v : ℕ) → entering v (zip net.arcs (share left net.arcs flow)) ≡ weighted_sum (enters v) c
  shared_to v =
      entering-weighs v (zip net.arcs (share left net.arcs flow)) ∙ of_arcs (λ a. a.to) to_pairs (λ u. at_node u 1 v) (share left net.arcs flow) ∙ by_dirs (λ d. at_node (tos d) 1 v) ∙ sym (sum_by-same (λ (l : Edge × ℕ). l.1 * at_node l.0.to 1 v) (λ (l : Edge × ℕ). l.1 * at_node (tos l.0.dir) 1 v) c (λ k d l. ap (λ u. (slice_index_or c k d).1 * at_node u 1 v) (edge_to k d l)))

  abbrev rest : List ℕ
  rest = over_share left net.arcs flow

  split_from : (v : ℕ) → leaving v (loads net flow) ≡ leaving v (loads net rest) + weighted_sum (leaves v) c
  split_from v = omega (arith, leaving-weighs v (loads net flow), leaving-weighs v (loads net rest), leaving-weighs v (zip net.arcs (share left net.arcs flow)), shared_from v, share_splits (λ a. at_node a.from 1 v) left net.arcs flow)

  split_to : (v : ℕ) → entering v (loads net flow) ≡ entering v (loads net rest) + weighted_sum (enters v) c
  split_to v = omega (arith, entering-weighs v (loads net flow), entering-weighs v (loads net rest), entering-weighs v (zip net.arcs (share left net.arcs flow)), shared_to v, share_splits (λ a. at_node a.to 1 v) left net.arcs flow)

  feasible : IsFeasible net rest
  feasible =
      let old = best.feasible in
      record {
        long = length-over_share left net.arcs flow old.long;
        fits = fits-over_share left net.arcs flow old.fits;
        kept = λ v l s t. omega (arith, old.kept v l s t, split_from v, split_to v, round v l);
        sent = omega (arith, old.sent, split_from net.source, split_to net.source, round net.source good.ranges.ends.source_in);
      }

  pub no_circulation : weighted_sum whole c ≡ 0
  no_circulation =
      let least = best.least rest feasible in
      let costs = share_splits (λ a. a.cost) left net.arcs flow in
      let most = costs_most (zip net.arcs (share left net.arcs flow)) (All-zip (λ a. 1 ≤ a.cost) net.arcs (share left net.arcs flow) (λ k d l. (good.ranges.good_arcs k d l).some_cost)) in
      let weighted_units = by_dirs (λ d. 1) in
      omega (arith, least, costs, most, weighted_units)
