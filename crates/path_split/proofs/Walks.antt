-- Walks, and what taking units from their edges does.
use Rattle.std.proofs.Common.{ℕ, zero, suc, ◌+◌, ◌-◌, ◌*◌, ◌<◌, ◌≤◌, ◌≡◌, cond, List, [], ◌∷◌, ◌++◌, sym, refl, ap, ◌∙◌, subst, ◌⊎◌, ⊎_elim, arith, length}
use Rattle.std.specs.Prelude.{All, AllPairs, sum_by, zip, set, ◌≢◌, slice_index_or}
use Rattle.std.proofs.lemmas.Bool.{cases_eq, cases_lt, eq-eqb, ne_eqb}
use Rattle.std.proofs.lemmas.List.{get_or-set_other}
use Rattle.std.proofs.lemmas.List.Elements.{All-head, All-tail, All-cons, All-nil}
use Rattle.std.proofs.lemmas.List.Sums.{sum_by-cons, sum_by-set, get_or-le-sum_by}
use Rattle.std.proofs.lemmas.Slice.Zip.{get_or-zip, length-zip}
use lib.ListN.{length-set}
use Rattle.path_split.specs.declared.edge.Edge.{Edge}
use Rattle.path_split.specs.Walk.{CanLower, no_edge, edge_at, IsWalk, HasUnits, LeavesNodesOnce, HasNoCycle, amount_at, weighted_sum, leaves, enters, IsBalanced, lowered}
use Rattle.path_split.proofs.Circulation.{at_node-times}

zip-set : {X : Type 0} (xs : List X) (ys : List ℕ) (i y : ℕ) (d : X) → i < length xs → zip xs (set ys i y) ≡ set (zip xs ys) i (slice_index_or xs i d, y)
zip-set [] ys i y d l = absurd (omega arith)
zip-set (x ∷ xs) [] i y d l = refl
zip-set (x ∷ xs) (z ∷ ys) zero y d l = refl
zip-set (x ∷ xs) (z ∷ ys) (suc i) y d l = ap (λ r. (x, z) ∷ r) (zip-set xs ys i y d (omega arith))

-- a weight of an edge
abbrev pub weight : (ℕ → ℕ → ℕ → ℕ) → List Edge → ℕ → ℕ
weight q es i = q (edge_at es i).from (edge_at es i).dir (edge_at es i).to

pub weigh_set : (q : ℕ → ℕ → ℕ → ℕ) (es : List Edge) (left : List ℕ) (i y : ℕ) → length left ≡ length es → i < length es → weighted_sum q (zip es (set left i y)) + slice_index_or left i 0 * weight q es i ≡ weighted_sum q (zip es left) + y * weight q es i
weigh_set q es left i y long l =
    let w : Edge × ℕ → ℕ = λ l. l.1 * q l.0.from l.0.dir l.0.to in
    let s = sum_by-set w (zip es left) i (slice_index_or es i no_edge, y) (no_edge, 0) (omega (arith, length-zip es left)) in
    let at' = ap w (get_or-zip es left i (no_edge, 0) l (omega arith)) in
    let z = ap (sum_by w) (zip-set es left i y no_edge l) in
    omega (arith, s, at', z)

pub AllPairs-tail : {X : Type 0} (R : X → X → Type 0) (x : X) (xs : List X) → AllPairs R (x ∷ xs) → AllPairs R xs
AllPairs-tail R x xs pairs i j d l m = pairs (suc i) (suc j) d (omega arith) (omega arith)

pub AllPairs-head : {X : Type 0} (R : X → X → Type 0) (x : X) (xs : List X) → AllPairs R (x ∷ xs) → All (R x) xs
AllPairs-head R x xs pairs k d l = pairs 0 (suc k) d (omega arith) (omega arith)

abbrev pub AreDistinct : List ℕ → Type 0
AreDistinct path = AllPairs (λ i j. i ≢ j) path

pub lone_from_apart : (es : List Edge) (path : List ℕ) → LeavesNodesOnce es path → AreDistinct path
lone_from_apart es path apart i j d l m e = apart i j d l m (ap (λ k. (edge_at es k).from) e)

pub bears_from : (left : List ℕ) (k : ℕ) (path : List ℕ) → All (λ i. i < length left) path → All (λ i. k ≤ slice_index_or left i 0) path → AreDistinct path → CanLower left k path
bears_from left k [] within some lone = tt
bears_from left k (i ∷ path) within some lone =
    let here = All-head (λ j. j < length left) i path within in
    let y = slice_index_or left i 0 - k in
    let other = AllPairs-head (λ a b. a ≢ b) i path lone in (
      here,
      All-head (λ j. k ≤ slice_index_or left j 0) i path some,
      bears_from (set left i y) k path
          (λ m d l. let h = All-tail (λ j. j < length left) i path within m d l in omega (arith, h, length-set left i y))
          (λ m d l. let h = All-tail (λ j. k ≤ slice_index_or left j 0) i path some m d l in let o = get_or-set_other left i (slice_index_or path m d) y 0 (λ e. other m d l (sym e)) in omega (arith, h, o))
          (AllPairs-tail (λ a b. a ≢ b) i path lone),
    )

pub weigh_lowered : (q : ℕ → ℕ → ℕ → ℕ) (es : List Edge) (left : List ℕ) (k : ℕ) (path : List ℕ) → length left ≡ length es → CanLower left k path → weighted_sum q (zip es left) ≡ weighted_sum q (zip es (lowered left k path)) + k * sum_by (weight q es) path
weigh_lowered q es left k [] long bears = omega arith
weigh_lowered q es left k (i ∷ path) long bears =
    let x = slice_index_or left i 0 in
    let w = weight q es i in
    let le : k ≤ x = bears.1 in
    let e : x ≡ x - k + k = omega arith in
    let m = ap (λ n. n * w) e in
    let one = weigh_set q es left i (x - k) long (omega (arith, long, bears.0)) in
    let rest = weigh_lowered q es (set left i (x - k)) k path (length-set left i (x - k) ∙ long) bears.2 in
    let c = ap (λ n. k * n) (sum_by-cons (weight q es) i path) in
    omega (arith, one, m, rest, c)

pub length-lowered : (left : List ℕ) (k : ℕ) (path : List ℕ) → length (lowered left k path) ≡ length left
length-lowered left k [] = refl
length-lowered left k (i ∷ path) = length-lowered (set left i (slice_index_or left i 0 - k)) k path ∙ length-set left i (slice_index_or left i 0 - k)

set_le : (left : List ℕ) (i j k : ℕ) → slice_index_or (set left i (slice_index_or left i 0 - k)) j 0 ≤ slice_index_or left j 0
set_le [] i j k = omega arith
set_le (x ∷ left) zero zero k = omega arith
set_le (x ∷ left) zero (suc j) k = omega arith
set_le (x ∷ left) (suc i) zero k = omega arith
set_le (x ∷ left) (suc i) (suc j) k = set_le left i j k

pub lowered_le : (left : List ℕ) (k : ℕ) (path : List ℕ) (j : ℕ) → slice_index_or (lowered left k path) j 0 ≤ slice_index_or left j 0
lowered_le left k [] j = omega arith
lowered_le left k (i ∷ path) j = omega (arith, lowered_le (set left i (slice_index_or left i 0 - k)) k path j, set_le left i j k)

-- a walk leaves its start and enters its end once more than it enters and leaves them
pub walk_ends : (es : List Edge) (u w v : ℕ) (path : List ℕ) → IsWalk es u path w → sum_by (weight (leaves v) es) path + amount_at w 1 v ≡ sum_by (weight (enters v) es) path + amount_at u 1 v
walk_ends es u w v [] e = let f = ap (λ n. amount_at n 1 v) e in omega (arith, f)
walk_ends es u w v (i ∷ path) h =
    let rest = walk_ends es (edge_at es i).to w v path h.2 in
    let f = ap (λ n. amount_at n 1 v) h.1 in
    omega (arith, rest, f, sum_by-cons (weight (leaves v) es) i path, sum_by-cons (weight (enters v) es) i path)

pub walk_within : (es : List Edge) (u w : ℕ) (path : List ℕ) → IsWalk es u path w → All (λ i. i < length es) path
walk_within es u w [] h = All-nil (λ i. i < length es)
walk_within es u w (i ∷ path) h = All-cons (λ j. j < length es) i path h.0 (walk_within es (edge_at es i).to w path h.2)

pub balanced_lowered : (nodes : ℕ) (es : List Edge) (left : List ℕ) (s t units k : ℕ) (path : List ℕ) → IsBalanced nodes es left s t units → k ≤ units → IsWalk es s path t → CanLower left k path → IsBalanced nodes es (lowered left k path) s t (units - k)
balanced_lowered nodes es left s t units k path balanced le walk bears = record {
  long = length-lowered left k path ∙ balanced.long;
  each = λ v l.
      let ends = walk_ends es s t v path walk in
      let times = ap (λ m. k * m) ends in
      let old = balanced.each v l in
      let e : units ≡ units - k + k = omega arith in
      let us = ap (λ m. m * amount_at s 1 v) e in
      let ut = ap (λ m. m * amount_at t 1 v) e in
      let s1 = at_node-times s units v in
      let t1 = at_node-times t units v in
      let s2 = at_node-times s (units - k) v in
      let t2 = at_node-times t (units - k) v in
      omega (arith, times, old, us, ut, s1, t1, s2, t2, weigh_lowered (leaves v) es left k path balanced.long bears, weigh_lowered (enters v) es left k path balanced.long bears);
}

-- a sum that isn't 0 has a term that isn't
pub some_term : {X : Type 0} (f : X → ℕ) (d : X) (xs : List X) → 0 < sum_by f xs → (i : ℕ) × (i < length xs) × (0 < f (slice_index_or xs i d))
some_term f d [] some = absurd (omega arith)
some_term f d (x ∷ xs) some = ⊎_elim
    (λ (l : 0 < f x). (0, omega arith, l))
    (λ (l : f x ≤ 0). let c = sum_by-cons f x xs in let h = some_term f d xs (omega (arith, c, some, l)) in (suc h.0, omega (arith, h.1), h.2))
    (cases_lt 0 (f x))

times_at : (x u v : ℕ) → 0 < x * amount_at u 1 v → (0 < x) × (u ≡ v)
times_at x u v some = ⊎_elim
    (λ (e : u ≡ v). let o = ap (λ b. cond b 1 0) (eq-eqb u v e) in let m = ap (λ n. x * n) o in (omega (arith, m, some), e))
    (λ (ne : u ≡ v → ⊥). let o = ap (λ b. cond b 1 0) (ne_eqb u v ne) in let m = ap (λ n. x * n) o in absurd (omega (arith, m, some)))
    (cases_eq u v)

-- what leaves a node leaves it over an edge
pub leaving_edge : (es : List Edge) (left : List ℕ) (v : ℕ) → length left ≡ length es → 0 < weighted_sum (leaves v) (zip es left) → (i : ℕ) × (i < length es) × ((edge_at es i).from ≡ v) × (0 < slice_index_or left i 0)
leaving_edge es left v long some =
    let w : Edge × ℕ → ℕ = λ l. l.1 * amount_at l.0.from 1 v in
    let h = some_term w (no_edge, 0) (zip es left) some in
    let within : h.0 < length es = omega (arith, h.1, length-zip es left) in
    let e = get_or-zip es left h.0 (no_edge, 0) within (omega (arith, within, long)) in
    let p = times_at (slice_index_or left h.0 0) (edge_at es h.0).from v (subst (λ l. 0 < w l) e h.2) in
    (h.0, within, p.1, p.0)

pub at-here : (u x v : ℕ) → u ≡ v → amount_at u x v ≡ x
at-here u x v e = ap (λ b. cond b x 0) (eq-eqb u v e)

pub at-same : (u x : ℕ) → amount_at u x u ≡ x
at-same u x = ap (λ b. cond b x 0) (eq-eqb u u refl)

pub at-other : (u x v : ℕ) → u ≢ v → amount_at u x v ≡ 0
at-other u x v ne = ap (λ b. cond b x 0) (ne_eqb u v ne)

-- an edge enters its end
pub entering_some : (es : List Edge) (left : List ℕ) (i : ℕ) → length left ≡ length es → i < length es → 0 < slice_index_or left i 0 → 0 < weighted_sum (enters (edge_at es i).to) (zip es left)
entering_some es left i long l some =
    let v = (edge_at es i).to in
    let w : Edge × ℕ → ℕ = λ l. l.1 * amount_at l.0.to 1 v in
    let le = get_or-le-sum_by w (zip es left) i (no_edge, 0) (omega (arith, length-zip es left, l, long)) in
    let e = ap w (get_or-zip es left i (no_edge, 0) l (omega (arith, l, long))) in
    let o = ap (λ m. slice_index_or left i 0 * m) (at-same v 1) in
    omega (arith, le, e, o, some)

-- from each node of the walk but its end, units go on
pub goes_on : (nodes : ℕ) (es : List Edge) (left : List ℕ) (s t units v : ℕ) → IsBalanced nodes es left s t units → 0 < units → v < nodes → v ≢ t → (v ≡ s) ⊎ (0 < weighted_sum (enters v) (zip es left)) → 0 < weighted_sum (leaves v) (zip es left)
goes_on nodes es left s t units v balanced some l not_t came =
    let each = balanced.each v l in
    let off = at-other t units v (λ e. not_t (sym e)) in
    ⊎_elim
    (λ (e : v ≡ s). let on = at-same s units in let f = ap (amount_at s units) e in omega (arith, each, off, on, f, some))
    (λ (h : 0 < weighted_sum (enters v) (zip es left)). omega (arith, each, off, h))
    came

-- the walk comes to no node that it has left
pub next_apart : (es : List Edge) (left : List ℕ) (u v : ℕ) (path : List ℕ) → HasNoCycle es left → IsWalk es u path v → HasUnits left path → LeavesNodesOnce es path → All (λ i. (edge_at es i).from ≢ v) path
next_apart es left u v [] none walk carries apart = All-nil (λ i. (edge_at es i).from ≢ v)
next_apart es left u v (i ∷ path) none walk carries apart =
    let R : ℕ → ℕ → Type 0 = λ a b. (edge_at es a).from ≢ (edge_at es b).from in
    All-cons (λ j. (edge_at es j).from ≢ v) i path
    (λ e. none v i path (walk.0, e, walk.2) carries apart)
    (next_apart es left (edge_at es i).to v path none walk.2 (All-tail (λ j. 0 < slice_index_or left j 0) i path carries) (AllPairs-tail R i path apart))

pub walk_push : (es : List Edge) (u v i : ℕ) (path : List ℕ) → IsWalk es u path v → i < length es → (edge_at es i).from ≡ v → IsWalk es u (path ++ i ∷ []) (edge_at es i).to
walk_push es u v i [] walk l e = (l, e ∙ sym walk, refl)
walk_push es u v i (j ∷ path) walk l e = (walk.0, walk.1, walk_push es (edge_at es j).to v i path walk.2 l e)
