-- The order in which paths are found, how many they are, and that no edge is left with units.
use Rattle.std.proofs.Common.{ℕ, zero, suc, ◌+◌, ◌-◌, ◌*◌, ◌<◌, ◌≤◌, ◌≡◌, Bool, true, false, cond, List, [], ◌∷◌, ◌++◌, sym, refl, ap, ◌∙◌, subst, ◌⊎◌, inl, inr, ⊎_elim, arith, length}
use Rattle.std.specs.Prelude.{All, AllPairs, sum_by, set, map, nat_eq, min, ◌≢◌, ◌||◌, slice_index_or}
use Rattle.std.specs.List.{list_any}
use Rattle.std.proofs.lemmas.Bool.{cases_eq, cases_lt, eq-eqb, ne_eqb}
use Rattle.std.proofs.lemmas.List.{get_or-set_other, get_or-set_same}
use Rattle.std.proofs.lemmas.List.Elements.{All-head, All-tail}
use Rattle.std.proofs.lemmas.List.Sums.{sum_by-cons, sum_by-set, get_or-le-sum_by}
use Rattle.path_split.specs.declared.edge.Edge.{Edge}
use Rattle.std.proofs.lemmas.List.Quantifiers.{all_pairs_push}
use Rattle.flow_model.proofs.Balance.{sum_below}
use Rattle.path_split.proofs.Circulation.{swapped_keys}
use Rattle.path_split.specs.Path.{IsBefore}
use Rattle.path_split.specs.Walk.{HasBottleneck, CanLower, edge_at, IsWalk, HasUnits, LeavesNodesOnce, IsFirstEdge, amount_at, lowered, HasOrderedEdges, directions}
use Rattle.path_split.proofs.Walks.{at-here, at-other, AllPairs-tail, AllPairs-head, AreDistinct, lowered_le}

-- one of the path's edges has nothing left
abbrev pub HasEmptyEdge : List ℕ → List ℕ → Type 0
HasEmptyEdge left [] = ⊥
HasEmptyEdge left (i ∷ path) = (slice_index_or left i 0 ≡ 0) ⊎ HasEmptyEdge left path

abbrev pub AvoidsNode : List Edge → ℕ → List ℕ → Type 0
AvoidsNode es t path = All (λ i. (edge_at es i).from ≢ t) path

pub spent_stays : (left more path : List ℕ) → ((j : ℕ) → slice_index_or left j 0 ≤ slice_index_or more j 0) → HasEmptyEdge more path → HasEmptyEdge left path
spent_stays left more [] le h = h
spent_stays left more (i ∷ path) le (inl e) = inl (omega (arith, le i, e))
spent_stays left more (i ∷ path) le (inr h) = inr (spent_stays left more path le h)

pub first_stays : (es : List Edge) (left more : List ℕ) (i : ℕ) → ((j : ℕ) → slice_index_or left j 0 ≤ slice_index_or more j 0) → IsFirstEdge es more i → IsFirstEdge es left i
first_stays es left more i le first j l e some = first j l e (omega (arith, le j, some))

tight_other : (left : List ℕ) (k i y : ℕ) (path : List ℕ) → All (λ j. i ≢ j) path → HasBottleneck left k path → HasBottleneck (set left i y) k path
tight_other left k i y [] other h = h
tight_other left k i y (j ∷ path) other (inl e) = inl (get_or-set_other left i j y 0 (λ f. All-head (λ m. i ≢ m) j path other (sym f)) ∙ e)
tight_other left k i y (j ∷ path) other (inr h) = inr (tight_other left k i y path (All-tail (λ m. i ≢ m) j path other) h)

pub spent_lowered : (left : List ℕ) (k : ℕ) (path : List ℕ) → AreDistinct path → CanLower left k path → HasBottleneck left k path → HasEmptyEdge (lowered left k path) path
spent_lowered left k [] lone bears h = h
spent_lowered left k (i ∷ path) lone bears (inl e) =
    let y = slice_index_or left i 0 - k in
    let s = get_or-set_same left i y 0 bears.0 in
    inl (omega (arith, lowered_le (set left i y) k path i, s, e))
spent_lowered left k (i ∷ path) lone bears (inr h) =
    let y = slice_index_or left i 0 - k in
    inr (spent_lowered (set left i y) k path (AllPairs-tail (λ a b. a ≢ b) i path lone) bears.2 (tight_other left k i y path (AllPairs-head (λ a b. a ≢ b) i path lone) h))

-- how many edges have units left
abbrev pub live : List ℕ → ℕ
live left = sum_by (λ x. min x 1) left

live_set : (left : List ℕ) (i k : ℕ) → i < length left → live (set left i (slice_index_or left i 0 - k)) + min (slice_index_or left i 0) 1 ≡ live left + min (slice_index_or left i 0 - k) 1
live_set left i k l = sum_by-set (λ x. min x 1) left i (slice_index_or left i 0 - k) 0 l

pub live_lowered : (left : List ℕ) (k : ℕ) (path : List ℕ) → CanLower left k path → live (lowered left k path) ≤ live left
live_lowered left k [] bears = omega arith
live_lowered left k (i ∷ path) bears = omega (arith, live_lowered (set left i (slice_index_or left i 0 - k)) k path bears.2, live_set left i k bears.0)

pub live_falls : (left : List ℕ) (k : ℕ) (path : List ℕ) → 0 < k → AreDistinct path → CanLower left k path → HasBottleneck left k path → live (lowered left k path) < live left
live_falls left k [] some lone bears h = absurd h
live_falls left k (i ∷ path) some lone bears (inl e) = omega (arith, live_lowered (set left i (slice_index_or left i 0 - k)) k path bears.2, live_set left i k bears.0, e, some)
live_falls left k (i ∷ path) some lone bears (inr h) =
    let y = slice_index_or left i 0 - k in
    omega (arith, live_falls (set left i y) k path some (AllPairs-tail (λ a b. a ≢ b) i path lone) bears.2 (tight_other left k i y path (AllPairs-head (λ a b. a ≢ b) i path lone) h), live_set left i k bears.0)

pub live_some : (left : List ℕ) (i : ℕ) → 0 < slice_index_or left i 0 → i < length left → 1 ≤ live left
live_some left i some l = omega (arith, get_or-le-sum_by (λ x. min x 1) left i 0 l, some)

pub live_most : (left : List ℕ) → live left ≤ length left
live_most [] = omega arith
live_most (x ∷ left) = omega (arith, live_most left, sum_by-cons (λ y. min y 1) x left)

-- a path comes after each path that was found earlier
pub before_next : (es : List Edge) (left : List ℕ) (u t : ℕ) (p q : List ℕ) → HasOrderedEdges es → IsWalk es u p t → IsWalk es u q t → AvoidsNode es t p → AvoidsNode es t q → All (IsFirstEdge es left) p → HasUnits left q → HasEmptyEdge left p → IsBefore (directions es p) (directions es q)
before_next es left u t [] q ordered wp wq np nq first carries spent = absurd spent
before_next es left u t (i ∷ p) [] ordered wp wq np nq first carries spent = absurd (All-head (λ k. (edge_at es k).from ≢ t) i p np (wp.1 ∙ wq))
before_next es left u t (i ∷ p) (j ∷ q) ordered wp wq np nq first carries spent =
    let le = All-head (IsFirstEdge es left) i p first j wq.0 (wq.1 ∙ sym wp.1) (All-head (λ k. 0 < slice_index_or left k 0) j q carries) in
    let here = All-head (λ k. 0 < slice_index_or left k 0) j q carries in
    let tails : i ≡ j → HasEmptyEdge left p → IsBefore (directions es p) (directions es q) = λ e more. before_next es left (edge_at es i).to t p q ordered wp.2 (subst (λ k. IsWalk es (edge_at es k).to q t) (sym e) wq.2) (All-tail (λ k. (edge_at es k).from ≢ t) i p np) (All-tail (λ k. (edge_at es k).from ≢ t) j q nq) (All-tail (IsFirstEdge es left) i p first) (All-tail (λ k. 0 < slice_index_or left k 0) j q carries) more in
    let same : i ≡ j → IsBefore (directions es (i ∷ p)) (directions es (j ∷ q)) = λ e. let there = ap (λ k. slice_index_or left k 0) e in inr (ap (λ k. (edge_at es k).dir) e, ⊎_elim (λ (z : slice_index_or left i 0 ≡ 0). absurd (omega (arith, here, there, z))) (λ (h : HasEmptyEdge left p). tails e h) spent) in
    ⊎_elim
    (λ (l : i < j). inl (ordered i j l wq.0 (wp.1 ∙ sym wq.1)))
    (λ (ge : j ≤ i). same (omega (arith, le, ge)))
    (cases_lt i j)

-- a value that no two places of the path share is counted once
counted_none : (f : ℕ → ℕ) (v : ℕ) (path : List ℕ) → All (λ j. v ≢ f j) path → sum_by (λ i. amount_at (f i) 1 v) path ≡ 0
counted_none f v [] other = refl
counted_none f v (i ∷ path) other =
    let off = at-other (f i) 1 v (λ e. All-head (λ j. v ≢ f j) i path other (sym e)) in
    omega (arith, off, sum_by-cons (λ j. amount_at (f j) 1 v) i path, counted_none f v path (All-tail (λ j. v ≢ f j) i path other))

pub counted_once : (f : ℕ → ℕ) (v : ℕ) (path : List ℕ) → AllPairs (λ i j. f i ≢ f j) path → sum_by (λ i. amount_at (f i) 1 v) path ≡ cond (list_any (nat_eq v) (map f path)) 1 0
counted_once f v [] pairs = refl
counted_once f v (i ∷ path) pairs =
    let R : ℕ → ℕ → Type 0 = λ a b. f a ≢ f b in
    let c = sum_by-cons (λ j. amount_at (f j) 1 v) i path in
    let rest = counted_once f v path (AllPairs-tail R i path pairs) in
    ⊎_elim
    (λ (e : f i ≡ v).
    let on = at-here (f i) 1 v e in
    let any = ap {B = ℕ} (λ b. cond (b || list_any (nat_eq v) (map f path)) 1 0) (eq-eqb v (f i) (sym e)) in
    let none = counted_none f v path (λ k d l g. AllPairs-head R i path pairs k d l (e ∙ g)) in
    omega (arith, c, on, any, none))
    (λ (ne : f i ≡ v → ⊥).
    let off = at-other (f i) 1 v ne in
    let any = ap {B = ℕ} (λ b. cond (b || list_any (nat_eq v) (map f path)) 1 0) (ne_eqb v (f i) (λ g. ne (sym g))) in
    omega (arith, c, off, any, rest))
    (cases_eq (f i) v)

below_one : (h : ℕ → ℕ) (n : ℕ) → ((v : ℕ) → h v ≤ 1) → sum_below h n ≤ n
below_one h zero le = omega arith
below_one h (suc n) le = omega (arith, below_one h n le, le n)

ones : (path : List ℕ) → sum_by (λ i. 1 * 1) path ≡ length path
ones [] = refl
ones (i ∷ path) = omega (arith, ones path, sum_by-cons (λ j. 1 * 1) i path)

-- the nodes that a walk leaves are at most as many as there are
pub few_steps : (es : List Edge) (nodes : ℕ) (path : List ℕ) → LeavesNodesOnce es path → All (λ i. (edge_at es i).from < nodes) path → length path ≤ nodes
few_steps es nodes path apart known =
    let f : ℕ → ℕ = λ i. (edge_at es i).from in
    let h = swapped_keys f (λ i. 1) (λ v. 1) nodes path known in
    let most = below_one (λ v. 1 * sum_by (λ i. amount_at (f i) 1 v) path) nodes (λ v. let c = counted_once f v path apart in let b = at_most_one (list_any (nat_eq v) (map f path)) in omega (arith, c, b)) in
    omega (arith, h, most, ones path)
  where
    at_most_one : (b : Bool) → cond b 1 0 ≤ 1
    at_most_one true = omega arith
    at_most_one false = omega arith

pub apart_push : (es : List Edge) (path : List ℕ) (i : ℕ) → LeavesNodesOnce es path → All (λ j. (edge_at es j).from ≢ (edge_at es i).from) path → LeavesNodesOnce es (path ++ i ∷ [])
apart_push es path i apart other = all_pairs_push (λ a b. (edge_at es a).from ≢ (edge_at es b).from) path i apart (λ k d l. other k d l)
