-- Turns of the loops over walks.
use Rattle.std.proofs.Common.{ℕ, suc, ◌+◌, ◌<◌, ◌≤◌, ◌≡◌, List, [], ◌∷◌, ◌++◌, sym, refl, ap, ◌∙◌, subst, ◌⊎◌, inl, inr, ⊎_elim, arith, length, take-suc}
use Rattle.std.specs.Prelude.{All, zip, set, take, drop, min, ◌≢◌, slice_index_or}
use Rattle.std.proofs.lemmas.Bool.{cases_eq, cases_lt}
use Rattle.std.proofs.lemmas.List.{get_or-set_same, get_or-set_other, take_all, drop_all, append-nil, length_push}
use Rattle.std.proofs.lemmas.List.Elements.{All-nil, All-push, All-weaker}
use lib.ListN.{length-set}
use Rattle.path_split.specs.declared.edge.Edge.{Edge}
use Rattle.path_split.specs.Walk.{no_edge, edge_at, IsFirstEdge, HasNoCycle, HasBottleneck, CanLower, HasNoEdgeBefore, AreFirstPlaces, UnitsGoOn, HasEndsBelow, IsFirstWalk, weighted_sum, leaves, enters}
use Rattle.path_split.proofs.Walks.{leaving_edge, entering_some, next_apart, walk_push, walk_within}
use Rattle.path_split.proofs.Order.{apart_push, few_steps}

-- an edge further on that leaves the node and has units left
pub next_within : (es : List Edge) (left : List ℕ) (v i : ℕ) → length left ≡ length es → 0 < weighted_sum (leaves v) (zip es left) → HasNoEdgeBefore es left v i → i < length es
next_within es left v i long some starts =
    let h = leaving_edge es left v long some in
    let le = starts h.0 h.1 h.2 h.3 in
    omega (arith, le, h.1)

pub next_turn : (es : List Edge) (left : List ℕ) (v i : ℕ) → HasNoEdgeBefore es left v i → ((edge_at es i).from ≢ v) ⊎ (slice_index_or left i 0 ≡ 0) → HasNoEdgeBefore es left v (i + 1)
next_turn es left v i starts passed j l e some =
    let le = starts j l e some in
    let ne : i ≡ j → ⊥ = λ f. ⊎_elim (λ (x : (edge_at es i).from ≢ v). x (ap (λ k. (edge_at es k).from) f ∙ e)) (λ (z : slice_index_or left i 0 ≡ 0). let g = ap (λ k. slice_index_or left k 0) f in omega (arith, g, z, some)) passed in
    ⊎_elim (λ (x : i < j). omega (arith, x)) (λ (x : j ≤ i). absurd (ne (omega (arith, x, le)))) (cases_lt i j)

pub way_push : (es : List Edge) (left : List ℕ) (s v t i : ℕ) (path more : List ℕ) → HasNoCycle es left → v ≢ t → i < length es → (edge_at es i).from ≡ v → 0 < slice_index_or left i 0 → HasNoEdgeBefore es left v i → more ≡ path ++ i ∷ [] → IsFirstWalk es left s v t path → IsFirstWalk es left s (edge_at es i).to t more
way_push es left s v t i path more none ne l from some first grows old = subst (IsFirstWalk es left s (edge_at es i).to t) (sym grows) record {
  walk = walk_push es s v i path old.walk l from;
  carries = All-push (λ j. 0 < slice_index_or left j 0) path i old.carries some;
  apart = apart_push es path i old.apart (All-weaker (λ j. (edge_at es j).from ≢ v) (λ j. (edge_at es j).from ≢ (edge_at es i).from) (λ j h e. h (e ∙ from)) path (next_apart es left s v path none old.walk old.carries old.apart));
  first = All-push (IsFirstEdge es left) path i old.first (λ j k e g. first j k (e ∙ from) g);
  before = All-push (λ j. (edge_at es j).from ≢ t) path i old.before (λ e. ne (sym from ∙ e));
}

-- the walk has a step more than before, and no more steps than there are nodes
pub way_short : (es : List Edge) (left : List ℕ) (nodes s w t : ℕ) (path : List ℕ) → HasEndsBelow nodes es → IsFirstWalk es left s w t path → All (λ i. i < length es) path → length path ≤ nodes
way_short es left nodes s w t path ends way within = few_steps es nodes path way.apart (λ k d l. (ends (slice_index_or path k d) no_edge (within k d l)).0)

pub firsts_set : (es : List Edge) (left first : List ℕ) (v i : ℕ) → v < length first → HasNoEdgeBefore es left v i → AreFirstPlaces es left first → AreFirstPlaces es left (set first v i)
firsts_set es left first v i l starts old u k = ⊎_elim
    (λ (e : v ≡ u). let s = get_or-set_same first v i 0 l in let f = ap (λ m. slice_index_or (set first v i) m 0) e in λ j lj ej gj. let h = starts j lj (ej ∙ sym e) gj in omega (arith, h, s, f))
    (λ (ne : v ≡ u → ⊥). let o = get_or-set_other first v u i 0 (λ f. ne (sym f)) in λ j lj ej gj. let h = old u (omega (arith, k, length-set first v i)) j lj ej gj in omega (arith, h, o))
    (cases_eq v u)

-- the least of what is left, so far
tight_push : (left : List ℕ) (k i : ℕ) (path : List ℕ) → (slice_index_or left i 0 ≡ k) ⊎ HasBottleneck left k path → HasBottleneck left k (path ++ i ∷ [])
tight_push left k i [] (inl e) = inl e
tight_push left k i [] (inr h) = absurd h
tight_push left k i (j ∷ path) (inl e) = inr (tight_push left k i path (inl e))
tight_push left k i (j ∷ path) (inr (inl e)) = inl e
tight_push left k i (j ∷ path) (inr (inr h)) = inr (tight_push left k i path (inr h))

pub record LeastSoFar (left : List ℕ) (path : List ℕ) (most k : ℕ) : Type 0 where
  pub within : k ≤ most
  pub some : 0 < k
  pub fits : All (λ i. k ≤ slice_index_or left i 0) path
  pub tight : k < most → HasBottleneck left k path

pub least_none : (left path : List ℕ) (most : ℕ) → 0 < most → LeastSoFar left (take 0 path) most most
least_none left path most some = record {
  within = omega arith;
  some = some;
  fits = All-nil (λ i. most ≤ slice_index_or left i 0);
  tight = λ l. absurd (omega (arith, l));
}

pub least_turn : (left path : List ℕ) (most k m n d : ℕ) → n < length path → 0 < slice_index_or left (slice_index_or path n d) 0 → m ≡ min k (slice_index_or left (slice_index_or path n d) 0) → LeastSoFar left (take n path) most k → LeastSoFar left (take (n + 1) path) most m
least_turn left path most k m n d l some is old =
    let plus : n + 1 ≡ suc n = omega arith in
    subst (λ p. LeastSoFar left p most m) (sym (ap (λ j. take j path) plus ∙ take-suc path n d l)) record {
      within = let h = old.within in omega (arith, is, h);
      some = let h = old.some in omega (arith, is, h, some);
      fits = All-push (λ i. m ≤ slice_index_or left i 0) (take n path) (slice_index_or path n d) (All-weaker (λ i. k ≤ slice_index_or left i 0) (λ i. m ≤ slice_index_or left i 0) (λ i h. omega (arith, is, h)) (take n path) old.fits) (omega (arith, is));
      tight = λ less. tight_push left m (slice_index_or path n d) (take n path) (⊎_elim
          (λ (x : slice_index_or left (slice_index_or path n d) 0 < k). inl (omega (arith, is, x)))
          (λ (x : k ≤ slice_index_or left (slice_index_or path n d) 0). let e : k ≡ m = omega (arith, is, x) in inr (subst (λ y. HasBottleneck left y (take n path)) e (old.tight (omega (arith, e, less)))))
          (cases_lt (slice_index_or left (slice_index_or path n d) 0) k));
    }

-- the walk so far, and the indices of first edges
pub record WalkSoFar (es : List Edge) (left : List ℕ) (nodes s t : ℕ) (first : List ℕ) (node : ℕ) (path : List ℕ) : Type 0 where
  pub way : IsFirstWalk es left s node t path
  pub firsts : AreFirstPlaces es left first
  pub long : length first ≡ nodes
  pub within : node < nodes
  pub came : (node ≡ s) ⊎ (0 < weighted_sum (enters node) (zip es left))

pub way_none : (es : List Edge) (left : List ℕ) (s t : ℕ) (first : List ℕ) → AreFirstPlaces es left first → s < length first → WalkSoFar es left (length first) s t first s []
way_none es left s t first known l = record {
  way = record {
    walk = refl;
    carries = All-nil (λ i. 0 < slice_index_or left i 0);
    apart = λ i j d l m. absurd (omega (arith, l, m));
    first = All-nil (IsFirstEdge es left);
    before = All-nil (λ i. (edge_at es i).from ≢ t);
  };
  firsts = known;
  long = refl;
  within = l;
  came = inl refl;
}

pub way_turn : (es : List Edge) (left : List ℕ) (nodes s t : ℕ) (first : List ℕ) (node i : ℕ) (path more : List ℕ) → length left ≡ length es → HasEndsBelow nodes es → HasNoCycle es left → node ≢ t → i < length es → (edge_at es i).from ≡ node → 0 < slice_index_or left i 0 → HasNoEdgeBefore es left node i → more ≡ path ++ i ∷ [] → WalkSoFar es left nodes s t first node path → WalkSoFar es left nodes s t (set first node i) (edge_at es i).to more
way_turn es left nodes s t first node i path more long ends none ne l from some starts grows old = record {
  way = way_push es left s node t i path more none ne l from some starts grows old.way;
  firsts = firsts_set es left first node i (let w = old.within in let f = old.long in omega (arith, w, f)) starts old.firsts;
  long = length-set first node i ∙ old.long;
  within = (ends i no_edge l).1;
  came = inr (entering_some es left i long l some);
}

pub way_shorter : (es : List Edge) (left : List ℕ) (nodes s w t i : ℕ) (path more : List ℕ) → HasEndsBelow nodes es → IsFirstWalk es left s w t more → more ≡ path ++ i ∷ [] → length path < nodes
way_shorter es left nodes s w t i path more ends way grows =
    let le = way_short es left nodes s w t more ends way (walk_within es s w more way.walk) in
    let e = ap length grows ∙ length_push path i in
    omega (arith, le, e)

-- a slice of a whole `Vec`, written back
pub restored : (new old : List ℕ) (n : ℕ) → length new ≡ length old → n ≡ length old → take n (new ++ drop (length new) old) ≡ new
restored new old n same long =
    ap (λ m. take n (new ++ drop m old)) same ∙ ap (λ xs. take n (new ++ xs)) (drop_all (length old) old (omega arith)) ∙ ap (take n) (append-nil new) ∙ take_all n new (omega (arith, same, long))

-- the same facts of what was read of a `Vec`
pub way_read : (es es' : List Edge) (left left' : List ℕ) (s s' t t' : ℕ) (path : List ℕ) → es ≡ es' → left ≡ left' → s ≡ s' → t ≡ t' → IsFirstWalk es left s t t path → IsFirstWalk es' left' s' t' t' path
way_read es es' left left' s s' t t' path e f g h way = subst (λ x. IsFirstWalk x left' s' t' t' path) e (subst (λ x. IsFirstWalk es x s' t' t' path) f (subst (λ x. IsFirstWalk es left x t' t' path) g (subst (λ x. IsFirstWalk es left s x x path) h way)))

pub firsts_read : (es es' : List Edge) (left left' first first' : List ℕ) → es ≡ es' → left ≡ left' → first ≡ first' → AreFirstPlaces es left first → AreFirstPlaces es' left' first'
firsts_read es es' left left' first first' e f g h = subst (λ x. AreFirstPlaces x left' first') e (subst (λ x. AreFirstPlaces es x first') f (subst (λ x. AreFirstPlaces es left x) g h))

pub no_cycle_read : (es es' : List Edge) (left left' : List ℕ) → es ≡ es' → left ≡ left' → HasNoCycle es left → HasNoCycle es' left'
no_cycle_read es es' left left' e f h = subst (λ x. HasNoCycle x left') e (subst (λ x. HasNoCycle es x) f h)

pub on_read : (n n' : ℕ) (es es' : List Edge) (left left' : List ℕ) (s s' t t' : ℕ) → n ≡ n' → es ≡ es' → left ≡ left' → s ≡ s' → t ≡ t' → UnitsGoOn n es left s t → UnitsGoOn n' es' left' s' t'
on_read n n' es es' left left' s s' t t' e f g h k on = subst (λ x. UnitsGoOn x es' left' s' t') e (subst (λ x. UnitsGoOn n x left' s' t') f (subst (λ x. UnitsGoOn n es x s' t') g (subst (λ x. UnitsGoOn n es left x t') h (subst (λ x. UnitsGoOn n es left s x) k on))))

pub fits_read : (left left' path path' : List ℕ) (k : ℕ) → left ≡ left' → path ≡ path' → All (λ i. k ≤ slice_index_or left i 0) path → All (λ i. k ≤ slice_index_or left' i 0) path'
fits_read left left' path path' k e f h = subst (λ x. All (λ i. k ≤ slice_index_or x i 0) path') e (subst (λ x. All (λ i. k ≤ slice_index_or left i 0) x) f h)

pub tight_read : (left left' path path' : List ℕ) (k : ℕ) → left ≡ left' → path ≡ path' → HasBottleneck left k path → HasBottleneck left' k path'
tight_read left left' path path' k e f h = subst (λ x. HasBottleneck x k path') e (subst (λ x. HasBottleneck left k x) f h)

pub bears_read : (left left' path path' : List ℕ) (k : ℕ) → left ≡ left' → path ≡ path' → CanLower left k path → CanLower left' k path'
bears_read left left' path path' k e f h = subst (λ x. CanLower x k path') e (subst (λ x. CanLower left k x) f h)
