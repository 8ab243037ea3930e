-- Edges gathered from the arcs of a flow.
use Rattle.std.proofs.Common.{ℕ, ◌+◌, ◌-◌, ◌*◌, ◌^◌, ◌<◌, ◌≤◌, ◌≡◌, List, [], ◌∷◌, ◌++◌, sym, refl, ap, ◌∙◌, subst, ⊎_elim, arith, length}
use Rattle.std.specs.Prelude.{All, AllPairs, zip, set, take, ◌≢◌, slice_index_or}
use Rattle.std.specs.List.Sorted.{IsPermutation, IsNonDecreasingBy}
use Rattle.std.proofs.lemmas.Bool.{cases_eq, cases_lt}
use Rattle.std.proofs.lemmas.List.{get_or_default, get_or-set_same, get_or-set_other, take_all}
use Rattle.std.proofs.lemmas.List.Quantifiers.{all_pairs_push}
use lib.ListN.{length-set}
use Rattle.std.proofs.lemmas.List.Elements.{All-nil, All-push, All-set}
use Rattle.std.proofs.lemmas.List.Sorted.{All-permutation, sum_by-IsPermutation}
use Rattle.std.proofs.lemmas.List.Sums.{sum_by-set, sum_by_more, sum_by_push, sum_by_more_le, get_or-le-sum_by, sum_by-le}
use Rattle.std.proofs.lemmas.Slice.Zip.{get_or-zip, length-zip}
use Rattle.plan_base.specs.declared.amount.TheConstants.{MAX}
use Rattle.flow_model.specs.declared.instance.Arc.{Arc}
use Rattle.flow_model.specs.Instance.{Net, IsInstance, IsGoodArc, no_arc}
use Rattle.flow_model.specs.Flow.{Fits, loads}
use Rattle.flow_model.proofs.Balance.{All-zip}
use Rattle.path_split.proofs.Circulation.{first_of, agrees}
use Rattle.path_split.specs.declared.edge.Edge.{Edge}
use Rattle.path_split.specs.Path.{HasArc}
use Rattle.path_split.specs.Walk.{no_edge, edge_at, whole}
use Rattle.path_split.specs.Edges.{weighted_flow, weighted_units, AreDirections, AreEdgesOf, edge_key, IsAscending, last_edge, AddOutcome, HasDirectionOf, HasEqualEnds, MergeOutcome}

pub gathers_none : (arcs : List Arc) (ls : List (Arc × ℕ)) → AreEdgesOf arcs (take 0 ls) []
gathers_none arcs ls = record {
  sums = λ q. refl;
  known = All-nil (λ (e : Edge). HasArc arcs e.dir e.from e.to);
  some = All-nil (λ (e : Edge). 0 < e.units);
  small = All-nil (λ (e : Edge). e.dir < 2 ^ 32);
}

module _ (arcs : List Arc) (flow : List ℕ) (i : ℕ) (es : List Edge) (a : Arc) (long : length flow ≡ length arcs) (l : i < length flow) (old : AreEdgesOf arcs (take i (zip arcs flow)) es) where
  one_more : (q : ℕ → ℕ → ℕ → ℕ) → weighted_flow q (take (i + 1) (zip arcs flow)) ≡ weighted_flow q (take i (zip arcs flow)) + slice_index_or flow i 0 * q (slice_index_or arcs i a).from (slice_index_or arcs i a).dir (slice_index_or arcs i a).to
  one_more q =
      let w : Arc × ℕ → ℕ = λ l. l.1 * q l.0.from l.0.dir l.0.to in
      let s = sum_by_more w (zip arcs flow) i (a, 0) (omega (arith, length-zip arcs flow, l, long)) in
      let e = ap w (get_or-zip arcs flow i (a, 0) (omega (arith, l, long)) l) in
      omega (arith, s, e)

  pub gathers_skip : slice_index_or flow i 0 ≡ 0 → AreEdgesOf arcs (take (i + 1) (zip arcs flow)) es
  gathers_skip z = record {
    sums = λ q. let m = ap (λ n. n * q (slice_index_or arcs i a).from (slice_index_or arcs i a).dir (slice_index_or arcs i a).to) z in omega (arith, one_more q, m, old.sums q);
    known = old.known;
    some = old.some;
    small = old.small;
  }

  pub gathers_push : (e : Edge) (more : List Edge) → e ≡ record { from = (slice_index_or arcs i a).from; dir = (slice_index_or arcs i a).dir; to = (slice_index_or arcs i a).to; units = slice_index_or flow i 0 } → more ≡ es ++ e ∷ [] → 0 < slice_index_or flow i 0 → (slice_index_or arcs i a).dir < 2 ^ 32 → AreEdgesOf arcs (take (i + 1) (zip arcs flow)) more
  gathers_push e more is grows some small = subst (AreEdgesOf arcs (take (i + 1) (zip arcs flow))) (sym (grows ∙ ap (λ x. es ++ x ∷ []) is)) record {
    sums = λ q. let w : Edge → ℕ = λ e. e.units * q e.from e.dir e.to in omega (arith, one_more q, old.sums q, sum_by_push w es new);
    known = All-push (λ (e : Edge). HasArc arcs e.dir e.from e.to) es new old.known record { at = i; within = omega (arith, l, long); of_dir = ap (λ x. x.dir) same; starts = ap (λ x. x.from) same; ends = ap (λ x. x.to) same };
    some = All-push (λ (e : Edge). 0 < e.units) es new old.some some;
    small = All-push (λ (e : Edge). e.dir < 2 ^ 32) es new old.small small;
  }
    where
      new : Edge
      new = record { from = (slice_index_or arcs i a).from; dir = (slice_index_or arcs i a).dir; to = (slice_index_or arcs i a).to; units = slice_index_or flow i 0 }

      same : slice_index_or arcs i no_arc ≡ slice_index_or arcs i a
      same = get_or_default arcs i no_arc a (omega (arith, l, long))

pub gathers_sorted : (arcs : List Arc) (ls : List (Arc × ℕ)) (es more : List Edge) → IsPermutation es more → AreEdgesOf arcs ls es → AreEdgesOf arcs ls more
gathers_sorted arcs ls es more moved old = record {
  sums = λ q. sum_by-IsPermutation (λ (e : Edge). e.units * q e.from e.dir e.to) es more moved ∙ old.sums q;
  known = All-permutation (λ (e : Edge). HasArc arcs e.dir e.from e.to) es more moved old.known;
  some = All-permutation (λ (e : Edge). 0 < e.units) es more moved old.some;
  small = All-permutation (λ (e : Edge). e.dir < 2 ^ 32) es more moved old.small;
}

-- the first i edges are put together
pub record MergedSoFar (es : List Edge) (i : ℕ) (acc : List Edge) : Type 0 where
  pub sums : (q : ℕ → ℕ → ℕ → ℕ) → weighted_units q acc ≡ weighted_units q (take i es)
  pub come : All (HasDirectionOf es) acc
  pub some : All (λ (e : Edge). 0 < e.units) es → All (λ (e : Edge). 0 < e.units) acc
  pub ascend : IsAscending acc
  pub later : (j : ℕ) → i ≤ j → j < length es → All (λ (a : Edge). edge_key a ≤ edge_key (edge_at es j)) acc

pub merged_none : (es : List Edge) → MergedSoFar es 0 []
merged_none es = record {
  sums = λ q. refl;
  come = All-nil (HasDirectionOf es);
  some = λ h. All-nil (λ (e : Edge). 0 < e.units);
  ascend = λ i j d l m. absurd (omega (arith, l, m));
  later = λ j l m. All-nil (λ (a : Edge). edge_key a ≤ edge_key (edge_at es j));
}

pub merged_all : (es acc : List Edge) (i : ℕ) → length es ≤ i → MergedSoFar es i acc → MergeOutcome es acc
merged_all es acc i l h = record {
  sums = λ q. h.sums q ∙ ap (weighted_units q) (take_all i es l);
  come = h.come;
  some = h.some;
  ascend = h.ascend;
}

keys_apart : (a b c d : ℕ) → b < 2 ^ 32 → d < 2 ^ 32 → a * 2 ^ 32 + b ≡ c * 2 ^ 32 + d → b ≡ d
keys_apart a b c d lb ld e = ⊎_elim
    (λ (l : a < c). absurd (omega (arith, l, e, lb, ld)))
    (λ (ge : c ≤ a). ⊎_elim (λ (l : c < a). absurd (omega (arith, l, e, lb, ld))) (λ (le : a ≤ c). omega (arith, ge, le, e)) (cases_lt c a))
    (cases_lt a c)

set_key : (acc : List Edge) (m k : ℕ) (new d : Edge) → m < length acc → edge_key new ≡ edge_key (edge_at acc m) → edge_key (slice_index_or (set acc m new) k d) ≡ edge_key (slice_index_or acc k d)
set_key acc m k new d l e = ⊎_elim
    (λ (same : m ≡ k). subst (λ n. edge_key (slice_index_or (set acc m new) n d) ≡ edge_key (slice_index_or acc n d)) same (ap edge_key (get_or-set_same acc m new d l) ∙ e ∙ ap edge_key (get_or_default acc m no_edge d l)))
    (λ (ne : m ≡ k → ⊥). ap edge_key (get_or-set_other acc m k new d (λ f. ne (sym f))))
    (cases_eq m k)

module _ (es : List Edge) (i : ℕ) (acc : List Edge) (more : List Edge) (l : i < length es) (sorted : IsNonDecreasingBy edge_key es) (ends : HasEqualEnds es) (small : All (λ (e : Edge). e.dir < 2 ^ 32) es) (old : MergedSoFar es i acc) where
  abbrev e : Edge
  e = edge_at es i

  take_more : (q : ℕ → ℕ → ℕ → ℕ) → weighted_units q (take (i + 1) es) ≡ weighted_units q (take i es) + e.units * q e.from e.dir e.to
  take_more q = sum_by_more (λ (x : Edge). x.units * q x.from x.dir x.to) es i no_edge l

  module _ (some : 0 < length acc) (same : (last_edge acc).dir ≡ e.dir) where
    abbrev m : ℕ
    m = length acc - 1

    abbrev new : Edge
    new = record (last_edge acc) { units = (last_edge acc).units + e.units }

    inside : m < length acc
    inside = omega (arith, some)

    came : HasDirectionOf es (last_edge acc)
    came = old.come m no_edge inside

    one : ((last_edge acc).from ≡ e.from) × ((last_edge acc).to ≡ e.to)
    one = let h = ends came.0 i came.1 l (came.3 ∙ same) in (sym came.2 ∙ h.0, sym came.4 ∙ h.1)

    weights : (q : ℕ → ℕ → ℕ → ℕ) → q (last_edge acc).from (last_edge acc).dir (last_edge acc).to ≡ q e.from e.dir e.to
    weights q = ap (λ x. q x (last_edge acc).dir (last_edge acc).to) one.0 ∙ ap (λ x. q e.from x (last_edge acc).to) same ∙ ap (λ x. q e.from e.dir x) one.1

    joined : MergedSoFar es (i + 1) (set acc m new)
    joined = record {
      sums = λ q.
          let w : Edge → ℕ = λ (x : Edge). x.units * q x.from x.dir x.to in
          let s = sum_by-set w acc m new no_edge inside in
          let p = ap (λ n. e.units * n) (weights q) in
          omega (arith, s, p, take_more q, old.sums q);
      come = All-set (HasDirectionOf es) acc m new (came.0, came.1, came.2, came.3, came.4) old.come;
      some = λ h. let here = old.some h m no_edge inside in All-set (λ (x : Edge). 0 < x.units) acc m new (omega (arith, here)) (old.some h);
      ascend = λ a b d x y. let y' : b < length acc = omega (arith, y, length-set acc m new) in let ka = set_key acc m a new d inside refl in let kb = set_key acc m b new d inside refl in let o = old.ascend a b d x y' in omega (arith, ka, kb, o);
      later = λ j g k. let h = old.later j (omega (arith, g)) k in All-set (λ (x : Edge). edge_key x ≤ edge_key (edge_at es j)) acc m new (h m no_edge inside) h;
    }

  module _ (other : 0 < length acc → (last_edge acc).dir ≢ e.dir) where
    below : (k : ℕ) (d : Edge) → k < length acc → edge_key (slice_index_or acc k d) < edge_key e
    below k d lk =
        let m = length acc - 1 in
        let lm : m < length acc = omega (arith, lk) in
        let came = old.come m no_edge lm in
        let le = old.later i (omega arith) l m no_edge lm in
        let low : (last_edge acc).dir < 2 ^ 32 = subst (λ x. x < 2 ^ 32) came.3 (small came.0 no_edge came.1) in
        let high = small i no_edge l in
        let ne : edge_key (last_edge acc) ≡ edge_key e → ⊥ = λ f. other (omega (arith, lk)) (keys_apart (last_edge acc).from (last_edge acc).dir e.from e.dir low high f) in
        let last : edge_key (last_edge acc) < edge_key e = ⊎_elim (λ (x : edge_key (last_edge acc) < edge_key e). x) (λ (x : edge_key e ≤ edge_key (last_edge acc)). absurd (ne (omega (arith, x, le)))) (cases_lt (edge_key (last_edge acc)) (edge_key e)) in
        ⊎_elim
        (λ (x : k < m). let o = old.ascend k m d x lm in let r = ap edge_key (get_or_default acc m no_edge d lm) in omega (arith, o, r, last))
        (λ (x : m ≤ k). let same : k ≡ m = omega (arith, x, lk) in let r = ap (λ n. edge_key (slice_index_or acc n d)) same in let s = ap edge_key (get_or_default acc m no_edge d lm) in omega (arith, r, s, last))
        (cases_lt k m)

    pushed : MergedSoFar es (i + 1) (acc ++ e ∷ [])
    pushed = record {
      sums = λ q. omega (arith, sum_by_push (λ (x : Edge). x.units * q x.from x.dir x.to) acc e, take_more q, old.sums q);
      come = All-push (HasDirectionOf es) acc e old.come (i, l, refl, refl, refl);
      some = λ h. All-push (λ (x : Edge). 0 < x.units) acc e (old.some h) (h i no_edge l);
      ascend = all_pairs_push (λ (a b : Edge). edge_key a < edge_key b) acc e old.ascend below;
      later = λ j g k. All-push (λ (x : Edge). edge_key x ≤ edge_key (edge_at es j)) acc e (old.later j (omega (arith, g)) k) (sorted i j no_edge (omega (arith, g)) k);
    }

  pub merge_turn : AddOutcome acc e more → MergedSoFar es (i + 1) more
  merge_turn added = ⊎_elim
      (λ (h : (0 < length acc) × ((last_edge acc).dir ≡ e.dir) × (more ≡ set acc (length acc - 1) (record (last_edge acc) { units = (last_edge acc).units + e.units }))). subst (MergedSoFar es (i + 1)) (sym h.2) (joined h.0 h.1))
      (λ (h : (0 < length acc → (last_edge acc).dir ≢ e.dir) × (more ≡ acc ++ e ∷ [])). subst (MergedSoFar es (i + 1)) (sym h.1) (pushed h.0))
      added

  pub add_fits : weighted_units whole es < 2 ^ 128 → (last_edge acc).units + e.units < 2 ^ 128
  add_fits fits =
      let w : Edge → ℕ = λ (x : Edge). x.units * 1 in
      omega (arith, fits, last_le acc, old.sums whole, sum_by_more_le w es i no_edge l)
    where
      last_le : (xs : List Edge) → (last_edge xs).units ≤ weighted_units whole xs
      last_le [] = omega arith
      last_le (x ∷ xs) = let h = get_or-le-sum_by (λ (y : Edge). y.units * 1) (x ∷ xs) (length (x ∷ xs) - 1) no_edge (omega arith) in omega (arith, h)

pub one_ends : (net : Net) (es : List Edge) → IsInstance net → AreDirections net.arcs es → HasEqualEnds es
one_ends net es good known i j li lj same =
    let a = known i no_edge li in
    let b = known j no_edge lj in (
      place (λ x. x.from) (λ p q d l k e. (good.dearer p q d l k e).0) a.at b.at a.within b.within a.starts b.starts (a.of_dir ∙ same ∙ sym b.of_dir),
      place (λ x. x.to) (λ p q d l k e. (good.dearer p q d l k e).1) a.at b.at a.within b.within a.ends b.ends (a.of_dir ∙ same ∙ sym b.of_dir),
    )
  where
    place : (f : Arc → ℕ) → AllPairs (λ a b. a.dir ≡ b.dir → f a ≡ f b) net.arcs → (p q : ℕ) → p < length net.arcs → q < length net.arcs → {x y : ℕ} → f (slice_index_or net.arcs p no_arc) ≡ x → f (slice_index_or net.arcs q no_arc) ≡ y → (slice_index_or net.arcs p no_arc).dir ≡ (slice_index_or net.arcs q no_arc).dir → x ≡ y
    place f pairs p q lp lq ex ey same = sym ex ∙ agrees f net.arcs pairs p no_arc lp ∙ ap (first_of f net.arcs) same ∙ sym (agrees f net.arcs pairs q no_arc lq) ∙ ey

pub gathers_merged : (arcs : List Arc) (ls : List (Arc × ℕ)) (es more : List Edge) → AreEdgesOf arcs ls es → MergeOutcome es more → AreEdgesOf arcs ls more
gathers_merged arcs ls es more old h = record {
  sums = λ q. h.sums q ∙ old.sums q;
  known = λ k d l.
      let c = h.come k d l in
      let j = old.known c.0 no_edge c.1 in
      record { at = j.at; within = j.within; of_dir = j.of_dir ∙ c.3; starts = j.starts ∙ c.2; ends = j.ends ∙ c.4 };
  some = h.some old.some;
  small = λ k d l. let c = h.come k d l in subst (λ x. x < 2 ^ 32) c.3 (old.small c.0 no_edge c.1);
}

pub whole_fits : (net : Net) (flow : List ℕ) → IsInstance net → length flow ≡ length net.arcs → Fits net flow → weighted_flow whole (loads net flow) < 2 ^ 128
whole_fits net flow good long fits =
    omega (arith, good.ranges.few_arcs, length-zip net.arcs flow, sum_by-le (λ (l : Arc × ℕ). l.1 * 1) MAX (loads net flow) (λ k d l. let a = All-zip IsGoodArc net.arcs flow good.ranges.good_arcs k d l in let f = fits k d l in let m = a.most_room in omega (arith, f, m)))

pub sorted_gathers : (net : Net) (flow : List ℕ) (arcs : List Arc) (list : List ℕ) (es more read : List Edge) → arcs ≡ net.arcs → list ≡ flow → AreEdgesOf arcs (zip arcs list) es → IsPermutation es more → read ≡ more → AreEdgesOf net.arcs (loads net flow) read
sorted_gathers net flow arcs list es more read a f h moved is =
    let b = subst (λ xs. AreEdgesOf xs (zip xs list) es) a h in
    let c = subst (λ xs. AreEdgesOf net.arcs (zip net.arcs xs) es) f b in
    subst (AreEdgesOf net.arcs (loads net flow)) (sym is) (gathers_sorted net.arcs (loads net flow) es more moved c)
