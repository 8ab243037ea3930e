-- One step tried, one pass over all arcs, and the first tree.
use Rattle.std.proofs.Common.{ℕ, ◌+◌, ◌*◌, ◌^◌, ◌<◌, ◌≤◌, ◌≡◌, Bool, true, false, List, sym, refl, ap, ◌∙◌, subst, subst₂, ⊎_elim, arith, length}
use Rattle.std.specs.Prelude.{replicate, set, slice_index, IsTrue, IsFalse, ℤ, pos, ◌+ℤ◌, ◌≤ℤ◌}
use Rattle.std.proofs.lemmas.Bool.{cases_eq, cases_lt, false≢true}
use Rattle.std.proofs.lemmas.List.{get_or-replicate, length-replicate, get_or-set_same, get_or-set_other, get_or_past}
use Rattle.std.proofs.lemmas.Int.{ints}
use lib.ListN.{length-set}
use Rattle.flow_model.specs.declared.instance.Arc.{Arc}
use Rattle.residual_net.specs.Residual.{ResidualNet, IsResidualNet}
use Rattle.flow_model.specs.Instance.{arc_at, no_arc}
use Rattle.flow_solver.specs.Search.{tail_of, head_of, step_cost, IsNextOfDirection, IsSearchTree, IsFlowShown, HasBoundedPotentials, IsSettledBelow, sum_of_labels, IsRelaxedTo}
use Rattle.flow_solver.specs.declared.labels.TheConstants.{UNREACHED}
use Rattle.flow_solver.proofs.Trees.{lowered, cost_low}

-- the most that a step costs
pub cost_most : (residual : ResidualNet) (p : List ℤ) (s : ℕ × Bool) → IsResidualNet residual → HasBoundedPotentials residual.net p → s.0 < length residual.net.arcs → step_cost p (arc_at residual.net.arcs s.0) s.1 ≤ℤ pos (2 * 10 ^ 12 + 2 ^ 24 * (2 * 10 ^ 12))
cost_most residual p s ok bounded known = by (arc_at residual.net.arcs s.0) s.1 (ok.good.ranges.good_arcs s.0 no_arc known).most_cost
  where
    by : (a : Arc) (b : Bool) → a.cost ≤ 1999999999999 → step_cost p a b ≤ℤ pos (2 * 10 ^ 12 + 2 ^ 24 * (2 * 10 ^ 12))
    by a true cheap = let l = bounded.low a.from in let h = bounded.top a.to in let m = bounded.most in omega (arith, ints, l, h, m, cheap)
    by a false cheap = let l = bounded.low a.to in let h = bounded.top a.from in let m = bounded.most in omega (arith, ints, l, h, m, cheap)

module _ (residual : ResidualNet) (p : List ℤ) (ok : IsResidualNet residual) (shown : IsFlowShown residual p) (labels : List ℕ) (parents : List (ℕ × Bool)) (tree : IsSearchTree residual p labels parents) (i : ℕ) (back : Bool) (known : i < length residual.net.arcs) (way : IsNextOfDirection residual.net.arcs residual.flow i back) where
  pub step_low : pos 0 ≤ℤ step_cost p (arc_at residual.net.arcs i) back
  step_low = cost_low residual p (i, back) ok shown (record { known = known; way = way })

  pub label_fits : (tail cost : ℕ) → pos cost ≡ step_cost p (arc_at residual.net.arcs i) back → step_cost p (arc_at residual.net.arcs i) back ≤ℤ pos (2 * 10 ^ 12 + 2 ^ 24 * (2 * 10 ^ 12)) → slice_index labels tail + cost < 2 ^ 128
  label_fits tail cost e h = let m = tree.most tail in omega (arith, ints, e, h, m)

  pub tried : (tail head cost : ℕ) (r : Bool) (new : List ℕ) (newer : List (ℕ × Bool)) → tail ≡ tail_of (arc_at residual.net.arcs i) back → head ≡ head_of (arc_at residual.net.arcs i) back → pos cost ≡ step_cost p (arc_at residual.net.arcs i) back → (IsTrue r → slice_index labels tail + cost < slice_index labels head) → (IsTrue r → new ≡ set labels head (slice_index labels tail + cost)) → (IsTrue r → newer ≡ set parents head (i, back)) → (IsFalse r → new ≡ labels) → (IsFalse r → newer ≡ parents) → IsSearchTree residual p new newer
  tried tail head cost true new newer t h e lower labels_is parents_is same kept =
      let u = ap (slice_index labels) t in
      let l = lower refl in
      let is : (pos (slice_index labels (tail_of (arc_at residual.net.arcs i) back)) +ℤ step_cost p (arc_at residual.net.arcs i) back) ≤ℤ pos (slice_index labels tail + cost) = omega (arith, ints, u, e) in
      let it = lowered residual p ok shown labels parents tree (i, back) head (slice_index labels tail + cost) (record { known = known; way = way }) (sym h) is l in
      subst₂ (IsSearchTree residual p) (sym (labels_is refl)) (sym (parents_is refl)) it
  tried tail head cost false new newer t h e lower labels_is parents_is same kept = subst₂ (IsSearchTree residual p) (sym (same refl)) (sym (kept refl)) tree

-- the invariant of a pass: the first arcs' steps are relaxed unless a label fell
pub record IsPassing (residual : ResidualNet) (p : List ℤ) (old labels : List ℕ) (parents : List (ℕ × Bool)) (changed : Bool) (i : ℕ) : Type 0 where
  pub tree : IsSearchTree residual p labels parents
  pub less : IsTrue changed → sum_of_labels labels < sum_of_labels old
  pub same : IsFalse changed → labels ≡ old
  pub done : IsFalse changed → (h : ℕ) (back : Bool) → h < i → IsNextOfDirection residual.net.arcs residual.flow h back → IsRelaxedTo residual.net.arcs p labels UNREACHED h back

pub pass_turn : (residual : ResidualNet) (p : List ℤ) (old labels new : List ℕ) (parents newer : List (ℕ × Bool)) (changed turned next : Bool) (i : ℕ) → IsPassing residual p old labels parents changed i → IsSearchTree residual p new newer → (IsTrue turned → sum_of_labels new < sum_of_labels labels) → (IsFalse turned → new ≡ labels) → (IsFalse turned → (back : Bool) → IsNextOfDirection residual.net.arcs residual.flow i back → IsRelaxedTo residual.net.arcs p labels UNREACHED i back) → (IsTrue turned → next ≡ true) → (IsFalse turned → next ≡ changed) → IsPassing residual p old new newer next (i + 1)
pass_turn residual p old labels new parents newer changed true next i so tree less same relaxed turns stays = record {
  tree = tree;
  less = λ t. lower changed so.less so.same;
  same = λ f. absurd (false≢true (sym f ∙ turns refl));
  done = λ f. absurd (false≢true (sym f ∙ turns refl));
}
  where
    lower : (c : Bool) → (IsTrue c → sum_of_labels labels < sum_of_labels old) → (IsFalse c → labels ≡ old) → sum_of_labels new < sum_of_labels old
    lower true a b = let x = a refl in let y = less refl in omega (arith, x, y)
    lower false a b = let x = ap sum_of_labels (b refl) in let y = less refl in omega (arith, x, y)
pass_turn residual p old labels new parents newer changed false next i so tree less same relaxed turns stays =
    let e = same refl in
    let n : next ≡ changed = stays refl in
    record {
      tree = tree;
      less = λ t. subst (λ ls. sum_of_labels ls < sum_of_labels old) (sym e) (so.less (sym n ∙ t));
      same = λ f. e ∙ so.same (sym n ∙ f);
      done = λ f h back l way. subst (λ ls. IsRelaxedTo residual.net.arcs p ls UNREACHED h back) (sym e) (⊎_elim
          (λ (k : h < i). so.done (sym n ∙ f) h back k way)
          (λ (k : i ≤ h). let at : h ≡ i = omega arith in subst (λ m. IsRelaxedTo residual.net.arcs p labels UNREACHED m back) (sym at) (relaxed refl back (subst (λ m. IsNextOfDirection residual.net.arcs residual.flow m back) at way)))
          (cases_lt h i));
    }

pub pass_settled : (residual : ResidualNet) (p : List ℤ) (old labels : List ℕ) (parents : List (ℕ × Bool)) (changed : Bool) (i : ℕ) → IsPassing residual p old labels parents changed i → length residual.net.arcs ≤ i → IsFalse changed → (bound : ℕ) → IsSettledBelow residual p labels bound
pass_settled residual p old labels parents changed i so l f bound s next near = let h = so.done f s.0 s.1 (let k = next.known in omega (arith, l, k)) next.way in let m = so.tree.most (head_of (arc_at residual.net.arcs s.0) s.1) in omega (arith, ints, h, m)

-- the first labels: 0 at the source, UNREACHED elsewhere
module _ (n s : ℕ) (l : s < n) where
  abbrev first : List ℕ
  first = set (replicate n UNREACHED) s 0

  first_root : slice_index first s ≡ 0
  first_root = get_or-set_same (replicate n UNREACHED) s 0 0 (omega (arith, l, length-replicate {A = ℕ} n UNREACHED))

  first_other : (v : ℕ) → (v ≡ s → ⊥) → slice_index first v ≡ slice_index (replicate n UNREACHED) v
  first_other v ne = get_or-set_other (replicate n UNREACHED) s v 0 0 ne

  first_most : (v : ℕ) → slice_index first v ≤ UNREACHED
  first_most v = ⊎_elim
      (λ (at : v ≡ s). subst (λ w. slice_index first w ≤ UNREACHED) (sym at) (omega (arith, first_root)))
      (λ (ne : v ≡ s → ⊥). ⊎_elim
      (λ (k : v < n). let o = first_other v ne in let r = get_or-replicate {A = ℕ} n v UNREACHED 0 k in omega (arith, o, r))
      (λ (k : n ≤ v). let o = first_other v ne in let r = get_or_past (replicate n UNREACHED) v 0 (omega (arith, k, length-replicate {A = ℕ} n UNREACHED)) in omega (arith, o, r))
      (cases_lt v n))
      (cases_eq v s)

  pub first_near : (v : ℕ) → v < n → slice_index first v < UNREACHED → v ≡ s
  first_near v k near = ⊎_elim
      (λ (at : v ≡ s). at)
      (λ (ne : v ≡ s → ⊥). absurd (let o = first_other v ne in let r = get_or-replicate {A = ℕ} n v UNREACHED 0 k in omega (arith, o, r, near)))
      (cases_eq v s)

pub first_tree : (residual : ResidualNet) (p : List ℤ) (labels : List ℕ) (parents : List (ℕ × Bool)) → IsResidualNet residual → labels ≡ set (replicate residual.net.nodes UNREACHED) residual.net.source 0 → length parents ≡ residual.net.nodes → IsSearchTree residual p labels parents
first_tree residual p labels parents ok e long =
    let n = residual.net.nodes in
    let s = residual.net.source in
    let l = ok.good.ranges.ends.source_in in
    subst (λ ls. IsSearchTree residual p ls parents) (sym e) record {
      long = length-set (replicate n UNREACHED) s 0 ∙ length-replicate n UNREACHED;
      as_long = long;
      root = first_root n s l;
      most = first_most n s l;
      steps = λ v k ne near. absurd (ne (first_near n s l v k near));
      rooted = λ v k near. (0, first_near n s l v k near);
    }
