-- Labels and the tree that they come from: lowering a label by a step keeps the tree.
use Rattle.std.proofs.Common.{ℕ, zero, suc, ◌<◌, ◌≤◌, ◌≡◌, Bool, true, false, List, sym, ap, ◌∙◌, subst, ⊎_elim, arith, length}
use Rattle.std.specs.Prelude.{set, slice_index, ◌≢◌, ℤ, pos, ◌+ℤ◌, ◌≤ℤ◌, ◌⊎◌}
use Rattle.std.proofs.lemmas.Bool.{cases_eq}
use Rattle.std.proofs.lemmas.List.{get_or-set_other, get_or-set_same}
use Rattle.std.proofs.lemmas.Int.{ints}
use lib.ListN.{length-set}
use Rattle.flow_model.specs.Potentials.{IsShown}
use Rattle.residual_net.specs.Residual.{ResidualNet, IsResidualNet}
use Rattle.flow_model.specs.Instance.{arc_at, no_arc}
use Rattle.residual_net.proofs.Loads.{at_from_zip}
use Rattle.flow_solver.specs.declared.labels.TheConstants.{UNREACHED}
use Rattle.flow_solver.specs.Search.{tail_of, head_of, step_cost, IsNextOfDirection, IsNextStep, parent_of, previous_node, HasDepth, IsParentStep, IsSearchTree, IsFlowShown}

-- a step starts at a node and ends at a node
pub tail_in : (residual : ResidualNet) (s : ℕ × Bool) → IsResidualNet residual → s.0 < length residual.net.arcs → tail_of (arc_at residual.net.arcs s.0) s.1 < residual.net.nodes
tail_in residual s ok l = by s.1
  where
    by : (b : Bool) → tail_of (arc_at residual.net.arcs s.0) b < residual.net.nodes
    by true = ok.good.ranges.ends.tos s.0 no_arc l
    by false = ok.good.ranges.ends.froms s.0 no_arc l

pub head_in : (residual : ResidualNet) (s : ℕ × Bool) → IsResidualNet residual → s.0 < length residual.net.arcs → head_of (arc_at residual.net.arcs s.0) s.1 < residual.net.nodes
head_in residual s ok l = by s.1
  where
    by : (b : Bool) → head_of (arc_at residual.net.arcs s.0) b < residual.net.nodes
    by true = ok.good.ranges.ends.froms s.0 no_arc l
    by false = ok.good.ranges.ends.tos s.0 no_arc l

-- a step that a search may use costs at least 0
pub cost_low : (residual : ResidualNet) (p : List ℤ) (s : ℕ × Bool) → IsResidualNet residual → IsFlowShown residual p → IsNextStep residual s → pos 0 ≤ℤ step_cost p (arc_at residual.net.arcs s.0) s.1
cost_low residual p s ok shown next = by s.1 next.way
  where
    at : IsShown p (arc_at residual.net.arcs s.0, slice_index residual.flow s.0)
    at = at_from_zip (IsShown p) residual.net.arcs residual.flow s.0 ok.long next.known shown

    by : (b : Bool) → IsNextOfDirection residual.net.arcs residual.flow s.0 b → pos 0 ≤ℤ step_cost p (arc_at residual.net.arcs s.0) b
    by true way = let h = at.1 way.0 in omega (arith, ints, h)
    by false way = at.0 way.0

module _ (residual : ResidualNet) (p : List ℤ) (ok : IsResidualNet residual) (shown : IsFlowShown residual p) (labels : List ℕ) (parents : List (ℕ × Bool)) (tree : IsSearchTree residual p labels parents) where
  -- the previous node is in the tree, and its label is no higher
  pub before_low : (v : ℕ) → v < residual.net.nodes → v ≢ residual.net.source → slice_index labels v < UNREACHED → slice_index labels (previous_node residual.net.arcs parents v) ≤ slice_index labels v
  before_low v l ne near =
      let step = tree.steps v l ne near in
      let low = cost_low residual p (parent_of parents v) ok shown step.next in
      let above = step.above in
      omega (arith, ints, low, above)

  pub before_in : (v : ℕ) → v < residual.net.nodes → v ≢ residual.net.source → slice_index labels v < UNREACHED → previous_node residual.net.arcs parents v < residual.net.nodes
  before_in v l ne near = tail_in residual (parent_of parents v) ok (tree.steps v l ne near).next.known

  module _ (s : ℕ × Bool) (v cand : ℕ) (next : IsNextStep residual s) (head : head_of (arc_at residual.net.arcs s.0) s.1 ≡ v) (is : (pos (slice_index labels (tail_of (arc_at residual.net.arcs s.0) s.1)) +ℤ step_cost p (arc_at residual.net.arcs s.0) s.1) ≤ℤ pos cand) (lower : cand < slice_index labels v) where
    abbrev u : ℕ
    u = tail_of (arc_at residual.net.arcs s.0) s.1

    v_in : v < residual.net.nodes
    v_in = subst (λ w. w < residual.net.nodes) head (head_in residual s ok next.known)

    u_low : slice_index labels (tail_of (arc_at residual.net.arcs s.0) s.1) ≤ cand
    u_low = let low = cost_low residual p s ok shown next in let e = is in omega (arith, ints, low, e)

    not_source : v ≢ residual.net.source
    not_source e = let f = ap (slice_index labels) e in omega (arith, f, tree.root, lower)

    -- the path to a node with a lower label stays
    chain_kept : (k w : ℕ) → HasDepth residual.net.arcs parents residual.net.source k w → w < residual.net.nodes → slice_index labels w < UNREACHED → slice_index labels w < slice_index labels v → HasDepth residual.net.arcs (set parents v s) residual.net.source k w
    chain_kept zero w chain l near less = chain
    chain_kept (suc k) w chain l near less =
        let x = previous_node residual.net.arcs parents w in
        let le = before_low w l chain.0 near in
        let ne : w ≢ v = λ e. let f = ap (slice_index labels) e in omega (arith, f, less) in
        let same : parent_of (set parents v s) w ≡ parent_of parents w = get_or-set_other parents v w s (0, false) ne in
        (chain.0, subst (λ (q : ℕ × Bool). HasDepth residual.net.arcs (set parents v s) residual.net.source k (tail_of (arc_at residual.net.arcs q.0) q.1)) (sym same) (chain_kept k x chain.1 (before_in w l chain.0 near) (omega (arith, le, near)) (omega (arith, le, less))))

    here : parent_of (set parents v s) v ≡ s
    here = get_or-set_same parents v s (0, false) (omega (arith, v_in, tree.as_long))

    chain_v : (k : ℕ) × HasDepth residual.net.arcs (set parents v s) residual.net.source k v
    chain_v =
        let most = tree.most v in
        let near : slice_index labels u < UNREACHED = omega (arith, u_low, lower, most) in
        let old = tree.rooted u (tail_in residual s ok next.known) near in
        let new = chain_kept old.0 u old.1 (tail_in residual s ok next.known) near (omega (arith, u_low, lower)) in
        (suc old.0, (not_source, subst (λ (q : ℕ × Bool). HasDepth residual.net.arcs (set parents v s) residual.net.source old.0 (tail_of (arc_at residual.net.arcs q.0) q.1)) (sym here) new))

    chain_any : (k w : ℕ) → HasDepth residual.net.arcs parents residual.net.source k w → w < residual.net.nodes → slice_index labels w < UNREACHED → (j : ℕ) × HasDepth residual.net.arcs (set parents v s) residual.net.source j w
    chain_any zero w chain l near = (0, chain)
    chain_any (suc k) w chain l near = on (chain_any k (previous_node residual.net.arcs parents w) chain.1 (before_in w l chain.0 near) (let le = before_low w l chain.0 near in omega (arith, le, near))) (cases_eq w v)
      where
        on : ((j : ℕ) × HasDepth residual.net.arcs (set parents v s) residual.net.source j (previous_node residual.net.arcs parents w)) → (w ≡ v) ⊎ (w ≡ v → ⊥) → (j : ℕ) × HasDepth residual.net.arcs (set parents v s) residual.net.source j w
        on old c = ⊎_elim
            (λ (e : w ≡ v). subst (λ z. (j : ℕ) × HasDepth residual.net.arcs (set parents v s) residual.net.source j z) (sym e) chain_v)
            (λ (ne : w ≡ v → ⊥).
            let same : parent_of (set parents v s) w ≡ parent_of parents w = get_or-set_other parents v w s (0, false) ne in
            (suc old.0, (chain.0, subst (λ (q : ℕ × Bool). HasDepth residual.net.arcs (set parents v s) residual.net.source old.0 (tail_of (arc_at residual.net.arcs q.0) q.1)) (sym same) old.1)))
            c

    at_v : slice_index (set labels v cand) v ≡ cand
    at_v = get_or-set_same labels v cand 0 (omega (arith, v_in, tree.long))

    at_other : (w : ℕ) → (w ≡ v → ⊥) → slice_index (set labels v cand) w ≡ slice_index labels w
    at_other w ne = get_or-set_other labels v w cand 0 ne

    at_most : (w : ℕ) → slice_index (set labels v cand) w ≤ slice_index labels w
    at_most w = ⊎_elim
        (λ (e : w ≡ v). subst (λ z. slice_index (set labels v cand) z ≤ slice_index labels z) (sym e) (omega (arith, at_v, lower)))
        (λ (ne : w ≡ v → ⊥). let h = at_other w ne in omega (arith, h))
        (cases_eq w v)

    parent_v : IsParentStep residual p (set labels v cand) v s
    parent_v =
        let ne : u ≢ v = λ e. let f = ap (slice_index labels) e in omega (arith, f, u_low, lower) in
        let a = at_other u ne in
        record { next = next; head = head; above = omega (arith, ints, a, at_v, is) }

    parent_w : (w : ℕ) → (w ≡ v → ⊥) → IsParentStep residual p labels w (parent_of parents w) → IsParentStep residual p (set labels v cand) w (parent_of parents w)
    parent_w w ne old =
        let q = parent_of parents w in
        let a = at_most (tail_of (arc_at residual.net.arcs q.0) q.1) in
        let b = at_other w ne in
        let above = old.above in
        record { next = old.next; head = old.head; above = omega (arith, ints, a, b, above) }

    pub lowered : IsSearchTree residual p (set labels v cand) (set parents v s)
    lowered = record {
      long = length-set labels v cand ∙ tree.long;
      as_long = length-set parents v s ∙ tree.as_long;
      root = at_other residual.net.source (λ e. not_source (sym e)) ∙ tree.root;
      most = λ w. let a = at_most w in let b = tree.most w in omega (arith, a, b);
      steps = λ w l ne near. ⊎_elim
          (λ (e : w ≡ v). subst (λ z. IsParentStep residual p (set labels v cand) z (parent_of (set parents v s) z)) (sym e) (subst (IsParentStep residual p (set labels v cand) v) (sym here) parent_v))
          (λ (n : w ≡ v → ⊥). subst (IsParentStep residual p (set labels v cand) w) (sym (get_or-set_other parents v w s (0, false) n)) (parent_w w n (tree.steps w l ne (let b = at_other w n in omega (arith, b, near)))))
          (cases_eq w v);
      rooted = λ w l near. ⊎_elim
          (λ (e : w ≡ v). subst (λ z. (j : ℕ) × HasDepth residual.net.arcs (set parents v s) residual.net.source j z) (sym e) chain_v)
          (λ (n : w ≡ v → ⊥). let b = at_other w n in let near' : slice_index labels w < UNREACHED = omega (arith, b, near) in let old = tree.rooted w l near' in chain_any old.0 w old.1 l near')
          (cases_eq w v);
    }
