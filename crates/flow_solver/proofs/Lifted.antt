-- Potentials lifted by the labels of a search from both ends: they show the flow, and a shortest path costs nothing.
use Rattle.std.proofs.Common.{ℕ, zero, suc, ◌+◌, ◌-◌, ◌*◌, ◌^◌, ◌<◌, ◌≤◌, ◌≡◌, Bool, true, false, List, ap, ◌∙◌, ⊎_elim, arith, length}
use Rattle.std.specs.Prelude.{All, min, slice_index, slice_index_or, ◌≢◌, ℤ, pos, ◌+ℤ◌, ◌-ℤ◌, ◌≤ℤ◌}
use Rattle.std.proofs.lemmas.Bool.{cases_lt}
use Rattle.std.proofs.lemmas.List.{get_or_past}
use Rattle.std.proofs.lemmas.List.Elements.{All-cons, All-nil, All-head, All-tail}
use Rattle.std.proofs.lemmas.Int.{ints}
use Rattle.flow_model.specs.declared.instance.Arc.{Arc}
use Rattle.flow_model.specs.Instance.{arc_at, no_arc}
use Rattle.flow_model.specs.Potentials.{IsShown, reduced_cost}
use Rattle.residual_net.specs.Residual.{ResidualNet, IsResidualNet}
use Rattle.residual_net.proofs.Loads.{zip_from_at, fits_at}
use Rattle.flow_solver.specs.declared.labels.TheConstants.{UNREACHED}
use Rattle.flow_solver.specs.Search.{tail_of, head_of, step_cost, IsNextStep, parent_of, previous_node, HasDepth, parent_path, IsSearchTree, IsFlowShown, HasBoundedPotentials}
use Rattle.flow_solver.specs.Meeting.{lift, IsLifted, IsMet}
use Rattle.flow_solver.proofs.Order.{all_forward, all_backward}
use Rattle.flow_solver.proofs.Trees.{head_in, cost_low, before_low, before_in}
use Rattle.flow_solver.proofs.Routes.{parents_all, chain_short}

-- r: the step's step_cost, u its start, v its end
pub both_stay : (r : ℤ) (a b best du dv eu ev : ℕ) → a + b ≡ best → pos 0 ≤ℤ r → (du < a → pos (min dv best) ≤ℤ (pos du +ℤ r)) → (ev < b → pos (min eu best) ≤ℤ (pos ev +ℤ r)) → best ≤ dv + ev → pos 0 ≤ℤ (r +ℤ lift a b du eu -ℤ lift a b dv ev)
both_stay r a b best du dv eu ev sum low from_s from_t meet = ⊎_elim
    (λ (s : du < a). let h = from_s s in ⊎_elim
    (λ (t : ev < b). omega (arith, ints, h, low, sum, meet, s, t))
    (λ (t : b ≤ ev). omega (arith, ints, h, low, sum, s, t))
    (cases_lt ev b))
    (λ (s : a ≤ du). ⊎_elim
    (λ (t : ev < b). let h = from_t t in omega (arith, ints, h, low, sum, s, t))
    (λ (t : b ≤ ev). omega (arith, ints, low, sum, s, t))
    (cases_lt ev b))
    (cases_lt du a)

-- the ends: the walk from the source to the destination has at most the length a + b
pub ends_free : (a b best ds es dt et : ℕ) (sum : ℤ) → a + b ≡ best → ds ≡ 0 → et ≡ 0 → best ≤ ds + es → best ≤ dt + et → sum ≤ℤ pos best → (sum +ℤ lift a b ds es -ℤ lift a b dt et) ≤ℤ pos 0
ends_free a b best ds es dt et sum ab s t meet_s meet_t short = omega (arith, ints, ab, s, t, meet_s, meet_t, short)

module _ (residual : ResidualNet) (p : List ℤ) (ok : IsResidualNet residual) (shown : IsFlowShown residual p) (labels : List ℕ) (parents : List (ℕ × Bool)) (tree : IsSearchTree residual p labels parents) where
  -- what the steps that lead to a node cost together
  abbrev pub path_cost : ℕ → ℕ → ℤ
  path_cost zero v = pos 0
  path_cost (suc k) v = path_cost k (previous_node residual.net.arcs parents v) +ℤ step_cost p (arc_at residual.net.arcs (parent_of parents v).0) (parent_of parents v).1

  -- at most the node's label
  pub path_low : (k v : ℕ) → HasDepth residual.net.arcs parents residual.net.source k v → v < residual.net.nodes → slice_index labels v < UNREACHED → path_cost k v ≤ℤ pos (slice_index labels v)
  path_low zero v chain l near = omega (arith, ints)
  path_low (suc k) v chain l near =
      let less = before_low residual p ok shown labels parents tree v l chain.0 near in
      let h = path_low k (previous_node residual.net.arcs parents v) chain.1 (before_in residual p ok shown labels parents tree v l chain.0 near) (omega (arith, less, near)) in
      let above = (tree.steps v l chain.0 near).above in
      omega (arith, ints, h, above)

  -- lift: what is added to each node's potential; no next step gains by it
  module _ (lift : ℕ → ℤ) (none : (s : ℕ × Bool) → IsNextStep residual s → pos 0 ≤ℤ (step_cost p (arc_at residual.net.arcs s.0) s.1 +ℤ lift (tail_of (arc_at residual.net.arcs s.0) s.1) -ℤ lift (head_of (arc_at residual.net.arcs s.0) s.1))) where
    step_none : (v : ℕ) → v < residual.net.nodes → v ≢ residual.net.source → slice_index labels v < UNREACHED → pos 0 ≤ℤ (step_cost p (arc_at residual.net.arcs (parent_of parents v).0) (parent_of parents v).1 +ℤ lift (previous_node residual.net.arcs parents v) -ℤ lift v)
    step_none v l ne near =
        let step = tree.steps v l ne near in
        let h = none (parent_of parents v) step.next in
        let e = ap lift step.head in
        omega (arith, ints, h, e)

    path_none : (k v : ℕ) → HasDepth residual.net.arcs parents residual.net.source k v → v < residual.net.nodes → slice_index labels v < UNREACHED → pos 0 ≤ℤ (path_cost k v +ℤ lift residual.net.source -ℤ lift v)
    path_none zero v chain l near = let e = ap lift chain in omega (arith, ints, e)
    path_none (suc k) v chain l near =
        let less = before_low residual p ok shown labels parents tree v l chain.0 near in
        let h = path_none k (previous_node residual.net.arcs parents v) chain.1 (before_in residual p ok shown labels parents tree v l chain.0 near) (omega (arith, less, near)) in
        let s = step_none v l chain.0 near in
        omega (arith, ints, h, s)

    pub path_free : (k v : ℕ) → HasDepth residual.net.arcs parents residual.net.source k v → v < residual.net.nodes → slice_index labels v < UNREACHED → (path_cost k v +ℤ lift residual.net.source -ℤ lift v) ≤ℤ pos 0 → All (λ (s : ℕ × Bool). step_cost p (arc_at residual.net.arcs s.0) s.1 +ℤ lift (tail_of (arc_at residual.net.arcs s.0) s.1) -ℤ lift (head_of (arc_at residual.net.arcs s.0) s.1) ≡ pos 0) (parent_path residual.net.arcs parents k v)
    path_free zero v chain l near short = All-nil (λ (s : ℕ × Bool). step_cost p (arc_at residual.net.arcs s.0) s.1 +ℤ lift (tail_of (arc_at residual.net.arcs s.0) s.1) -ℤ lift (head_of (arc_at residual.net.arcs s.0) s.1) ≡ pos 0)
    path_free (suc k) v chain l near short =
        let s = parent_of parents v in
        let u = previous_node residual.net.arcs parents v in
        let step = tree.steps v l chain.0 near in
        let less = before_low residual p ok shown labels parents tree v l chain.0 near in
        let lu = before_in residual p ok shown labels parents tree v l chain.0 near in
        let near' : slice_index labels (previous_node residual.net.arcs parents v) < UNREACHED = omega (arith, less, near) in
        let low = path_none k u chain.1 lu near' in
        let one = step_none v l chain.0 near in
        let e = ap lift step.head in
        let first : step_cost p (arc_at residual.net.arcs s.0) s.1 +ℤ lift (tail_of (arc_at residual.net.arcs s.0) s.1) -ℤ lift (head_of (arc_at residual.net.arcs s.0) s.1) ≡ pos 0 = omega (arith, ints, short, low, one, e) in
        All-cons (λ (s : ℕ × Bool). step_cost p (arc_at residual.net.arcs s.0) s.1 +ℤ lift (tail_of (arc_at residual.net.arcs s.0) s.1) -ℤ lift (head_of (arc_at residual.net.arcs s.0) s.1) ≡ pos 0) s (parent_path residual.net.arcs parents k u) first (path_free k u chain.1 lu near' (omega (arith, ints, short, low, one)))

module _ (residual : ResidualNet) (p new : List ℤ) (ok : IsResidualNet residual) (shown : IsFlowShown residual p) (bounded : HasBoundedPotentials residual.net p) (d e : List ℕ) (a b best : ℕ) (met : IsMet residual p d e a b best) (lifted : IsLifted p new d e a b) where
  abbrev up : ℕ → ℤ
  up v = lift a b (slice_index d v) (slice_index e v)

  none : (s : ℕ × Bool) → IsNextStep residual s → pos 0 ≤ℤ (step_cost p (arc_at residual.net.arcs s.0) s.1 +ℤ up (tail_of (arc_at residual.net.arcs s.0) s.1) -ℤ up (head_of (arc_at residual.net.arcs s.0) s.1))
  none s next = both_stay (step_cost p (arc_at residual.net.arcs s.0) s.1) a b best (slice_index d (tail_of (arc_at residual.net.arcs s.0) s.1)) (slice_index d (head_of (arc_at residual.net.arcs s.0) s.1)) (slice_index e (tail_of (arc_at residual.net.arcs s.0) s.1)) (slice_index e (head_of (arc_at residual.net.arcs s.0) s.1)) met.sum (cost_low residual p s ok shown next) (met.from_source s next) (met.from_target s next) (met.meets (head_of (arc_at residual.net.arcs s.0) s.1) (head_in residual s ok next.known))

  at : (v : ℕ) → v < residual.net.nodes → slice_index_or new v (pos 0) ≡ slice_index_or p v (pos 0) +ℤ up v +ℤ pos b
  at v l = lifted.each v (let n = bounded.long in omega (arith, l, n))

  -- the step_cost of a step under the lifted potentials
  new_cost : (i : ℕ) (back : Bool) → i < length residual.net.arcs → step_cost new (arc_at residual.net.arcs i) back ≡ step_cost p (arc_at residual.net.arcs i) back +ℤ up (tail_of (arc_at residual.net.arcs i) back) -ℤ up (head_of (arc_at residual.net.arcs i) back)
  new_cost i back l = by back
    where
      by : (c : Bool) → step_cost new (arc_at residual.net.arcs i) c ≡ step_cost p (arc_at residual.net.arcs i) c +ℤ up (tail_of (arc_at residual.net.arcs i) c) -ℤ up (head_of (arc_at residual.net.arcs i) c)
      by true = let f = at (arc_at residual.net.arcs i).from (ok.good.ranges.ends.froms i no_arc l) in let t = at (arc_at residual.net.arcs i).to (ok.good.ranges.ends.tos i no_arc l) in omega (arith, ints, f, t)
      by false = let f = at (arc_at residual.net.arcs i).from (ok.good.ranges.ends.froms i no_arc l) in let t = at (arc_at residual.net.arcs i).to (ok.good.ranges.ends.tos i no_arc l) in omega (arith, ints, f, t)

  pub shown_lifted : IsFlowShown residual new
  shown_lifted = zip_from_at (IsShown new) residual.net.arcs residual.flow ok.long (λ i l. (on i l, back i l))
    where
      on : (i : ℕ) → i < length residual.net.arcs → slice_index residual.flow i < (arc_at residual.net.arcs i).room → pos 0 ≤ℤ reduced_cost new (arc_at residual.net.arcs i)
      on = all_forward (λ x. pos 0 ≤ℤ reduced_cost new x) residual.net.arcs residual.flow ok.good.dearer
          (λ x y e' h q. let g = h e' in let f = ap (λ w. slice_index_or new w (pos 0)) g.0 in let t = ap (λ w. slice_index_or new w (pos 0)) g.1 in let c = g.2 in omega (arith, ints, q, f, t, c))
          (λ i l next. let h = none (i, false) (record { known = l; way = next }) in let n = new_cost i false l in omega (arith, ints, h, n))
          ok.fits
          (λ i l. fits_at residual i ok l)

      back : (i : ℕ) → i < length residual.net.arcs → 0 < slice_index residual.flow i → reduced_cost new (arc_at residual.net.arcs i) ≤ℤ pos 0
      back i l = all_backward (λ x. reduced_cost new x ≤ℤ pos 0) residual.net.arcs residual.flow ok.good.dearer
          (λ x y e' h q. let g = h e' in let f = ap (λ w. slice_index_or new w (pos 0)) g.0 in let t = ap (λ w. slice_index_or new w (pos 0)) g.1 in let c = g.2 in omega (arith, ints, q, f, t, c))
          (λ i l next. let h = none (i, true) (record { known = l; way = next }) in let n = new_cost i true l in omega (arith, ints, h, n))
          (length residual.net.arcs - i) i (omega arith) (omega arith)

  -- labels: those of the source's tree once they were carried on to the destination
  module _ (labels : List ℕ) (parents : List (ℕ × Bool)) (tree : IsSearchTree residual p labels parents) (near : slice_index labels residual.net.destination < UNREACHED) (short : slice_index labels residual.net.destination ≤ best) (k : ℕ) (chain : HasDepth residual.net.arcs parents residual.net.source k residual.net.destination) where
    -- each step to the destination costs nothing more
    pub free_lifted : All (λ (s : ℕ × Bool). (s.0 < length residual.net.arcs) × (reduced_cost new (arc_at residual.net.arcs s.0) ≡ pos 0)) (parent_path residual.net.arcs parents k residual.net.destination)
    free_lifted j c l =
        let s : ℕ × Bool = slice_index_or (parent_path residual.net.arcs parents k residual.net.destination) j c in
        let t_in = ok.good.ranges.ends.destination_in in
        let low = path_low residual p ok shown labels parents tree k residual.net.destination chain t_in near in
        let ends = ends_free a b best (slice_index d residual.net.source) (slice_index e residual.net.source) (slice_index d residual.net.destination) (slice_index e residual.net.destination) (path_cost residual p ok shown labels parents tree k residual.net.destination) met.sum met.at_source met.at_target (met.meets residual.net.source ok.good.ranges.ends.source_in) (met.meets residual.net.destination ok.good.ranges.ends.destination_in) (omega (arith, ints, low, short)) in
        let free = path_free residual p ok shown labels parents tree up none k residual.net.destination chain t_in near ends j c l in
        let known = parents_all residual p ok shown labels parents tree (λ (q : ℕ × Bool). q.0 < length residual.net.arcs) UNREACHED (λ v lv ne n le. (tree.steps v lv ne n).next.known) k residual.net.destination chain t_in near (tree.most residual.net.destination) j c l in
        let is = new_cost s.0 s.1 known in
        (known, by s.1 (is ∙ free))
      where
        by : (x : Bool) → step_cost new (arc_at residual.net.arcs (slice_index_or (parent_path residual.net.arcs parents k residual.net.destination) j c).0) x ≡ pos 0 → reduced_cost new (arc_at residual.net.arcs (slice_index_or (parent_path residual.net.arcs parents k residual.net.destination) j c).0) ≡ pos 0
        by true h = omega (arith, ints, h)
        by false h = h

    climb : (n v : ℕ) → HasDepth residual.net.arcs parents residual.net.source n v → v < residual.net.nodes → slice_index labels v < UNREACHED → All (λ (s : ℕ × Bool). (s.0 < length residual.net.arcs) × (reduced_cost new (arc_at residual.net.arcs s.0) ≡ pos 0)) (parent_path residual.net.arcs parents n v) → slice_index_or new v (pos 0) ≤ℤ (slice_index_or new residual.net.source (pos 0) +ℤ pos (n * (2 * 10 ^ 12)))
    climb zero v c l n free = let f = ap (λ w. slice_index_or new w (pos 0)) c in omega (arith, ints, f)
    climb (suc n) v c l nr free =
        let P : ℕ × Bool → Type 0 = λ (s : ℕ × Bool). (s.0 < length residual.net.arcs) × (reduced_cost new (arc_at residual.net.arcs s.0) ≡ pos 0) in
        let s = parent_of parents v in
        let u = previous_node residual.net.arcs parents v in
        let one = All-head P s (parent_path residual.net.arcs parents n u) free in
        let less = before_low residual p ok shown labels parents tree v l c.0 nr in
        let h = climb n u c.1 (before_in residual p ok shown labels parents tree v l c.0 nr) (omega (arith, less, nr)) (All-tail P s (parent_path residual.net.arcs parents n u) free) in
        let step = by (arc_at residual.net.arcs s.0) s.1 (tree.steps v l c.0 nr).head (ok.good.ranges.good_arcs s.0 no_arc one.0).most_cost one.1 in
        omega (arith, ints, h, step)
      where
        by : (x : Arc) (y : Bool) → head_of x y ≡ v → x.cost ≤ 1999999999999 → reduced_cost new x ≡ pos 0 → slice_index_or new v (pos 0) ≤ℤ (slice_index_or new (tail_of x y) (pos 0) +ℤ pos (2 * 10 ^ 12))
        by x true head cheap none' = let f = ap (λ w. slice_index_or new w (pos 0)) head in omega (arith, ints, f, cheap, none')
        by x false head cheap none' = let f = ap (λ w. slice_index_or new w (pos 0)) head in omega (arith, ints, f, cheap, none')

    pub bounded_lifted : HasBoundedPotentials residual.net new
    bounded_lifted = record {
      long = lifted.long ∙ bounded.long;
      root = root;
      low = low;
      top = top;
      most = let c = chain_short residual p ok shown labels parents tree k residual.net.destination chain t_in near in let few = ok.good.ranges.few_nodes in let h = climb k residual.net.destination chain t_in near free_lifted in let r = root in omega (arith, ints, c, few, h, r);
    }
      where
        t_in : residual.net.destination < residual.net.nodes
        t_in = ok.good.ranges.ends.destination_in

        root : slice_index_or new residual.net.source (pos 0) ≡ pos 0
        root = let h = at residual.net.source ok.good.ranges.ends.source_in in let r = bounded.root in let s = met.at_source in let m = met.meets residual.net.source ok.good.ranges.ends.source_in in let c = met.sum in omega (arith, ints, h, r, s, m, c)

        at_t : slice_index_or new residual.net.destination (pos 0) ≡ slice_index_or p residual.net.destination (pos 0) +ℤ pos best
        at_t = let h = at residual.net.destination t_in in let s = met.at_target in let m = met.meets residual.net.destination ok.good.ranges.ends.destination_in in let c = met.sum in omega (arith, ints, h, s, m, c)

        outside : (v : ℕ) → residual.net.nodes ≤ v → slice_index_or new v (pos 0) ≡ pos 0
        outside v l = get_or_past new v (pos 0) (let n = lifted.long in let m = bounded.long in omega (arith, n, m, l))

        low : (v : ℕ) → pos 0 ≤ℤ slice_index_or new v (pos 0)
        low v = ⊎_elim
            (λ (l : v < residual.net.nodes). let h = at v l in let q = bounded.low v in omega (arith, ints, h, q))
            (λ (l : residual.net.nodes ≤ v). let h = outside v l in omega (arith, ints, h))
            (cases_lt v residual.net.nodes)

        top : (v : ℕ) → slice_index_or new v (pos 0) ≤ℤ slice_index_or new residual.net.destination (pos 0)
        top v = ⊎_elim
            (λ (l : v < residual.net.nodes). let h = at v l in let t = at_t in let q = bounded.top v in let c = met.sum in omega (arith, ints, h, t, q, c))
            (λ (l : residual.net.nodes ≤ v). let h = outside v l in let q = low residual.net.destination in omega (arith, ints, h, q))
            (cases_lt v residual.net.nodes)
