-- Raised potentials show the flow, and make the steps of the path cost nothing.
use Rattle.std.proofs.Common.{ℕ, ◌-◌, ◌*◌, ◌^◌, ◌<◌, ◌≤◌, ◌≡◌, Bool, true, false, List, sym, ap, ◌∙◌, subst, ⊎_elim, arith, length}
use Rattle.std.specs.Prelude.{min, slice_index, slice_index_or, ◌≢◌, ℤ, pos, ◌+ℤ◌, ◌-ℤ◌, ◌≤ℤ◌}
use Rattle.std.proofs.lemmas.Bool.{cases_lt}
use Rattle.std.proofs.lemmas.List.{get_or_past}
use Rattle.std.proofs.lemmas.Int.{ints}
use Rattle.flow_model.specs.declared.instance.Arc.{Arc}
use Rattle.flow_model.specs.Potentials.{IsShown, reduced_cost}
use Rattle.residual_net.specs.Residual.{ResidualNet, IsResidualNet}
use Rattle.flow_model.specs.Instance.{arc_at, no_arc}
use Rattle.residual_net.proofs.Loads.{at_from_zip, zip_from_at, fits_at}
use Rattle.flow_solver.specs.Search.{tail_of, head_of, step_cost, parent_of, IsSearchTree, IsFlowShown, IsSettledBelow, IsRaised, HasBoundedPotentials}
use Rattle.flow_solver.proofs.Order.{all_forward, all_backward}
use Rattle.flow_solver.proofs.Trees.{before_low}
use Rattle.flow_solver.specs.declared.labels.TheConstants.{UNREACHED}
use Rattle.flow_solver.proofs.Routes.{tight, label_bound, chain_short}

-- c: the cost, f and t: the potentials of the arc's ends, d and e: their labels, m: the bound
pub stays_forward : (c : ℕ) (f t : ℤ) (d e m : ℕ) → pos 0 ≤ℤ (pos c +ℤ f -ℤ t) → (d < m → pos (min e m) ≤ℤ (pos d +ℤ (pos c +ℤ f -ℤ t))) → pos 0 ≤ℤ (pos c +ℤ (f +ℤ pos (min d m)) -ℤ (t +ℤ pos (min e m)))
stays_forward c f t d e m r l = ⊎_elim (λ (k : d < m). let h = l k in omega (arith, ints, r, h)) (λ (k : m ≤ d). omega (arith, ints, r, k)) (cases_lt d m)

pub stays_backward : (c : ℕ) (f t : ℤ) (d e m : ℕ) → (pos c +ℤ f -ℤ t) ≤ℤ pos 0 → (e < m → pos (min d m) ≤ℤ (pos e +ℤ (pos 0 -ℤ (pos c +ℤ f -ℤ t)))) → (pos c +ℤ (f +ℤ pos (min d m)) -ℤ (t +ℤ pos (min e m))) ≤ℤ pos 0
stays_backward c f t d e m r l = ⊎_elim (λ (k : e < m). let h = l k in omega (arith, ints, r, h)) (λ (k : m ≤ e). omega (arith, ints, r, k)) (cases_lt e m)

pub comes_to_none : (c : ℕ) (f t : ℤ) (d e m : ℕ) → d ≤ m → e ≤ m → pos e ≡ pos d +ℤ (pos c +ℤ f -ℤ t) → pos c +ℤ (f +ℤ pos (min d m)) -ℤ (t +ℤ pos (min e m)) ≡ pos 0
comes_to_none c f t d e m dm em eq = omega (arith, ints, eq)

module _ (residual : ResidualNet) (p new : List ℤ) (ok : IsResidualNet residual) (labels : List ℕ) (bound : ℕ) (long : length p ≡ residual.net.nodes) (raised : IsRaised p new labels bound) where
  raised_cost : (i : ℕ) → i < length residual.net.arcs → reduced_cost new (arc_at residual.net.arcs i) ≡ pos (arc_at residual.net.arcs i).cost +ℤ (slice_index_or p (arc_at residual.net.arcs i).from (pos 0) +ℤ pos (min (slice_index labels (arc_at residual.net.arcs i).from) bound)) -ℤ (slice_index_or p (arc_at residual.net.arcs i).to (pos 0) +ℤ pos (min (slice_index labels (arc_at residual.net.arcs i).to) bound))
  raised_cost i l =
      let from = ok.good.ranges.ends.froms i no_arc l in
      let to = ok.good.ranges.ends.tos i no_arc l in
      let f = raised.each (arc_at residual.net.arcs i).from (omega (arith, from, long)) in
      let t = raised.each (arc_at residual.net.arcs i).to (omega (arith, to, long)) in
      omega (arith, ints, f, t)

  -- raised potentials show the flow
  pub shown_raised : IsFlowShown residual p → IsSettledBelow residual p labels bound → IsFlowShown residual new
  shown_raised shown settled = zip_from_at (IsShown new) residual.net.arcs residual.flow ok.long (λ i l. (on i l, back i l))
    where
      on : (i : ℕ) → i < length residual.net.arcs → slice_index residual.flow i < (arc_at residual.net.arcs i).room → pos 0 ≤ℤ reduced_cost new (arc_at residual.net.arcs i)
      on = all_forward (λ a. pos 0 ≤ℤ reduced_cost new a) residual.net.arcs residual.flow ok.good.dearer
          (λ a b e d h. let g = d e in let f = ap (λ w. slice_index_or new w (pos 0)) g.0 in let t = ap (λ w. slice_index_or new w (pos 0)) g.1 in let c = g.2 in omega (arith, ints, h, f, t, c))
          (λ i l next.
          let a = arc_at residual.net.arcs i in
          let at = (at_from_zip (IsShown p) residual.net.arcs residual.flow i ok.long l shown).0 next.0 in
          let e = raised_cost i l in
          subst (λ z. pos 0 ≤ℤ z) (sym e) (stays_forward a.cost (slice_index_or p a.from (pos 0)) (slice_index_or p a.to (pos 0)) (slice_index labels a.from) (slice_index labels a.to) bound at (λ k. settled (i, false) (record { known = l; way = next }) k)))
          ok.fits
          (λ i l. fits_at residual i ok l)

      back : (i : ℕ) → i < length residual.net.arcs → 0 < slice_index residual.flow i → reduced_cost new (arc_at residual.net.arcs i) ≤ℤ pos 0
      back i l = all_backward (λ a. reduced_cost new a ≤ℤ pos 0) residual.net.arcs residual.flow ok.good.dearer
          (λ a b e d h. let g = d e in let f = ap (λ w. slice_index_or new w (pos 0)) g.0 in let t = ap (λ w. slice_index_or new w (pos 0)) g.1 in let c = g.2 in omega (arith, ints, h, f, t, c))
          (λ i l next.
          let a = arc_at residual.net.arcs i in
          let at = (at_from_zip (IsShown p) residual.net.arcs residual.flow i ok.long l shown).1 next.0 in
          let e = raised_cost i l in
          subst (λ z. z ≤ℤ pos 0) (sym e) (stays_backward a.cost (slice_index_or p a.from (pos 0)) (slice_index_or p a.to (pos 0)) (slice_index labels a.from) (slice_index labels a.to) bound at (λ k. settled (i, true) (record { known = l; way = next }) k)))
          (length residual.net.arcs - i) i (omega arith) (omega arith)

  -- the parent step of a node whose label is at most the bound has reduced cost 0 under the raised potentials
  pub free_raised : (parents : List (ℕ × Bool)) → IsSearchTree residual p labels parents → IsFlowShown residual p → IsSettledBelow residual p labels bound → (v : ℕ) → v < residual.net.nodes → v ≢ residual.net.source → slice_index labels v < UNREACHED → slice_index labels v ≤ bound → ((parent_of parents v).0 < length residual.net.arcs) × (reduced_cost new (arc_at residual.net.arcs (parent_of parents v).0) ≡ pos 0)
  free_raised parents tree shown settled v l ne near le =
      let s = parent_of parents v in
      let a = arc_at residual.net.arcs s.0 in
      let step = tree.steps v l ne near in
      let less = before_low residual p ok shown labels parents tree v l ne near in
      let e = tight residual p ok shown labels parents tree bound settled v l ne near le in
      (step.next.known, raised_cost s.0 step.next.known ∙ by a s.1 step.head e (omega (arith, less, le)))
    where
      by : (a : Arc) (b : Bool) → head_of a b ≡ v → pos (slice_index labels v) ≡ pos (slice_index labels (tail_of a b)) +ℤ step_cost p a b → slice_index labels (tail_of a b) ≤ bound → pos a.cost +ℤ (slice_index_or p a.from (pos 0) +ℤ pos (min (slice_index labels a.from) bound)) -ℤ (slice_index_or p a.to (pos 0) +ℤ pos (min (slice_index labels a.to) bound)) ≡ pos 0
      by a true head e le' = let f = ap (slice_index labels) head in omega (arith, ints, f, e, le, le')
      by a false head e le' = let f = ap (slice_index labels) head in omega (arith, ints, f, e, le, le')

  -- raised potentials keep their bounds
  pub bounded_raised : (parents : List (ℕ × Bool)) → IsSearchTree residual p labels parents → IsFlowShown residual p → IsSettledBelow residual p labels bound → HasBoundedPotentials residual.net p → slice_index labels residual.net.destination ≡ bound → bound < UNREACHED → HasBoundedPotentials residual.net new
  bounded_raised parents tree shown settled bounded is near = record {
    long = raised.long ∙ long;
    root = let h = each residual.net.source ok.good.ranges.ends.source_in in let r = bounded.root in let t = tree.root in omega (arith, ints, h, r, t);
    low = low;
    top = top;
    most = let h = at_t in let m = most_t in omega (arith, ints, h, m);
  }
    where
      t_in : residual.net.destination < residual.net.nodes
      t_in = ok.good.ranges.ends.destination_in

      each : (v : ℕ) → v < residual.net.nodes → slice_index_or new v (pos 0) ≡ slice_index_or p v (pos 0) +ℤ pos (min (slice_index labels v) bound)
      each v l = raised.each v (omega (arith, l, long))

      at_t : slice_index_or new residual.net.destination (pos 0) ≡ slice_index_or p residual.net.destination (pos 0) +ℤ pos bound
      at_t = let h = each residual.net.destination t_in in omega (arith, ints, h, is)

      most_t : (pos bound +ℤ slice_index_or p residual.net.destination (pos 0)) ≤ℤ pos (2 ^ 24 * (2 * 10 ^ 12))
      most_t =
          let near' : slice_index labels residual.net.destination < UNREACHED = omega (arith, is, near) in
          let chain = tree.rooted residual.net.destination t_in near' in
          let short = chain_short residual p ok shown labels parents tree chain.0 residual.net.destination chain.1 t_in near' in
          let few = ok.good.ranges.few_nodes in
          let h = label_bound residual p ok shown labels parents tree bound settled chain.0 residual.net.destination bounded.root chain.1 t_in near' (omega (arith, is)) in
          omega (arith, ints, h, is, short, few)

      outside : (v : ℕ) → residual.net.nodes ≤ v → slice_index_or new v (pos 0) ≡ pos 0
      outside v l = get_or_past new v (pos 0) (omega (arith, raised.long, long, l))

      low : (v : ℕ) → pos 0 ≤ℤ slice_index_or new v (pos 0)
      low v = ⊎_elim
          (λ (l : v < residual.net.nodes). let h = each v l in let k = bounded.low v in omega (arith, ints, h, k))
          (λ (l : residual.net.nodes ≤ v). let h = outside v l in omega (arith, ints, h))
          (cases_lt v residual.net.nodes)

      top : (v : ℕ) → slice_index_or new v (pos 0) ≤ℤ slice_index_or new residual.net.destination (pos 0)
      top v = ⊎_elim
          (λ (l : v < residual.net.nodes). let h = each v l in let t = at_t in let k = bounded.top v in omega (arith, ints, h, t, k))
          (λ (l : residual.net.nodes ≤ v). let h = outside v l in let k = low residual.net.destination in omega (arith, ints, h, k))
          (cases_lt v residual.net.nodes)
