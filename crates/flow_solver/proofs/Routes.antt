-- The parent steps to a node: no direction is repeated, and what a push along them does.
use Rattle.std.proofs.Common.{ℕ, zero, suc, ◌+◌, ◌*◌, ◌^◌, ◌<◌, ◌≤◌, ◌≡◌, Bool, true, false, List, [], ◌∷◌, sym, refl, ap, ◌∙◌, subst, ⊎_elim, inl, inr, arith, length}
use Rattle.std.specs.Prelude.{All, AllPairs, zip, set, min, slice_index, slice_index_or, nat_eq, ◌≢◌, ℤ, pos, ◌+ℤ◌, ◌-ℤ◌, ◌≤ℤ◌, ◌⊎◌, ◌||◌}
use Rattle.std.specs.List.{IsDistinct, AllByRecursion, list_any}
use Rattle.std.proofs.lemmas.Bool.{cases_eq, cases_lt, false≢true, ne_eqb}
use Rattle.std.proofs.lemmas.Map.Steps.{length-le_from_distinct_below}
use Rattle.std.proofs.lemmas.List.{get_or-set_other}
use Rattle.std.proofs.lemmas.List.Elements.{All-cons, All-nil, All-head, All-tail}
use Rattle.std.proofs.lemmas.List.Kept.{AllPairs-cons}
use Rattle.std.proofs.lemmas.Int.{ints}
use lib.ListN.{length-set}
use Rattle.flow_model.specs.declared.instance.Arc.{Arc}
use Rattle.flow_model.specs.Flow.{Sends, loads}
use Rattle.flow_model.specs.Potentials.{IsShown, reduced_cost}
use Rattle.flow_model.proofs.Balance.{at_node, at_node-same, at_node-other}
use Rattle.residual_net.specs.Residual.{ResidualNet, IsResidualNet, flow_after, units_after, HasRoomFor, HasDistinctArcs}
use Rattle.flow_model.specs.Instance.{arc_at, no_arc}
use Rattle.residual_net.proofs.Pushed.{AllPairs-head, AllPairs-tail, rooms_after_first, distinct_after_first, length-flow_after, fits-flow_after, set_at}
use Rattle.flow_solver.specs.Search.{tail_of, head_of, step_cost, parent_of, previous_node, HasDepth, parent_path, IsParentStep, IsSearchTree, IsFlowShown, IsSettledBelow, InOrder}
use Rattle.flow_solver.proofs.Order.{same_ends, IsFullBefore, IsEmptyAfter, order_set}
use Rattle.flow_solver.proofs.Trees.{cost_low, before_low, before_in}
use Rattle.flow_solver.specs.declared.labels.TheConstants.{UNREACHED}
use Rattle.flow_solver.proofs.Push.{surplus, step_surplus}

module _ (arcs : List Arc) (parents : List (ℕ × Bool)) (source : ℕ) where
  -- a node has one depth
  pub chain_unique : (j k v : ℕ) → HasDepth arcs parents source j v → HasDepth arcs parents source k v → j ≡ k
  chain_unique zero zero v a b = refl
  chain_unique zero (suc k) v a b = absurd (b.0 a)
  chain_unique (suc j) zero v a b = absurd (a.0 b)
  chain_unique (suc j) (suc k) v a b = let h = chain_unique j k (previous_node arcs parents v) a.1 b.1 in omega (arith, h)

  -- the nodes on the path
  abbrev nodes_of : ℕ → ℕ → List ℕ
  nodes_of zero v = v ∷ []
  nodes_of (suc k) v = v ∷ nodes_of k (previous_node arcs parents v)

  length-nodes_of : (k v : ℕ) → length (nodes_of k v) ≡ k + 1
  length-nodes_of zero v = refl
  length-nodes_of (suc k) v = let h = length-nodes_of k (previous_node arcs parents v) in omega (arith, h)

  nodes_apart : (k w n v : ℕ) → HasDepth arcs parents source k w → HasDepth arcs parents source n v → k < n → AllByRecursion (λ y. nat_eq v y ≡ false) (nodes_of k w)
  nodes_apart zero w n v a b less = (ne_eqb v w (λ e. let h = chain_unique n zero w (subst (HasDepth arcs parents source n) e b) a in omega (arith, h, less)), tt)
  nodes_apart (suc k) w n v a b less = (ne_eqb v w (λ e. let h = chain_unique n (suc k) w (subst (HasDepth arcs parents source n) e b) a in omega (arith, h, less)), nodes_apart k (previous_node arcs parents w) n v a.1 b (omega arith))

  nodes_distinct : (k v : ℕ) → HasDepth arcs parents source k v → IsDistinct nat_eq (nodes_of k v)
  unfolding IsDistinct
  nodes_distinct zero v a = (tt, tt)
  nodes_distinct (suc k) v a = (nodes_apart k (previous_node arcs parents v) (suc k) v a.1 a (omega arith), nodes_distinct k (previous_node arcs parents v) a.1)

member_below : (n q : ℕ) (xs : List ℕ) → AllByRecursion (λ y. y < n) xs → list_any (nat_eq q) xs ≡ true → q < n
member_below n q [] all some = absurd (false≢true some)
member_below n q (x ∷ xs) all some = ⊎_elim
    (λ (e : q ≡ x). omega (arith, e, all.0))
    (λ (ne : q ≡ x → ⊥). member_below n q xs all.1 (subst (λ b. (b || list_any (nat_eq q) xs) ≡ true) (ne_eqb q x ne) some))
    (cases_eq q x)

module _ (residual : ResidualNet) (p : List ℤ) (ok : IsResidualNet residual) (shown : IsFlowShown residual p) (labels : List ℕ) (parents : List (ℕ × Bool)) (tree : IsSearchTree residual p labels parents) where
  abbrev back_from : ℕ → ℕ
  back_from v = previous_node residual.net.arcs parents v

  abbrev Leads : ℕ → ℕ → Type 0
  Leads k v = HasDepth residual.net.arcs parents residual.net.source k v

  nodes_below : (k v : ℕ) → Leads k v → v < residual.net.nodes → slice_index labels v < UNREACHED → AllByRecursion (λ y. y < residual.net.nodes) (nodes_of residual.net.arcs parents residual.net.source k v)
  nodes_below zero v a l near = (l, tt)
  nodes_below (suc k) v a l near = (l, nodes_below k (back_from v) a.1 (before_in residual p ok shown labels parents tree v l a.0 near) (let le = before_low residual p ok shown labels parents tree v l a.0 near in omega (arith, le, near)))

  -- the depth is less than the number of nodes
  pub chain_short : (k v : ℕ) → Leads k v → v < residual.net.nodes → slice_index labels v < UNREACHED → k < residual.net.nodes
  chain_short k v a l near =
      let ns = nodes_of residual.net.arcs parents residual.net.source k v in
      let below = nodes_below k v a l near in
      let h = length-le_from_distinct_below ns residual.net.nodes (nodes_distinct residual.net.arcs parents residual.net.source k v a) (λ q some. member_below residual.net.nodes q ns below some) in
      omega (arith, h, length-nodes_of residual.net.arcs parents residual.net.source k v)

  module _ (bound : ℕ) (settled : IsSettledBelow residual p labels bound) where
    -- a parent step gives exactly the label of its node
    pub tight : (v : ℕ) → v < residual.net.nodes → v ≢ residual.net.source → slice_index labels v < UNREACHED → slice_index labels v ≤ bound → pos (slice_index labels v) ≡ pos (slice_index labels (back_from v)) +ℤ step_cost p (arc_at residual.net.arcs (parent_of parents v).0) (parent_of parents v).1
    tight v l ne near le =
        let s = parent_of parents v in
        let step = tree.steps v l ne near in
        let low = cost_low residual p s ok shown step.next in
        let above = step.above in
        ⊎_elim
        (λ (k : slice_index labels (back_from v) < bound).
        let relaxed : pos (min (slice_index labels v) bound) ≤ℤ (pos (slice_index labels (back_from v)) +ℤ step_cost p (arc_at residual.net.arcs s.0) s.1) = subst (λ w. pos (min (slice_index labels w) bound) ≤ℤ (pos (slice_index labels (back_from v)) +ℤ step_cost p (arc_at residual.net.arcs s.0) s.1)) step.head (settled s step.next k) in
        omega (arith, ints, relaxed, above, le))
        (λ (k : bound ≤ slice_index labels (back_from v)). omega (arith, ints, low, above, le, k))
        (cases_lt (slice_index labels (back_from v)) bound)

    cost_step : (a : Arc) (b : Bool) (v x y : ℕ) → head_of a b ≡ v → a.cost ≤ 1999999999999 → pos y ≡ pos x +ℤ step_cost p a b → (pos y +ℤ slice_index_or p v (pos 0)) ≤ℤ (pos x +ℤ slice_index_or p (tail_of a b) (pos 0) +ℤ pos (2 * 10 ^ 12))
    cost_step a true v x y head cheap e = let f = ap (λ w. slice_index_or p w (pos 0)) head in omega (arith, ints, e, f, cheap)
    cost_step a false v x y head cheap e = let f = ap (λ w. slice_index_or p w (pos 0)) head in omega (arith, ints, e, f, cheap)

    -- a label is bounded by the depth
    pub label_bound : (k v : ℕ) → slice_index_or p residual.net.source (pos 0) ≡ pos 0 → Leads k v → v < residual.net.nodes → slice_index labels v < UNREACHED → slice_index labels v ≤ bound → (pos (slice_index labels v) +ℤ slice_index_or p v (pos 0)) ≤ℤ pos (k * (2 * 10 ^ 12))
    label_bound zero v root a l near le =
        let f = ap (slice_index labels) a in
        let g = ap (λ w. slice_index_or p w (pos 0)) a in
        omega (arith, ints, f, g, tree.root, root)
    label_bound (suc k) v root a l near le =
        let s = parent_of parents v in
        let step = tree.steps v l a.0 near in
        let less = before_low residual p ok shown labels parents tree v l a.0 near in
        let i = before_in residual p ok shown labels parents tree v l a.0 near in
        let h = label_bound k (back_from v) root a.1 i (omega (arith, less, near)) (omega (arith, less, le)) in
        let c = cost_step (arc_at residual.net.arcs s.0) s.1 v (slice_index labels (back_from v)) (slice_index labels v) step.head ((ok.good.ranges.good_arcs s.0 no_arc step.next.known).most_cost) (tight v l a.0 near le) in
        omega (arith, ints, h, c)

  -- two parent steps of one direction lead to one node, or the one starts where the other ends
  crossed : (a b : Arc) (back_a back_b : Bool) (v w : ℕ) → a.from ≡ b.from → a.to ≡ b.to → head_of a back_a ≡ v → head_of b back_b ≡ w → (w ≡ v) ⊎ (tail_of b back_b ≡ v)
  crossed a b true true v w f t hv hw = inl (sym hw ∙ sym f ∙ hv)
  crossed a b true false v w f t hv hw = inr (sym f ∙ hv)
  crossed a b false true v w f t hv hw = inr (sym t ∙ hv)
  crossed a b false false v w f t hv hw = inl (sym hw ∙ sym t ∙ hv)

  -- the parent step of a node has another direction than the steps before it
  parents_apart : (k w n v : ℕ) → Leads k w → w < residual.net.nodes → slice_index labels w < UNREACHED → Leads n v → k < n → IsParentStep residual p labels v (parent_of parents v) → All (λ (t : ℕ × Bool). (arc_at residual.net.arcs (parent_of parents v).0).dir ≢ (arc_at residual.net.arcs t.0).dir) (parent_path residual.net.arcs parents k w)
  parents_apart zero w n v a l near b less step = All-nil (λ (t : ℕ × Bool). (arc_at residual.net.arcs (parent_of parents v).0).dir ≢ (arc_at residual.net.arcs t.0).dir)
  parents_apart (suc k) w n v a l near b less step =
      let q = parent_of parents w in
      let s = parent_of parents v in
      let other = tree.steps w l a.0 near in
      let le = before_low residual p ok shown labels parents tree w l a.0 near in
      let ne : (arc_at residual.net.arcs s.0).dir ≢ (arc_at residual.net.arcs q.0).dir = λ e.
      let ends = same_ends residual.net.arcs s.0 q.0 ok.good.dearer step.next.known other.next.known e in
      ⊎_elim
      (λ (same : w ≡ v). let h = chain_unique residual.net.arcs parents residual.net.source n (suc k) w (subst (Leads n) (sym same) b) a in omega (arith, h, less))
      (λ (same : back_from w ≡ v). let h = chain_unique residual.net.arcs parents residual.net.source k n v (subst (Leads k) same a.1) b in omega (arith, h, less))
      (crossed (arc_at residual.net.arcs s.0) (arc_at residual.net.arcs q.0) s.1 q.1 v w ends.0 ends.1 step.head other.head) in
      All-cons (λ (t : ℕ × Bool). (arc_at residual.net.arcs s.0).dir ≢ (arc_at residual.net.arcs t.0).dir) q (parent_path residual.net.arcs parents k (back_from w)) ne (parents_apart k (back_from w) n v a.1 (before_in residual p ok shown labels parents tree w l a.0 near) (omega (arith, le, near)) b (omega arith) step)

  -- no direction is repeated
  pub parents_dirs : (k v : ℕ) → Leads k v → v < residual.net.nodes → slice_index labels v < UNREACHED → AllPairs (λ (s t : ℕ × Bool). (arc_at residual.net.arcs s.0).dir ≢ (arc_at residual.net.arcs t.0).dir) (parent_path residual.net.arcs parents k v)
  parents_dirs zero v a l near = λ i j d less k. absurd (omega arith)
  parents_dirs (suc k) v a l near =
      let step = tree.steps v l a.0 near in
      let i = before_in residual p ok shown labels parents tree v l a.0 near in
      let le = before_low residual p ok shown labels parents tree v l a.0 near in
      let near' : slice_index labels (back_from v) < UNREACHED = omega (arith, le, near) in
      AllPairs-cons (λ (s t : ℕ × Bool). (arc_at residual.net.arcs s.0).dir ≢ (arc_at residual.net.arcs t.0).dir) (parent_of parents v) (parent_path residual.net.arcs parents k (back_from v)) (parents_apart k (back_from v) (suc k) v a.1 i near' a (omega arith) step) (parents_dirs k (back_from v) a.1 i near')

  pub parents_distinct : (k v : ℕ) → Leads k v → v < residual.net.nodes → slice_index labels v < UNREACHED → HasDistinctArcs (parent_path residual.net.arcs parents k v)
  parents_distinct k v a l near i j d less lj e = parents_dirs k v a l near i j d less lj (ap (λ m. (arc_at residual.net.arcs m).dir) e)

  -- a property of all parent steps, for the steps of a path
  pub parents_all : (P : ℕ × Bool → Type 0) (most : ℕ) → ((v : ℕ) → v < residual.net.nodes → v ≢ residual.net.source → slice_index labels v < UNREACHED → slice_index labels v ≤ most → P (parent_of parents v)) → (k v : ℕ) → Leads k v → v < residual.net.nodes → slice_index labels v < UNREACHED → slice_index labels v ≤ most → All P (parent_path residual.net.arcs parents k v)
  parents_all P most each zero v a l near le = All-nil P
  parents_all P most each (suc k) v a l near le =
      let less = before_low residual p ok shown labels parents tree v l a.0 near in
      All-cons P (parent_of parents v) (parent_path residual.net.arcs parents k (back_from v)) (each v l a.0 near le) (parents_all P most each k (back_from v) a.1 (before_in residual p ok shown labels parents tree v l a.0 near) (omega (arith, less, near)) (omega (arith, less, le)))

  -- a push moves units from the source to the node
  pub parents_surplus : (amount x k v : ℕ) (flow : List ℕ) → length flow ≡ length residual.net.arcs → Leads k v → v < residual.net.nodes → slice_index labels v < UNREACHED → All (HasRoomFor residual.net.arcs flow amount) (parent_path residual.net.arcs parents k v) → HasDistinctArcs (parent_path residual.net.arcs parents k v) → surplus (zip residual.net.arcs (flow_after flow amount (parent_path residual.net.arcs parents k v))) x ≡ surplus (zip residual.net.arcs flow) x +ℤ pos (at_node residual.net.source amount x) -ℤ pos (at_node v amount x)
  parents_surplus amount x zero v flow long a l near rooms once = let f = ap (λ w. at_node w amount x) a in omega (arith, ints, f)
  parents_surplus amount x (suc k) v flow long a l near rooms once =
      let s = parent_of parents v in
      let path = parent_path residual.net.arcs parents k (back_from v) in
      let y = units_after (slice_index flow s.0) amount s.1 in
      let step = tree.steps v l a.0 near in
      let less = before_low residual p ok shown labels parents tree v l a.0 near in
      let room = All-head (HasRoomFor residual.net.arcs flow amount) s path rooms in
      let one = step_surplus residual.net.arcs flow amount s.0 x s.1 long room.0 room.1 in
      let later = parents_surplus amount x k (back_from v) (set flow s.0 y) (length-set flow s.0 y ∙ long) a.1 (before_in residual p ok shown labels parents tree v l a.0 near) (omega (arith, less, near)) (rooms_after_first residual.net.arcs flow amount y s path rooms once) (distinct_after_first s path once) in
      let f = ap (λ w. at_node w amount x) step.head in
      omega (arith, ints, one, later, f)

  pub sends_more : (amount n k : ℕ) → Sends residual.net residual.flow n → Leads k residual.net.destination → slice_index labels residual.net.destination < UNREACHED → All (HasRoomFor residual.net.arcs residual.flow amount) (parent_path residual.net.arcs parents k residual.net.destination) → Sends residual.net (flow_after residual.flow amount (parent_path residual.net.arcs parents k residual.net.destination)) (n + amount)
  sends_more amount n k old a near rooms =
      let net = residual.net in
      let good = ok.good.ranges.ends in
      let path = parent_path residual.net.arcs parents k residual.net.destination in
      let once = parents_distinct k residual.net.destination a good.destination_in near in
      let at : (v : ℕ) → surplus (loads net (flow_after residual.flow amount path)) v ≡ surplus (loads net residual.flow) v +ℤ pos (at_node net.source amount v) -ℤ pos (at_node net.destination amount v) = λ v. parents_surplus amount v k residual.net.destination residual.flow ok.long a good.destination_in near rooms once in
      record {
        long = length-flow_after residual.flow amount path ∙ ok.long;
        fits = fits-flow_after residual.net.arcs residual.flow amount path ok.long ok.fits rooms once;
        kept = λ v l not_s not_t. let h = at v in omega (arith, ints, h, old.kept v l not_s not_t, at_node-other net.source amount v (λ e. not_s (sym e)), at_node-other net.destination amount v (λ e. not_t (sym e)));
        sent = let h = at net.source in omega (arith, ints, h, old.sent, at_node-same net.source amount, at_node-other net.destination amount net.source (λ e. good.apart (sym e)));
      }

-- a push along steps of reduced cost 0 keeps the flow shown
pub shown_pushed : (p : List ℤ) (arcs : List Arc) (amount : ℕ) (path : List (ℕ × Bool)) (flow : List ℕ) → length flow ≡ length arcs → All (λ (s : ℕ × Bool). (s.0 < length arcs) × (reduced_cost p (arc_at arcs s.0) ≡ pos 0)) path → All (IsShown p) (zip arcs flow) → All (IsShown p) (zip arcs (flow_after flow amount path))
shown_pushed p arcs amount [] flow long free shown = shown
shown_pushed p arcs amount (s ∷ path) flow long free shown =
    let P : ℕ × Bool → Type 0 = λ s. (s.0 < length arcs) × (reduced_cost p (arc_at arcs s.0) ≡ pos 0) in
    let y = units_after (slice_index flow s.0) amount s.1 in
    let one = All-head P s path free in
    let none = one.1 in
    shown_pushed p arcs amount path (set flow s.0 y) (length-set flow s.0 y ∙ long) (All-tail P s path free) (set_at (IsShown p) arcs flow s.0 y long one.0 shown ((λ l. omega (arith, ints, none)), (λ l. omega (arith, ints, none))))

abbrev pub IsNextInOrder : List Arc → List ℕ → ℕ × Bool → Type 0
IsNextInOrder arcs flow s = (s.0 < length arcs) × IsFullBefore arcs flow s.0 × IsEmptyAfter arcs flow s.0

pub order_pushed : (arcs : List Arc) (amount : ℕ) (path : List (ℕ × Bool)) (flow : List ℕ) → length flow ≡ length arcs → AllPairs (λ (s t : ℕ × Bool). (arc_at arcs s.0).dir ≢ (arc_at arcs t.0).dir) path → All (IsNextInOrder arcs flow) path → InOrder arcs flow → InOrder arcs (flow_after flow amount path)
order_pushed arcs amount [] flow long apart lone order = order
order_pushed arcs amount (s ∷ path) flow long apart lone order =
    let R : ℕ × Bool → ℕ × Bool → Type 0 = λ (s t : ℕ × Bool). (arc_at arcs s.0).dir ≢ (arc_at arcs t.0).dir in
    let y = units_after (slice_index flow s.0) amount s.1 in
    let one = All-head (IsNextInOrder arcs flow) s path lone in
    order_pushed arcs amount path (set flow s.0 y) (length-set flow s.0 y ∙ long) (AllPairs-tail R s path apart) (λ k d l. after (slice_index_or path k d) (AllPairs-head R s path apart k d l) (All-tail (IsNextInOrder arcs flow) s path lone k d l)) (order_set arcs flow s.0 y long one.0 one.1 one.2 order)
  where
    after : (t : ℕ × Bool) → (arc_at arcs s.0).dir ≢ (arc_at arcs t.0).dir → IsNextInOrder arcs flow t → IsNextInOrder arcs (set flow s.0 (units_after (slice_index flow s.0) amount s.1)) t
    after t ne h = (
      h.0,
      (λ i less e. get_or-set_other flow s.0 i (units_after (slice_index flow s.0) amount s.1) 0 (λ f. ne (subst (λ m. (arc_at arcs m).dir ≡ (arc_at arcs t.0).dir) f e)) ∙ h.1 i less e),
      (λ i less l e. get_or-set_other flow s.0 i (units_after (slice_index flow s.0) amount s.1) 0 (λ f. ne (subst (λ m. (arc_at arcs m).dir ≡ (arc_at arcs t.0).dir) f e)) ∙ h.2 i less l e),
    )
