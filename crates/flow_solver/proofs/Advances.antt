-- One path more: what a solver keeps from search to search.
use Rattle.std.proofs.Common.{ℕ, zero, ◌+◌, ◌<◌, ◌≤◌, ◌≡◌, Bool, true, false, cond, List, [], ◌∷◌, sym, refl, ap, ◌∙◌, subst, ⊎_elim, arith, length}
use Rattle.std.specs.Prelude.{All, zip, map, replicate, nat_lt, nat_eq, min, sum_by, slice_index, slice_index_or, ℤ, pos}
use Rattle.std.proofs.lemmas.Bool.{cases_lt}
use Rattle.std.proofs.lemmas.List.{get_or-replicate, length-replicate, get_or_past, get_or-map, length-map}
use Rattle.std.proofs.lemmas.List.Sums.{sum_by-cons}
use Rattle.std.proofs.lemmas.Int.{ints}
use Rattle.flow_model.specs.declared.instance.Arc.{Arc}
use Rattle.flow_model.specs.Flow.{leaving, entering, loads}
use Rattle.flow_model.specs.Potentials.{IsShown, reduced_cost}
use Rattle.flow_model.specs.Side.{Cuts}
use Rattle.flow_model.proofs.Balance.{at_node}
use Rattle.residual_net.specs.Residual.{ResidualNet, IsResidualNet, flow_after, HasRoomFor, HasDistinctArcs, room_left}
use Rattle.flow_model.specs.Instance.{arc_at, no_arc}
use Rattle.residual_net.proofs.Loads.{zip_from_at}
use Rattle.residual_net.proofs.Pushed.{residual_after_push}
use Rattle.flow_solver.specs.Search.{IsNextOfDirection, IsNextStep, parent_of, HasDepth, parent_path, IsSettledBelow, IsRaised, InOrder, IsPartialSolution, IsSearchResult, IsSearchTree, IsFlowShown, HasBoundedPotentials, IsReachedNode}
use Rattle.flow_solver.specs.Meeting.{IsLifted, IsMet}
use Rattle.flow_solver.proofs.Lifted.{free_lifted, shown_lifted, bounded_lifted}
use Rattle.flow_solver.proofs.Order.{full_before_forward, full_before_backward, empty_after_forward, empty_after_backward}
use Rattle.flow_solver.proofs.Routes.{chain_short, parents_all, parents_distinct, parents_dirs, sends_more, shown_pushed, order_pushed, IsNextInOrder}
use Rattle.flow_solver.proofs.Raising.{shown_raised, free_raised, bounded_raised}
use Rattle.flow_solver.specs.declared.labels.TheConstants.{UNREACHED}
use Rattle.flow_solver.proofs.Cutting.{labels_cut}

-- a step that a search may use has room for a unit; its direction's earlier arcs are full, and its later ones empty
pub next_room : (residual : ResidualNet) (s : ℕ × Bool) → IsNextStep residual s → HasRoomFor residual.net.arcs residual.flow 1 s
next_room residual s next = (next.known, by s.1 next.way)
  where
    by : (b : Bool) → IsNextOfDirection residual.net.arcs residual.flow s.0 b → 1 ≤ room_left (arc_at residual.net.arcs s.0) b (slice_index residual.flow s.0)
    by true way = way.0
    by false way = let h = way.0 in omega (arith, h)

pub next_in_order : (residual : ResidualNet) (s : ℕ × Bool) → IsResidualNet residual → InOrder residual.net.arcs residual.flow → IsNextStep residual s → IsNextInOrder residual.net.arcs residual.flow s
next_in_order residual s ok order next = by s.1 next.way
  where
    rooms : (i : ℕ) → i < length residual.net.arcs → 0 < (arc_at residual.net.arcs i).room
    rooms i l = (ok.good.ranges.good_arcs i no_arc l).some_room

    by : (b : Bool) → IsNextOfDirection residual.net.arcs residual.flow s.0 b → IsNextInOrder residual.net.arcs residual.flow s
    by true way = (next.known, full_before_backward residual.net.arcs residual.flow rooms ok.good.together order s.0 next.known way.0, empty_after_backward residual.net.arcs residual.flow rooms ok.good.together order s.0 next.known way)
    by false way = (next.known, full_before_forward residual.net.arcs residual.flow rooms ok.good.together order s.0 next.known way, empty_after_forward residual.net.arcs residual.flow rooms ok.good.together order s.0 next.known way.0)

module _ (residual : ResidualNet) (p : List ℤ) (labels : List ℕ) (parents : List (ℕ × Bool)) (sent : ℕ) (state : IsPartialSolution residual p sent) (tree : IsSearchTree residual p labels parents) (near : slice_index labels residual.net.destination < UNREACHED) where
  ok : IsResidualNet residual
  ok = state.ok

  t_in : residual.net.destination < residual.net.nodes
  t_in = ok.good.ranges.ends.destination_in

  -- a property of the steps that a search may use, for all steps of the path to the destination
  pub along : (P : ℕ × Bool → Type 0) → ((s : ℕ × Bool) → IsNextStep residual s → P s) → (k : ℕ) → HasDepth residual.net.arcs parents residual.net.source k residual.net.destination → All P (parent_path residual.net.arcs parents k residual.net.destination)
  along P each k chain = parents_all residual p ok state.shown labels parents tree P UNREACHED (λ v l ne n le. each (parent_of parents v) (tree.steps v l ne n).next) k residual.net.destination chain t_in near (let m = tree.most residual.net.destination in m)

  pub traced : (k : ℕ) × (k < residual.net.nodes) × IsReachedNode residual parents k residual.net.destination
  traced =
      let c = tree.rooted residual.net.destination t_in near in
      (c.0, chain_short residual p ok state.shown labels parents tree c.0 residual.net.destination c.1 t_in near, record { inside = t_in; chain = c.1; known = along (λ (s : ℕ × Bool). s.0 < length residual.net.arcs) (λ s next. next.known) c.0 c.1 })

  pub path_rooms : (path : List (ℕ × Bool)) → HasDepth residual.net.arcs parents residual.net.source (length path) residual.net.destination → path ≡ parent_path residual.net.arcs parents (length path) residual.net.destination → All (HasRoomFor residual.net.arcs residual.flow 1) path
  path_rooms path chain e = subst (All (HasRoomFor residual.net.arcs residual.flow 1)) (sym e) (along (HasRoomFor residual.net.arcs residual.flow 1) (next_room residual) (length path) chain)

  pub path_distinct : (path : List (ℕ × Bool)) → HasDepth residual.net.arcs parents residual.net.source (length path) residual.net.destination → path ≡ parent_path residual.net.arcs parents (length path) residual.net.destination → HasDistinctArcs path
  path_distinct path chain e = subst HasDistinctArcs (sym e) (parents_distinct residual p ok state.shown labels parents tree (length path) residual.net.destination chain t_in near)

  -- a push along steps that cost nothing under the new potentials
  pub pushed_on : (new : List ℤ) (amount : ℕ) (path : List (ℕ × Bool)) → HasDepth residual.net.arcs parents residual.net.source (length path) residual.net.destination → path ≡ parent_path residual.net.arcs parents (length path) residual.net.destination → All (HasRoomFor residual.net.arcs residual.flow amount) path → All (λ (s : ℕ × Bool). (s.0 < length residual.net.arcs) × (reduced_cost new (arc_at residual.net.arcs s.0) ≡ pos 0)) (parent_path residual.net.arcs parents (length path) residual.net.destination) → IsFlowShown residual new → HasBoundedPotentials residual.net new → IsPartialSolution (record { net = residual.net; flow = flow_after residual.flow amount path }) new (sent + amount)
  pushed_on new amount path chain e rooms free shown bounded =
      let k = length path in
      let t = residual.net.destination in
      let on : List (ℕ × Bool) = parent_path residual.net.arcs parents k t in
      let rooms' = subst (All (HasRoomFor residual.net.arcs residual.flow amount)) e rooms in
      subst (λ (steps : List (ℕ × Bool)). IsPartialSolution (record { net = residual.net; flow = flow_after residual.flow amount steps }) new (sent + amount)) (sym e) record {
        ok = residual_after_push residual (flow_after residual.flow amount on) amount on ok rooms' (parents_distinct residual p ok state.shown labels parents tree k t chain t_in near) refl;
        sends = sends_more residual p ok state.shown labels parents tree amount sent k state.sends chain near rooms';
        shown = shown_pushed new residual.net.arcs amount on residual.flow ok.long free shown;
        bounded = bounded;
        order = order_pushed residual.net.arcs amount on residual.flow ok.long (parents_dirs residual p ok state.shown labels parents tree k t chain t_in near) (along (IsNextInOrder residual.net.arcs residual.flow) (λ s next. next_in_order residual s ok state.order next) k chain) state.order;
      }

-- after a search from the source, with potentials raised by its labels
pub advanced : (residual : ResidualNet) (p : List ℤ) (labels : List ℕ) (parents : List (ℕ × Bool)) (sent : ℕ) → IsPartialSolution residual p sent → IsSearchResult residual p labels parents → slice_index labels residual.net.destination < UNREACHED → (new : List ℤ) (amount : ℕ) (path : List (ℕ × Bool)) → HasDepth residual.net.arcs parents residual.net.source (length path) residual.net.destination → path ≡ parent_path residual.net.arcs parents (length path) residual.net.destination → All (HasRoomFor residual.net.arcs residual.flow amount) path → IsRaised p new labels (slice_index labels residual.net.destination) → IsPartialSolution (record { net = residual.net; flow = flow_after residual.flow amount path }) new (sent + amount)
advanced residual p labels parents sent state found near new amount path chain e rooms raised =
    let t = residual.net.destination in
    let bound = slice_index labels t in
    let t_in' = state.ok.good.ranges.ends.destination_in in
    let free = parents_all residual p state.ok state.shown labels parents found.tree (λ s. (s.0 < length residual.net.arcs) × (reduced_cost new (arc_at residual.net.arcs s.0) ≡ pos 0)) bound (λ v l ne n le. free_raised residual p new state.ok labels bound state.bounded.long raised parents found.tree state.shown found.settled v l ne n le) (length path) t chain t_in' near (omega arith) in
    pushed_on residual p labels parents sent state found.tree near new amount path chain e rooms free
    (shown_raised residual p new state.ok labels bound state.bounded.long raised state.shown found.settled)
    (bounded_raised residual p new state.ok labels bound state.bounded.long raised parents found.tree state.shown found.settled state.bounded refl near)

-- labels that are the same below a bound lift the potentials in the same way
lifted_kept : (p new : List ℤ) (d labels e : List ℕ) (a b : ℕ) → ((x : ℕ) → min (slice_index labels x) a ≡ min (slice_index d x) a) → IsLifted p new labels e a b → IsLifted p new d e a b
lifted_kept p new d labels e a b kept lifted = record { long = lifted.long; each = λ v l. let h = lifted.each v l in let k = kept v in omega (arith, ints, h, k) }

-- after a search from both ends, with potentials lifted by its labels
pub met_advanced : (residual : ResidualNet) (p : List ℤ) (d labels : List ℕ) (parents : List (ℕ × Bool)) (e : List ℕ) (a b best sent : ℕ) → IsPartialSolution residual p sent → IsMet residual p d e a b best → IsSearchTree residual p labels parents → best < UNREACHED → slice_index labels residual.net.destination ≤ best → ((x : ℕ) → min (slice_index labels x) a ≡ min (slice_index d x) a) → (new : List ℤ) (amount : ℕ) (path : List (ℕ × Bool)) → HasDepth residual.net.arcs parents residual.net.source (length path) residual.net.destination → path ≡ parent_path residual.net.arcs parents (length path) residual.net.destination → All (HasRoomFor residual.net.arcs residual.flow amount) path → IsLifted p new labels e a b → IsPartialSolution (record { net = residual.net; flow = flow_after residual.flow amount path }) new (sent + amount)
met_advanced residual p d labels parents e a b best sent state met tree reached short kept new amount path chain is rooms lifted' =
    let lifted = lifted_kept p new d labels e a b kept lifted' in
    let near : slice_index labels residual.net.destination < UNREACHED = omega (arith, short, reached) in
    pushed_on residual p labels parents sent state tree near new amount path chain is rooms
    (free_lifted residual p new state.ok state.shown state.bounded d e a b best met lifted labels parents tree near short (length path) chain)
    (shown_lifted residual p new state.ok state.shown state.bounded d e a b best met lifted)
    (bounded_lifted residual p new state.ok state.shown state.bounded d e a b best met lifted labels parents tree near short (length path) chain)

-- the flow of no units
none_sum : (end : Arc → ℕ) (v : ℕ) (arcs : List Arc) → sum_by (λ (l : Arc × ℕ). at_node (end l.0) l.1 v) (zip arcs (replicate {A = ℕ} (length arcs) 0)) ≡ zero
none_sum end v [] = refl
none_sum end v (a ∷ arcs) =
    let c = sum_by-cons (λ (l : Arc × ℕ). at_node (end l.0) l.1 v) (a, 0) (zip arcs (replicate (length arcs) 0)) in
    let z = by (nat_eq (end a) v) in
    let r = none_sum end v arcs in
    omega (arith, c, z, r)
  where
    by : (b : Bool) → cond b zero zero ≡ zero
    by true = refl
    by false = refl

pub first_state : (residual : ResidualNet) (p : List ℤ) → IsResidualNet residual → residual.flow ≡ replicate (length residual.net.arcs) 0 → p ≡ replicate residual.net.nodes (pos 0) → IsPartialSolution residual p 0
first_state residual p ok e f = record {
  ok = ok;
  sends = record {
    long = ok.long;
    fits = ok.fits;
    kept = λ v l not_s not_t. out v ∙ sym (into v);
    sent = let a = out residual.net.source in let b = into residual.net.source in omega (arith, a, b);
  };
  shown = zip_from_at (IsShown p) residual.net.arcs residual.flow ok.long (λ i l. ((λ less. let x = flat (arc_at residual.net.arcs i).from in let y = flat (arc_at residual.net.arcs i).to in omega (arith, ints, x, y)), (λ some. absurd (let z = empty i l in omega (arith, z, some)))));
  bounded = record {
    long = ap length f ∙ length-replicate residual.net.nodes (pos 0);
    root = flat residual.net.source;
    low = λ v. let x = flat v in omega (arith, ints, x);
    top = λ v. let x = flat v in let y = flat residual.net.destination in omega (arith, ints, x, y);
    most = let y = flat residual.net.destination in omega (arith, ints, y);
  };
  order = λ i j less l d some. absurd (let z = empty j l in omega (arith, z, some));
}
  where
    out : (v : ℕ) → leaving v (loads residual.net residual.flow) ≡ 0
    out v = ap (λ fs. leaving v (zip residual.net.arcs fs)) e ∙ none_sum (λ a. a.from) v residual.net.arcs

    into : (v : ℕ) → entering v (loads residual.net residual.flow) ≡ 0
    into v = ap (λ fs. entering v (zip residual.net.arcs fs)) e ∙ none_sum (λ a. a.to) v residual.net.arcs

    empty : (i : ℕ) → i < length residual.net.arcs → slice_index residual.flow i ≡ 0
    empty i l = ap (λ fs. slice_index fs i) e ∙ get_or-replicate (length residual.net.arcs) i 0 0 l

    flat : (v : ℕ) → slice_index_or p v (pos 0) ≡ pos 0
    flat v = ap (λ ps. slice_index_or ps v (pos 0)) f ∙ ⊎_elim
        (λ (l : v < residual.net.nodes). get_or-replicate residual.net.nodes v (pos 0) (pos 0) l)
        (λ (l : residual.net.nodes ≤ v). get_or_past (replicate residual.net.nodes (pos 0)) v (pos 0) (omega (arith, l, length-replicate {A = ℤ} residual.net.nodes (pos 0))))
        (cases_lt v residual.net.nodes)

-- the reached nodes are a side that cuts
pub reached_cut : (residual : ResidualNet) (p : List ℤ) (sent : ℕ) (labels : List ℕ) (parents : List (ℕ × Bool)) (side : List Bool) → IsPartialSolution residual p sent → IsSearchResult residual p labels parents → sent < residual.net.demand → UNREACHED ≤ slice_index labels residual.net.destination → side ≡ map (λ label. nat_lt label UNREACHED) labels → Cuts residual.net side
reached_cut residual p sent labels parents side state found less far e = labels_cut residual p state.ok state.shown labels parents found.tree (subst (IsSettledBelow residual p labels) (let m = found.tree.most residual.net.destination in omega (arith, far, m)) found.settled) state.bounded sent side state.sends less far (ap length e ∙ length-map labels (λ label. nat_lt label UNREACHED) ∙ found.tree.long) (λ v l. ap (λ bs. slice_index_or bs v false) e ∙ get_or-map (λ label. nat_lt label UNREACHED) labels v 0 false (omega (arith, l, found.tree.long)))
