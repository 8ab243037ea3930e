-- A search from both ends has met; labels are carried on from the meeting to the destination.
use Rattle.std.proofs.Common.{ℕ, zero, suc, ◌+◌, ◌-◌, ◌^◌, ◌<◌, ◌≤◌, ◌≡◌, Bool, true, false, List, refl, sym, ap, ◌∙◌, subst, subst₂, ⊎_elim, arith, length}
use Rattle.std.specs.Prelude.{Contains, map, min, set, slice_index, IsTrue, IsFalse, ◌≢◌, ℤ, pos, ◌+ℤ◌, ◌≤ℤ◌}
use Rattle.std.proofs.lemmas.Bool.{cases_eq, cases_lt}
use Rattle.std.proofs.lemmas.List.{get_or-set_other, get_or-set_same}
use Rattle.std.proofs.lemmas.Int.{ints}
use Rattle.flow_model.specs.Instance.{arc_at}
use Rattle.residual_net.specs.Residual.{ResidualNet, IsResidualNet}
use Rattle.flow_solver.specs.declared.labels.TheConstants.{UNREACHED}
use Rattle.flow_solver.specs.Search.{tail_of, head_of, step_cost, IsNextStep, parent_of, previous_node, HasDepth, IsSearchTree, IsFlowShown}
use Rattle.flow_solver.specs.Queue.{key_of, IsQueue, IsRelaxedFrom}
use Rattle.flow_solver.specs.Turned.{turn, turned, against}
use Rattle.flow_solver.specs.Meeting.{IsMeeting, IsMet}
use Rattle.flow_solver.proofs.Trees.{tail_in, head_in, cost_low, before_low, lowered}
use Rattle.flow_solver.proofs.Routes.{chain_short}
use Rattle.flow_solver.proofs.Turned.{turned_ok, shown_turned, next_turned, cost_turned, tail_turned, head_turned, way_on}

pub meeting_turned : (nodes : ℕ) (d e : List ℕ) (best node : ℕ) → IsMeeting nodes d e best node → IsMeeting nodes e d best node
meeting_turned nodes d e best node m = record {
  below = λ x l. let h = m.below x l in omega (arith, h);
  most = m.most;
  met = λ near. let h = m.met near in let a = h.0 in let b = h.1 in (a, omega (arith, b));
}

-- keys: those of the nodes whose steps are still to be tried, from the source and from the destination
pub met_from_queues : (residual : ResidualNet) (p : List ℤ) (d e : List ℕ) (parents backs : List (ℕ × Bool)) (near far : List ℕ) (best node a : ℕ) → IsResidualNet residual → IsSearchTree residual p d parents → IsSearchTree (turned residual) (against p) e backs → IsQueue residual p d best near → IsQueue (turned residual) (against p) e best far → IsMeeting residual.net.nodes d e best node → a ≤ best → ((v label : ℕ) → v < 2 ^ 24 → label ≤ UNREACHED → Contains near (key_of label v) → a ≤ label) → ((v label : ℕ) → v < 2 ^ 24 → label ≤ UNREACHED → Contains far (key_of label v) → best ≤ a + label) → IsMet residual p d e a (best - a) best
met_from_queues residual p d e parents backs near far best node a ok tree back queue turned_queue meeting le near_low far_low = record {
  sum = omega (arith, le);
  from_source = source;
  from_target = target;
  meets = meeting.below;
  at_source = tree.root;
  at_target = back.root;
}
  where
    source : (s : ℕ × Bool) → IsNextStep residual s → slice_index d (tail_of (arc_at residual.net.arcs s.0) s.1) < a → pos (min (slice_index d (head_of (arc_at residual.net.arcs s.0) s.1)) best) ≤ℤ (pos (slice_index d (tail_of (arc_at residual.net.arcs s.0) s.1)) +ℤ step_cost p (arc_at residual.net.arcs s.0) s.1)
    source s next less =
        let u = tail_of (arc_at residual.net.arcs s.0) s.1 in
        let lu = tail_in residual s ok next.known in
        let few = ok.good.ranges.few_nodes in
        let most = tree.most (tail_of (arc_at residual.net.arcs s.0) s.1) in
        let all = meeting.most in
        ⊎_elim
        (λ (c : Contains near (key_of (slice_index d u) u)). absurd (let h = near_low u (slice_index d u) (omega (arith, lu, few)) most c in omega (arith, h, less)))
        (λ (r : IsRelaxedFrom residual p d best u). r s next refl)
        (queue u lu (omega (arith, less, le, all)))

    target : (s : ℕ × Bool) → IsNextStep residual s → slice_index e (head_of (arc_at residual.net.arcs s.0) s.1) < best - a → pos (min (slice_index e (tail_of (arc_at residual.net.arcs s.0) s.1)) best) ≤ℤ (pos (slice_index e (head_of (arc_at residual.net.arcs s.0) s.1)) +ℤ step_cost p (arc_at residual.net.arcs s.0) s.1)
    target s next less =
        let w = head_of (arc_at residual.net.arcs s.0) s.1 in
        let lw = head_in residual s ok next.known in
        let few = ok.good.ranges.few_nodes in
        let most = back.most (head_of (arc_at residual.net.arcs s.0) s.1) in
        let all = meeting.most in
        let tail = tail_turned residual.net.arcs s.0 s.1 in
        ⊎_elim
        (λ (c : Contains far (key_of (slice_index e w) w)). absurd (let h = far_low w (slice_index e w) (omega (arith, lw, few)) most c in omega (arith, h, less)))
        (λ (r : IsRelaxedFrom (turned residual) (against p) e best w).
        let h = r s (next_turned residual s next) tail in
        let t = ap (slice_index e) tail in
        let g = ap (slice_index e) (head_turned residual.net.arcs s.0 s.1) in
        let c = cost_turned residual.net.arcs p s.0 s.1 in
        omega (arith, ints, h, t, g, c))
        (turned_queue w lw (omega (arith, less, all)))

-- labels carried on so far, from the node where both trees meet; labels below the source's radius stay
pub record IsCarried (residual : ResidualNet) (p : List ℤ) (d labels : List ℕ) (parents : List (ℕ × Bool)) (e : List ℕ) (backs : List (ℕ × Bool)) (a best taken u : ℕ) : Type 0 where
  pub tree : IsSearchTree residual p labels parents
  pub inside : u < residual.net.nodes
  pub near : slice_index e u < UNREACHED
  pub left : ℕ
  pub few : taken + left < residual.net.nodes
  pub chain : HasDepth (map turn residual.net.arcs) backs residual.net.destination left u
  pub short : slice_index labels u + slice_index e u ≤ best
  pub kept : (x : ℕ) → min (slice_index labels x) a ≡ min (slice_index d x) a

module _ (residual : ResidualNet) (p : List ℤ) (ok : IsResidualNet residual) (shown : IsFlowShown residual p) (d e : List ℕ) (backs : List (ℕ × Bool)) (back : IsSearchTree (turned residual) (against p) e backs) (a b best : ℕ) (met : IsMet residual p d e a b best) where
  pub carry_init : (parents : List (ℕ × Bool)) (u : ℕ) → IsSearchTree residual p d parents → u < residual.net.nodes → slice_index d u + slice_index e u ≤ best → best < UNREACHED → IsCarried residual p d d parents e backs a best 0 u
  carry_init parents u tree l sum near =
      let lu : slice_index e u < UNREACHED = omega (arith, sum, near) in
      let c = back.rooted u l lu in
      let short = chain_short (turned residual) (against p) (turned_ok residual ok) (shown_turned residual p ok shown) e backs back c.0 u c.1 l lu in
      record { tree = tree; inside = l; near = lu; left = c.0; few = omega (arith, short); chain = c.1; short = sum; kept = λ x. refl }

  module _ (labels : List ℕ) (parents : List (ℕ × Bool)) (taken u : ℕ) (so : IsCarried residual p d labels parents e backs a best taken u) (ne : u ≢ residual.net.destination) where
    abbrev next_node : ℕ
    next_node = head_of (arc_at residual.net.arcs (parent_of backs u).0) (parent_of backs u).1

    -- the next node is closer to the destination
    pub carry_way : ((parent_of backs u).0 < length residual.net.arcs) × (next_node < residual.net.nodes) × (slice_index e next_node ≤ best)
    carry_way =
        let way = way_on residual p e backs u back so.inside ne so.near in
        let above = way.2 in
        let low = cost_low residual p (parent_of backs u) ok shown way.0 in
        let sum = so.short in
        (way.0.known, head_in residual (parent_of backs u) ok way.0.known, omega (arith, ints, above, low, sum))

    on : (new : List ℕ) (newer : List (ℕ × Bool)) → IsSearchTree residual p new newer → slice_index new next_node + slice_index e next_node ≤ best → ((x : ℕ) → min (slice_index new x) a ≡ min (slice_index d x) a) → IsCarried residual p d new newer e backs a best (taken + 1) next_node
    on new newer tree short kept = by so.left so.chain so.few
      where
        by : (k : ℕ) → HasDepth (map turn residual.net.arcs) backs residual.net.destination k u → taken + k < residual.net.nodes → IsCarried residual p d new newer e backs a best (taken + 1) next_node
        by zero chain few = absurd (ne chain)
        by (suc k) chain few =
            let way = way_on residual p e backs u back so.inside ne so.near in
            let less = before_low (turned residual) (against p) (turned_ok residual ok) (shown_turned residual p ok shown) e backs back u so.inside chain.0 so.near in
            let t : previous_node (map turn residual.net.arcs) backs u ≡ next_node = tail_turned residual.net.arcs (parent_of backs u).0 (parent_of backs u).1 in
            let f = ap (slice_index e) t in
            let near = so.near in
            record {
              tree = tree;
              inside = carry_way.1;
              near = omega (arith, f, less, near);
              left = k;
              few = omega (arith, few);
              chain = subst (HasDepth (map turn residual.net.arcs) backs residual.net.destination k) t chain.1;
              short = short;
              kept = kept;
            }

    -- the next node's label may stay
    pub carry_stays : slice_index labels next_node ≤ best - slice_index e next_node → IsCarried residual p d labels parents e backs a best (taken + 1) next_node
    carry_stays le = let l = carry_way.2 in on labels parents so.tree (omega (arith, le, l)) so.kept

    -- or it falls
    pub carry_lowers : best - slice_index e next_node < slice_index labels next_node → IsCarried residual p d (set labels next_node (best - slice_index e next_node)) (set parents next_node (parent_of backs u)) e backs a best (taken + 1) next_node
    carry_lowers less =
        let label = best - slice_index e next_node in
        let way = way_on residual p e backs u back so.inside ne so.near in
        let above = way.2 in
        let low = cost_low residual p (parent_of backs u) ok shown way.0 in
        let sum = so.short in
        let lw = carry_way.1 in
        let le = carry_way.2 in
        let n = so.tree.long in
        let t = ap (slice_index labels) way.1 in
        let reach : (pos (slice_index labels (tail_of (arc_at residual.net.arcs (parent_of backs u).0) (parent_of backs u).1)) +ℤ step_cost p (arc_at residual.net.arcs (parent_of backs u).0) (parent_of backs u).1) ≤ℤ pos (best - slice_index e next_node) = omega (arith, ints, above, sum, le, t) in
        let tree = lowered residual p ok shown labels parents so.tree (parent_of backs u) next_node (best - slice_index e next_node) way.0 refl reach less in
        let here = get_or-set_same labels next_node (best - slice_index e next_node) 0 (omega (arith, lw, n)) in
        on (set labels next_node (best - slice_index e next_node)) (set parents next_node (parent_of backs u)) tree (omega (arith, here, le))
        (λ x. ⊎_elim
        (λ (at : x ≡ next_node). subst (λ y. min (slice_index (set labels next_node (best - slice_index e next_node)) y) a ≡ min (slice_index d y) a) (sym at) (keeps here reach))
        (λ (no' : x ≡ next_node → ⊥). ap (λ y. min y a) (get_or-set_other labels next_node x (best - slice_index e next_node) 0 no') ∙ so.kept x)
        (cases_eq x next_node))
      where
        -- a label that falls was at least the radius, and stays so
        keeps : slice_index (set labels next_node (best - slice_index e next_node)) next_node ≡ best - slice_index e next_node → (pos (slice_index labels (tail_of (arc_at residual.net.arcs (parent_of backs u).0) (parent_of backs u).1)) +ℤ step_cost p (arc_at residual.net.arcs (parent_of backs u).0) (parent_of backs u).1) ≤ℤ pos (best - slice_index e next_node) → min (slice_index (set labels next_node (best - slice_index e next_node)) next_node) a ≡ min (slice_index d next_node) a
        keeps here reach = ⊎_elim
            (λ (short : best - slice_index e next_node < a). absurd (
            let way = way_on residual p e backs u back so.inside ne so.near in
            let low = cost_low residual p (parent_of backs u) ok shown way.0 in
            let ku = so.kept (tail_of (arc_at residual.net.arcs (parent_of backs u).0) (parent_of backs u).1) in
            let kw = so.kept next_node in
            let sum = met.sum in
            let below : slice_index d (tail_of (arc_at residual.net.arcs (parent_of backs u).0) (parent_of backs u).1) < a = omega (arith, ints, reach, low, ku, short) in
            let relaxed = met.from_source (parent_of backs u) way.0 below in
            omega (arith, ints, reach, low, ku, kw, short, less, relaxed, sum)))
            (λ (ge : a ≤ best - slice_index e next_node). let k = so.kept next_node in omega (arith, here, ge, k, less))
            (cases_lt (best - slice_index e next_node) a)

    pub carry_turn : (new : List ℕ) (newer : List (ℕ × Bool)) (r : Bool) (label : ℕ) → label ≡ best - slice_index e next_node → (IsTrue r → label < slice_index labels next_node) → (IsTrue r → new ≡ set labels next_node label) → (IsTrue r → newer ≡ set parents next_node (parent_of backs u)) → (IsFalse r → min (slice_index labels next_node) UNREACHED ≤ label) → (IsFalse r → new ≡ labels) → (IsFalse r → newer ≡ parents) → IsCarried residual p d new newer e backs a best (taken + 1) next_node
    carry_turn new newer true label is lower labels_is parents_is relaxed same kept =
        let less : best - slice_index e next_node < slice_index labels next_node = (let l = lower refl in omega (arith, l, is)) in
        let it = carry_lowers less in
        subst₂ (λ ls ps. IsCarried residual p d ls ps e backs a best (taken + 1) next_node) (ap (λ x. set labels next_node x) (sym is) ∙ sym (labels_is refl)) (sym (parents_is refl)) it
    carry_turn new newer false label is lower labels_is parents_is relaxed same kept =
        let most = so.tree.most next_node in
        let r = relaxed refl in
        let it = carry_stays (omega (arith, r, is, most)) in
        subst₂ (λ ls ps. IsCarried residual p d ls ps e backs a best (taken + 1) next_node) (sym (same refl)) (sym (kept refl)) it
