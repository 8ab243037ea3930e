-- A network with each arc turned around.
use Rattle.std.proofs.Common.{ℕ, ◌+◌, ◌<◌, ◌≤◌, ◌≡◌, Bool, true, false, cond, List, refl, sym, ap, ◌∙◌, subst, arith, length}
use Rattle.std.specs.Prelude.{map, slice_index, slice_index_or, ◌≢◌, not, ℤ, pos, ◌+ℤ◌, ◌-ℤ◌, ◌≤ℤ◌}
use Rattle.std.proofs.lemmas.List.{length-map}
use Rattle.std.proofs.Math.ListN.{get_or-map}
use Rattle.std.proofs.lemmas.Int.{ints}
use Rattle.flow_model.specs.declared.instance.Arc.{Arc}
use Rattle.flow_model.specs.Instance.{Net, IsInstance, IsGoodArc, Dearer, arc_at, no_arc}
use Rattle.flow_model.specs.Potentials.{IsShown}
use Rattle.residual_net.specs.Residual.{ResidualNet, IsResidualNet}
use Rattle.residual_net.proofs.Loads.{get_or-any, at_from_zip, zip_from_at, fits_at}
use Rattle.flow_solver.specs.declared.labels.TheConstants.{UNREACHED}
use Rattle.flow_solver.specs.Turned.{turn, turned_net, turned, against, seen, seen_potentials}
use Rattle.flow_solver.specs.Search.{tail_of, head_of, step_cost, IsNextStep, IsNextOfDirection, parent_of, IsSearchTree, IsFlowShown}

pub arc_turned : (arcs : List Arc) (i : ℕ) → arc_at (map turn arcs) i ≡ turn (arc_at arcs i)
arc_turned arcs i = get_or-map turn arcs i no_arc

any_turned : (arcs : List Arc) (i : ℕ) (d : Arc) → i < length arcs → slice_index_or (map turn arcs) i d ≡ turn (arc_at arcs i)
any_turned arcs i d l = get_or-any (map turn arcs) i d no_arc (omega (arith, l, length-map arcs turn)) ∙ arc_turned arcs i

pub turned_good : (net : Net) → IsInstance net → IsInstance (turned_net net)
turned_good net good = record {
  ranges = record {
    ends = record {
      source_in = good.ranges.ends.destination_in;
      destination_in = good.ranges.ends.source_in;
      apart = λ e. good.ranges.ends.apart (sym e);
      froms = λ k d l. subst (λ (a : Arc). a.from < net.nodes) (sym (any_turned net.arcs k d (in' k l))) (good.ranges.ends.tos k no_arc (in' k l));
      tos = λ k d l. subst (λ (a : Arc). a.to < net.nodes) (sym (any_turned net.arcs k d (in' k l))) (good.ranges.ends.froms k no_arc (in' k l));
    };
    few_nodes = good.ranges.few_nodes;
    few_arcs = omega (arith, good.ranges.few_arcs, length-map net.arcs turn);
    some_demand = good.ranges.some_demand;
    most_demand = good.ranges.most_demand;
    good_arcs = λ k d l. subst IsGoodArc (sym (any_turned net.arcs k d (in' k l))) (let g = good.ranges.good_arcs k no_arc (in' k l) in record { apart = λ e. g.apart (sym e); some_room = g.some_room; most_room = g.most_room; some_cost = g.some_cost; most_cost = g.most_cost; direction = g.direction });
  };
  dearer = λ i j d less l. subst (λ (a : Arc). Dearer a (slice_index_or (map turn net.arcs) j d)) (sym (any_turned net.arcs i d (omega (arith, less, in' j l)))) (subst (λ (b : Arc). Dearer (turn (arc_at net.arcs i)) b) (sym (any_turned net.arcs j d (in' j l))) (λ e. let h = good.dearer i j no_arc less (in' j l) e in (h.1, h.0, h.2)));
  together = λ i j k d ij jk l e.
      let a = any_turned net.arcs i d (omega (arith, ij, jk, in' k l)) in
      let b = any_turned net.arcs j d (omega (arith, jk, in' k l)) in
      let c = any_turned net.arcs k d (in' k l) in
      let f = ap (λ (x : Arc). x.dir) a in
      let g = ap (λ (x : Arc). x.dir) b in
      let h = ap (λ (x : Arc). x.dir) c in
      f ∙ good.together i j k no_arc ij jk (in' k l) (sym f ∙ e ∙ h) ∙ sym g;
}
  where
    in' : (k : ℕ) → k < length (map turn net.arcs) → k < length net.arcs
    in' k l = omega (arith, l, length-map net.arcs turn)

pub turned_ok : (residual : ResidualNet) → IsResidualNet residual → IsResidualNet (turned residual)
turned_ok residual ok = record {
  good = turned_good residual.net ok.good;
  long = ok.long ∙ sym (length-map residual.net.arcs turn);
  fits = zip_from_at (λ l. l.1 ≤ l.0.room) (map turn residual.net.arcs) residual.flow (ok.long ∙ sym (length-map residual.net.arcs turn)) (λ i l. subst (λ (a : Arc). slice_index residual.flow i ≤ a.room) (sym (arc_turned residual.net.arcs i)) (fits_at residual i ok (omega (arith, l, length-map residual.net.arcs turn))));
}

-- the step_cost of a step stays, and its ends change places
pub cost_turned : (arcs : List Arc) (p : List ℤ) (i : ℕ) (b : Bool) → step_cost (against p) (arc_at (map turn arcs) i) b ≡ step_cost p (arc_at arcs i) b
cost_turned arcs p i b = ap (λ a. step_cost (against p) a b) (arc_turned arcs i) ∙ by b
  where
    at : (v : ℕ) → slice_index_or (against p) v (pos 0) ≡ pos 0 -ℤ slice_index_or p v (pos 0)
    at v = get_or-map (λ z. pos 0 -ℤ z) p v (pos 0)

    by : (b : Bool) → step_cost (against p) (turn (arc_at arcs i)) b ≡ step_cost p (arc_at arcs i) b
    by true = let f = at (arc_at arcs i).from in let t = at (arc_at arcs i).to in omega (arith, ints, f, t)
    by false = let f = at (arc_at arcs i).from in let t = at (arc_at arcs i).to in omega (arith, ints, f, t)

pub next_turned : (residual : ResidualNet) (s : ℕ × Bool) → IsNextStep residual s → IsNextStep (turned residual) s
next_turned residual s next = record { known = omega (arith, length-map residual.net.arcs turn, next.known); way = by s.1 next.way }
  where
    dir : (j : ℕ) → (arc_at (map turn residual.net.arcs) j).dir ≡ (arc_at residual.net.arcs j).dir
    dir j = ap (λ (a : Arc). a.dir) (arc_turned residual.net.arcs j)

    room : (j : ℕ) → (arc_at (map turn residual.net.arcs) j).room ≡ (arc_at residual.net.arcs j).room
    room j = ap (λ (a : Arc). a.room) (arc_turned residual.net.arcs j)

    by : (b : Bool) → IsNextOfDirection residual.net.arcs residual.flow s.0 b → IsNextOfDirection (map turn residual.net.arcs) residual.flow s.0 b
    by true way = (way.0, λ l e. way.1 (omega (arith, l, length-map residual.net.arcs turn)) (sym (dir (s.0 + 1)) ∙ e ∙ dir s.0))
    by false way = (let r = room s.0 in let w = way.0 in omega (arith, r, w), λ h at e. way.1 h at (sym (dir h) ∙ e ∙ dir s.0) ∙ sym (room h))

pub shown_turned : (residual : ResidualNet) (p : List ℤ) → IsResidualNet residual → IsFlowShown residual p → IsFlowShown (turned residual) (against p)
shown_turned residual p ok shown = zip_from_at (IsShown (against p)) (map turn residual.net.arcs) residual.flow (ok.long ∙ sym (length-map residual.net.arcs turn)) (λ i l.
    let h = at_from_zip (IsShown p) residual.net.arcs residual.flow i ok.long (omega (arith, l, length-map residual.net.arcs turn)) shown in
    let e = cost_turned residual.net.arcs p i false in
    let r = ap (λ (a : Arc). a.room) (arc_turned residual.net.arcs i) in
    ((λ less. subst (λ z. pos 0 ≤ℤ z) (sym e) (h.0 (omega (arith, less, r)))), (λ some. subst (λ z. z ≤ℤ pos 0) (sym e) (h.1 some))))

pub next_back : (residual : ResidualNet) (s : ℕ × Bool) → IsNextStep (turned residual) s → IsNextStep residual s
next_back residual s next = record { known = known; way = by s.1 next.way }
  where
    known : s.0 < length residual.net.arcs
    known = let k = next.known in omega (arith, length-map residual.net.arcs turn, k)

    dir : (j : ℕ) → (arc_at (map turn residual.net.arcs) j).dir ≡ (arc_at residual.net.arcs j).dir
    dir j = ap (λ (a : Arc). a.dir) (arc_turned residual.net.arcs j)

    room : (j : ℕ) → (arc_at (map turn residual.net.arcs) j).room ≡ (arc_at residual.net.arcs j).room
    room j = ap (λ (a : Arc). a.room) (arc_turned residual.net.arcs j)

    by : (b : Bool) → IsNextOfDirection (map turn residual.net.arcs) residual.flow s.0 b → IsNextOfDirection residual.net.arcs residual.flow s.0 b
    by true way = (way.0, λ l e. way.1 (omega (arith, l, length-map residual.net.arcs turn)) (dir (s.0 + 1) ∙ e ∙ sym (dir s.0)))
    by false way = (let r = room s.0 in let w = way.0 in omega (arith, r, w), λ h at e. way.1 h at (dir h ∙ e ∙ sym (dir s.0)) ∙ room h)

-- the ends of a step change places
pub tail_turned : (arcs : List Arc) (i : ℕ) (b : Bool) → tail_of (arc_at (map turn arcs) i) b ≡ head_of (arc_at arcs i) b
tail_turned arcs i b = ap (λ a. tail_of a b) (arc_turned arcs i) ∙ by b
  where
    by : (b : Bool) → tail_of (turn (arc_at arcs i)) b ≡ head_of (arc_at arcs i) b
    by true = refl
    by false = refl

pub head_turned : (arcs : List Arc) (i : ℕ) (b : Bool) → head_of (arc_at (map turn arcs) i) b ≡ tail_of (arc_at arcs i) b
head_turned arcs i b = ap (λ a. head_of a b) (arc_turned arcs i) ∙ by b
  where
    by : (b : Bool) → head_of (turn (arc_at arcs i)) b ≡ tail_of (arc_at arcs i) b
    by true = refl
    by false = refl

-- the way on from a node of the tree back
pub way_on : (residual : ResidualNet) (p : List ℤ) (e : List ℕ) (backs : List (ℕ × Bool)) (u : ℕ) → IsSearchTree (turned residual) (against p) e backs → u < residual.net.nodes → u ≢ residual.net.destination → slice_index e u < UNREACHED → IsNextStep residual (parent_of backs u) × (tail_of (arc_at residual.net.arcs (parent_of backs u).0) (parent_of backs u).1 ≡ u) × ((pos (slice_index e (head_of (arc_at residual.net.arcs (parent_of backs u).0) (parent_of backs u).1)) +ℤ step_cost p (arc_at residual.net.arcs (parent_of backs u).0) (parent_of backs u).1) ≤ℤ pos (slice_index e u))
way_on residual p e backs u tree l ne near =
    let s = parent_of backs u in
    let step = tree.steps u l ne near in
    let t = ap (slice_index e) (tail_turned residual.net.arcs s.0 s.1) in
    let q = cost_turned residual.net.arcs p s.0 s.1 in
    let above = step.above in
    (next_back residual s step.next, sym (head_turned residual.net.arcs s.0 s.1) ∙ step.head, omega (arith, ints, t, q, above))

-- the same, for a network that may be turned around
pub seen_ok : (t : Bool) (residual : ResidualNet) → IsResidualNet residual → IsResidualNet (seen t residual)
seen_ok true residual ok = turned_ok residual ok
seen_ok false residual ok = ok

pub seen_shown : (t : Bool) (residual : ResidualNet) (p : List ℤ) → IsResidualNet residual → IsFlowShown residual p → IsFlowShown (seen t residual) (seen_potentials t p)
seen_shown true residual p ok shown = shown_turned residual p ok shown
seen_shown false residual p ok shown = shown

pub seen_next : (t : Bool) (residual : ResidualNet) (s : ℕ × Bool) → IsNextStep residual s → IsNextStep (seen t residual) s
seen_next true residual s next = next_turned residual s next
seen_next false residual s next = next

pub seen_back : (t : Bool) (residual : ResidualNet) (s : ℕ × Bool) → IsNextStep (seen t residual) s → IsNextStep residual s
seen_back true residual s next = next_back residual s next
seen_back false residual s next = next

pub seen_cost : (t : Bool) (residual : ResidualNet) (p : List ℤ) (i : ℕ) (b : Bool) → step_cost (seen_potentials t p) (arc_at (seen t residual).net.arcs i) b ≡ step_cost p (arc_at residual.net.arcs i) b
seen_cost true residual p i b = cost_turned residual.net.arcs p i b
seen_cost false residual p i b = refl

pub seen_tail : (t : Bool) (residual : ResidualNet) (i : ℕ) (b : Bool) → tail_of (arc_at (seen t residual).net.arcs i) b ≡ cond t (head_of (arc_at residual.net.arcs i) b) (tail_of (arc_at residual.net.arcs i) b)
seen_tail true residual i b = tail_turned residual.net.arcs i b
seen_tail false residual i b = refl

pub seen_head : (t : Bool) (residual : ResidualNet) (i : ℕ) (b : Bool) → head_of (arc_at (seen t residual).net.arcs i) b ≡ cond t (tail_of (arc_at residual.net.arcs i) b) (head_of (arc_at residual.net.arcs i) b)
seen_head true residual i b = head_turned residual.net.arcs i b
seen_head false residual i b = refl

pub seen_nodes : (t : Bool) (residual : ResidualNet) → (seen t residual).net.nodes ≡ residual.net.nodes
seen_nodes true residual = refl
seen_nodes false residual = refl

pub seen_arcs : (t : Bool) (residual : ResidualNet) → length (seen t residual).net.arcs ≡ length residual.net.arcs
seen_arcs true residual = length-map residual.net.arcs turn
seen_arcs false residual = refl

-- a step out of a node, or into it if the network is turned around, is the other step over an arc of the node
pub seen_out : (t : Bool) (residual : ResidualNet) (i : ℕ) (b : Bool) → tail_of (arc_at (seen t residual).net.arcs i) (cond t (not b) b) ≡ tail_of (arc_at residual.net.arcs i) b
seen_out true residual i true = tail_turned residual.net.arcs i false
seen_out true residual i false = tail_turned residual.net.arcs i true
seen_out false residual i true = refl
seen_out false residual i false = refl
