-- A step that a search from either end tries.
use Rattle.std.proofs.Common.{ℕ, ◌+◌, ◌*◌, ◌^◌, ◌<◌, ◌≤◌, ◌≡◌, Bool, true, false, cond, List, refl, sym, ap, ◌∙◌, subst, ⊎_elim, arith, length}
use Rattle.std.specs.Prelude.{All, Contains, not, set, min, nat_lt, slice_index, slice_index_or, ℤ, pos, ◌-ℤ◌, ◌≤ℤ◌}
use Rattle.std.proofs.lemmas.Bool.{cases_eq, cases_lt, ltb-true, ltb-false}
use Rattle.std.proofs.lemmas.List.{get_or-set_other, get_or-set_same}
use Rattle.std.proofs.lemmas.Int.{ints}
use Rattle.flow_model.specs.declared.instance.Arc.{Arc}
use Rattle.flow_model.specs.Instance.{arc_at}
use Rattle.residual_net.specs.Residual.{ResidualNet, IsResidualNet, steps_out}
use Rattle.residual_net.proofs.Loads.{get_or-any}
use Rattle.flow_solver.specs.declared.labels.TheConstants.{UNREACHED}
use Rattle.flow_solver.specs.declared.steps.NextStep.{NextStep}
use Rattle.flow_solver.specs.Search.{tail_of, head_of, step_cost, IsNextStep, IsNextOfDirection, IsRelaxedTo, IsSearchTree, IsFlowShown, HasBoundedPotentials}
use Rattle.flow_solver.specs.Queue.{IsQueueProgress, IsRelaxedFrom}
use Rattle.flow_solver.specs.Turned.{seen, seen_potentials}
use Rattle.flow_solver.specs.Meeting.{IsStepOf, IsMeeting, reduced, reduced_cost}
use Rattle.flow_solver.proofs.Trees.{tail_in, head_in, cost_low}
use Rattle.flow_solver.proofs.Tries.{cost_most}
use Rattle.flow_solver.proofs.Turned.{seen_next, seen_back, seen_cost, seen_tail, seen_head, seen_out}
use Rattle.flow_solver.proofs.Outgoing.{out_all, out_known, out_tails}
use Rattle.flow_solver.specs.Heads.{HasHeads, HasNoNext, IsHead, IsOnlyNext}
use Rattle.flow_solver.proofs.Order.{same_ends}
use Rattle.flow_solver.proofs.Queues.{grows_none, grows_on, relaxed_kept}

cost_is : (p : List ℤ) (a : Arc) (b : Bool) (cost tail head : ℕ) → tail_of a b ≡ tail → head_of a b ≡ head → cost ≡ a.cost → cond b (pos 0 -ℤ reduced p cost head tail) (reduced p cost tail head) ≡ step_cost p a b
cost_is p a true cost tail head t h c = let f = ap (λ w. slice_index_or p w (pos 0)) t in let g = ap (λ w. slice_index_or p w (pos 0)) h in omega (arith, ints, f, g, c)
cost_is p a false cost tail head t h c = let f = ap (λ w. slice_index_or p w (pos 0)) t in let g = ap (λ w. slice_index_or p w (pos 0)) h in omega (arith, ints, f, g, c)

module _ (residual : ResidualNet) (p : List ℤ) (ok : IsResidualNet residual) (shown : IsFlowShown residual p) (bounded : HasBoundedPotentials residual.net p) (t : Bool) (s : NextStep) (step : IsStepOf residual s) where
  pub next_cost : reduced_cost p s ≡ step_cost p (arc_at residual.net.arcs s.arc) s.back
  next_cost = cost_is p (arc_at residual.net.arcs s.arc) s.back s.cost s.tail s.head step.tail step.head step.cost

  pub next_low : pos 0 ≤ℤ reduced_cost p s
  next_low = subst (λ z. pos 0 ≤ℤ z) (sym next_cost) (cost_low residual p (s.arc, s.back) ok shown step.next)

  pub next_tail : s.tail < residual.net.nodes
  next_tail = subst (λ v. v < residual.net.nodes) step.tail (tail_in residual (s.arc, s.back) ok step.next.known)

  pub next_head : s.head < residual.net.nodes
  next_head = subst (λ v. v < residual.net.nodes) step.head (head_in residual (s.arc, s.back) ok step.next.known)

  pub near_is : cond t s.head s.tail ≡ tail_of (arc_at (seen t residual).net.arcs s.arc) s.back
  near_is = by t ∙ sym (seen_tail t residual s.arc s.back)
    where
      by : (b : Bool) → cond b s.head s.tail ≡ cond b (head_of (arc_at residual.net.arcs s.arc) s.back) (tail_of (arc_at residual.net.arcs s.arc) s.back)
      by true = sym step.head
      by false = sym step.tail

  pub far_is : cond t s.tail s.head ≡ head_of (arc_at (seen t residual).net.arcs s.arc) s.back
  far_is = by t ∙ sym (seen_head t residual s.arc s.back)
    where
      by : (b : Bool) → cond b s.tail s.head ≡ cond b (tail_of (arc_at residual.net.arcs s.arc) s.back) (head_of (arc_at residual.net.arcs s.arc) s.back)
      by true = sym step.tail
      by false = sym step.head

  pub near_in : (near : ℕ) → near ≡ cond t s.head s.tail → near < residual.net.nodes
  near_in near e = subst (λ v. v < residual.net.nodes) (sym e) (by t)
    where
      by : (b : Bool) → cond b s.head s.tail < residual.net.nodes
      by true = next_head
      by false = next_tail

  pub far_in : (far : ℕ) → far ≡ cond t s.tail s.head → far < residual.net.nodes
  far_in far e = subst (λ v. v < residual.net.nodes) (sym e) (by t)
    where
      by : (b : Bool) → cond b s.tail s.head < residual.net.nodes
      by true = next_tail
      by false = next_head

  pub seen_step : IsNextStep (seen t residual) (s.arc, s.back)
  seen_step = seen_next t residual (s.arc, s.back) step.next

  pub seen_is : (cost : ℕ) → pos cost ≡ reduced_cost p s → pos cost ≡ step_cost (seen_potentials t p) (arc_at (seen t residual).net.arcs s.arc) s.back
  seen_is cost e = e ∙ next_cost ∙ sym (seen_cost t residual p s.arc s.back)

  pub seen_most : step_cost (seen_potentials t p) (arc_at (seen t residual).net.arcs s.arc) s.back ≤ℤ pos (2 * 10 ^ 12 + 2 ^ 24 * (2 * 10 ^ 12))
  seen_most = subst (λ z. z ≤ℤ pos (2 * 10 ^ 12 + 2 ^ 24 * (2 * 10 ^ 12))) (sym (seen_cost t residual p s.arc s.back)) (cost_most residual p (s.arc, s.back) ok bounded step.next.known)

-- a label falls, and the meeting with it if the paths over the node get shorter
pub meeting_lowered : (nodes : ℕ) (d new e : List ℕ) (best node far label less next : ℕ) → far < length d → length d ≡ nodes → label < slice_index d far → new ≡ set d far label → less ≡ min best (label + slice_index e far) → next ≡ cond (nat_lt (label + slice_index e far) best) far node → IsMeeting nodes d e best node → IsMeeting nodes new e less next
meeting_lowered nodes d new e best node far label less next l long lower is less_is next_is meeting = record {
  below = λ x lx. ⊎_elim
      (λ (at : x ≡ far). let h = ap (slice_index e) at in let g = ap (slice_index new) at in omega (arith, less_is, here, h, g))
      (λ (ne : x ≡ far → ⊥). let h = other x ne in let b = meeting.below x lx in omega (arith, less_is, h, b))
      (cases_eq x far);
  most = let m = meeting.most in omega (arith, less_is, m);
  met = λ near. by (nat_lt (label + slice_index e far) best) refl near;
}
  where
    here : slice_index new far ≡ label
    here = ap (λ ls. slice_index ls far) is ∙ get_or-set_same d far label 0 l

    other : (x : ℕ) → (x ≡ far → ⊥) → slice_index new x ≡ slice_index d x
    other x ne = ap (λ ls. slice_index ls x) is ∙ get_or-set_other d far x label 0 ne

    lower_at : (x : ℕ) → slice_index new x ≤ slice_index d x
    lower_at x = ⊎_elim
        (λ (at : x ≡ far). let g = ap (slice_index new) at in let h = ap (slice_index d) at in omega (arith, here, g, h, lower))
        (λ (ne : x ≡ far → ⊥). let h = other x ne in omega (arith, h))
        (cases_eq x far)

    by : (b : Bool) → nat_lt (label + slice_index e far) best ≡ b → less < UNREACHED → (next < nodes) × (slice_index new next + slice_index e next ≤ less)
    by true c near =
        let at : next ≡ far = next_is ∙ ap (λ b. cond b far node) c in
        let lt = ltb-true (label + slice_index e far) best c in
        let h = ap (slice_index e) at in
        let g = ap (slice_index new) at in
        (omega (arith, at, l, long), omega (arith, less_is, lt, h, g, here))
    by false c near =
        let at : next ≡ node = next_is ∙ ap (λ b. cond b far node) c in
        let ge = ltb-false (label + slice_index e far) best c in
        let old = meeting.met (omega (arith, near, less_is, ge)) in
        let h = ap (slice_index e) at in
        let g = ap (slice_index new) at in
        let f = lower_at node in
        let o = old.1 in
        let i = old.0 in
        (omega (arith, at, i), omega (arith, less_is, ge, h, g, f, o))

-- the steps over the first directions of a node are relaxed; a search that is turned around tries the steps into the node
pub record IsOpening (residual : ResidualNet) (heads : List Arc) (p : List ℤ) (t : Bool) (old keys labels : List ℕ) (parents : List (ℕ × Bool)) (newer other : List ℕ) (first best node : ℕ) (out : List (ℕ × Bool)) (j v : ℕ) : Type 0 where
  pub tree : IsSearchTree (seen t residual) (seen_potentials t p) labels parents
  pub meeting : IsMeeting residual.net.nodes labels other best node
  pub less : best ≤ first
  pub grows : IsQueueProgress old keys labels newer
  pub same : slice_index labels v ≡ slice_index old v
  pub done : (k : ℕ) → k < j → k < length out → (i : ℕ) → i < length residual.net.arcs → (arc_at residual.net.arcs i).dir ≡ (arc_at residual.net.arcs (arc_at heads (slice_index_or out k (0, false)).0).dir).dir → IsNextOfDirection residual.net.arcs residual.flow i (cond t (not (slice_index_or out k (0, false)).1) (slice_index_or out k (0, false)).1) → IsRelaxedTo (seen t residual).net.arcs (seen_potentials t p) labels best i (cond t (not (slice_index_or out k (0, false)).1) (slice_index_or out k (0, false)).1)

-- the arcs of a direction have the ends of its head
same_tail : (residual : ResidualNet) (head : Arc) (i : ℕ) (b : Bool) → IsResidualNet residual → IsHead residual.net.arcs head → i < length residual.net.arcs → (arc_at residual.net.arcs i).dir ≡ (arc_at residual.net.arcs head.dir).dir → tail_of (arc_at residual.net.arcs i) b ≡ tail_of head b
same_tail residual head i b ok is l e = by b
  where
    ends : ((arc_at residual.net.arcs i).from ≡ head.from) × ((arc_at residual.net.arcs i).to ≡ head.to)
    ends = let e' = same_ends residual.net.arcs i head.dir ok.good.dearer l is.known e in (e'.0 ∙ sym is.from, e'.1 ∙ sym is.to)

    by : (b : Bool) → tail_of (arc_at residual.net.arcs i) b ≡ tail_of head b
    by true = ends.1
    by false = ends.0

module _ (residual : ResidualNet) (heads : List Arc) (ok : IsResidualNet residual) (has : HasHeads residual.net.arcs heads (length residual.net.arcs)) (p : List ℤ) (t : Bool) (v : ℕ) (out : List (ℕ × Bool)) (is : out ≡ steps_out heads v) where
  abbrev head_of_entry : ℕ → Arc
  head_of_entry k = arc_at heads (slice_index_or out k (0, false)).0

  abbrev back_of_entry : ℕ → Bool
  back_of_entry k = cond t (not (slice_index_or out k (0, false)).1) (slice_index_or out k (0, false)).1

  pub entry_known : (k : ℕ) → k < length out → (slice_index_or out k (0, false)).0 < length heads
  entry_known k l = subst (All (λ (s : ℕ × Bool). s.0 < length heads)) (sym is) (out_known heads v) k (0, false) l

  -- such a step starts at the node, seen from the search's end
  over_tail : (k i : ℕ) → k < length out → i < length residual.net.arcs → (arc_at residual.net.arcs i).dir ≡ (arc_at residual.net.arcs (head_of_entry k).dir).dir → tail_of (arc_at (seen t residual).net.arcs i) (back_of_entry k) ≡ v
  over_tail k i l li e =
      let known = entry_known k l in
      seen_out t residual i (slice_index_or out k (0, false)).1 ∙ same_tail residual (head_of_entry k) i (slice_index_or out k (0, false)).1 ok (has.each (slice_index_or out k (0, false)).0 known) li e ∙ subst (All (λ (s : ℕ × Bool). tail_of (arc_at heads s.0) s.1 ≡ v)) (sym is) (out_tails heads v) k (0, false) l

  pub opening_skip : (old keys labels : List ℕ) (parents : List (ℕ × Bool)) (newer other : List ℕ) (first best node j : ℕ) → HasNoNext residual.net.arcs residual.flow (head_of_entry j) (back_of_entry j) → IsOpening residual heads p t old keys labels parents newer other first best node out j v → IsOpening residual heads p t old keys labels parents newer other first best node out (j + 1) v
  opening_skip old keys labels parents newer other first best node j none so = record {
    tree = so.tree;
    meeting = so.meeting;
    less = so.less;
    grows = so.grows;
    same = so.same;
    done = λ k kl kin i li e way. ⊎_elim
        (λ (less : k < j). so.done k less kin i li e way)
        (λ (ge : j ≤ k). let at : k ≡ j = omega (arith, ge, kl) in absurd (subst (λ m. HasNoNext residual.net.arcs residual.flow (head_of_entry m) (back_of_entry m)) (sym at) none i li e way))
        (cases_lt k j);
  }

  pub opening_turn : (old keys labels new : List ℕ) (parents moved : List (ℕ × Bool)) (newer newest other : List ℕ) (first best less node next arc j : ℕ) → j < length out → IsOnlyNext residual.net.arcs residual.flow (head_of_entry j) (back_of_entry j) arc → IsSearchTree (seen t residual) (seen_potentials t p) new moved → IsMeeting residual.net.nodes new other less next → less ≤ best → IsQueueProgress labels newer new newest → IsRelaxedTo (seen t residual).net.arcs (seen_potentials t p) new less arc (back_of_entry j) → slice_index new (tail_of (arc_at (seen t residual).net.arcs arc) (back_of_entry j)) ≡ slice_index labels (tail_of (arc_at (seen t residual).net.arcs arc) (back_of_entry j)) → IsOpening residual heads p t old keys labels parents newer other first best node out j v → IsOpening residual heads p t old keys new moved newest other first less next out (j + 1) v
  opening_turn old keys labels new parents moved newer newest other first best less node next arc j l only tree meeting le grows relaxed tail so =
      let at_v : slice_index new v ≡ slice_index labels v = subst (λ w. slice_index new w ≡ slice_index labels w) (over_tail j arc l only.known only.dir) tail in
      let before = so.less in
      record {
        tree = tree;
        meeting = meeting;
        less = omega (arith, le, before);
        grows = grows_on old keys labels newer new newest so.grows grows;
        same = at_v ∙ so.same;
        done = λ k kl kin i li e way. ⊎_elim
            (λ (lt : k < j). relaxed_kept (seen t residual).net.arcs (seen_potentials t p) labels new best less i (back_of_entry k) le grows.lower (ap (slice_index new) (over_tail k i kin li e) ∙ at_v ∙ sym (ap (slice_index labels) (over_tail k i kin li e))) (so.done k lt kin i li e way))
            (λ (ge : j ≤ k).
            let at : k ≡ j = omega (arith, ge, kl) in
            let one : i ≡ arc = only.only i li (subst (λ m. (arc_at residual.net.arcs i).dir ≡ (arc_at residual.net.arcs (head_of_entry m).dir).dir) at e) (subst (λ m. IsNextOfDirection residual.net.arcs residual.flow i (back_of_entry m)) at way) in
            subst (λ m. IsRelaxedTo (seen t residual).net.arcs (seen_potentials t p) new less i (back_of_entry m)) (sym at) (subst (λ a. IsRelaxedTo (seen t residual).net.arcs (seen_potentials t p) new less a (back_of_entry j)) (sym one) relaxed))
            (cases_lt k j);
      }

  pub opening_end : (old keys labels : List ℕ) (parents : List (ℕ × Bool)) (newer other : List ℕ) (first best node j : ℕ) → length out ≤ j → IsOpening residual heads p t old keys labels parents newer other first best node out j v → IsRelaxedFrom (seen t residual) (seen_potentials t p) labels best v
  opening_end old keys labels parents newer other first best node j l so s next tail =
      let back = seen_back t residual s next in
      let lane = has.all s.0 back.known in
      let flip : Bool = cond t (not s.1) s.1 in
      let entry : ℕ × Bool = (lane.0, cond t (not s.1) s.1) in
      let at_tail : tail_of (arc_at heads lane.0) flip ≡ v = sym (same_tail residual (arc_at heads lane.0) s.0 flip ok (has.each lane.0 lane.1) back.known (sym lane.2)) ∙ sym (seen_out t residual s.0 flip) ∙ ap (λ b. tail_of (arc_at (seen t residual).net.arcs s.0) b) (flip_twice t s.1) ∙ tail in
      let c = subst (λ (ss : List (ℕ × Bool)). Contains ss entry) (sym is) (out_all heads v entry lane.1 at_tail) in
      let inside = c.1 in
      let at : slice_index_or out c.0 (0, false) ≡ entry = get_or-any out c.0 (0, false) entry inside ∙ c.2 in
      let same : back_of_entry c.0 ≡ s.1 = ap (λ (q : ℕ × Bool). cond t (not q.1) q.1) at ∙ flip_twice t s.1 in
      let dir : (arc_at residual.net.arcs s.0).dir ≡ (arc_at residual.net.arcs (head_of_entry c.0).dir).dir = sym lane.2 ∙ sym (ap (λ (q : ℕ × Bool). (arc_at residual.net.arcs (arc_at heads q.0).dir).dir) at) in
      subst (λ b. IsRelaxedTo (seen t residual).net.arcs (seen_potentials t p) labels best s.0 b) same (so.done c.0 (omega (arith, inside, l)) inside s.0 back.known dir (subst (λ b. IsNextOfDirection residual.net.arcs residual.flow s.0 b) (sym same) back.way))
    where
      flip_twice : (b c : Bool) → cond b (not (cond b (not c) c)) (cond b (not c) c) ≡ c
      flip_twice true true = refl
      flip_twice true false = refl
      flip_twice false c = refl

pub opening_init : (residual : ResidualNet) (heads : List Arc) (p : List ℤ) (t : Bool) (labels keys : List ℕ) (parents : List (ℕ × Bool)) (other : List ℕ) (best node : ℕ) (out : List (ℕ × Bool)) (v : ℕ) → IsSearchTree (seen t residual) (seen_potentials t p) labels parents → IsMeeting residual.net.nodes labels other best node → IsOpening residual heads p t labels keys labels parents keys other best best node out 0 v
opening_init residual heads p t labels keys parents other best node out v tree meeting = record { tree = tree; meeting = meeting; less = omega arith; grows = grows_none labels keys; same = refl; done = λ k l kin i li e way. absurd (omega (arith, l)) }
