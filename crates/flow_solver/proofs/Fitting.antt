-- Lanes: how they are made, what stays as some are marked, and the lane of a step out of a node.
use Rattle.std.proofs.Common.{ℕ, suc, ◌+◌, ◌<◌, ◌≤◌, ◌≡◌, Bool, true, false, List, [], ◌∷◌, ◌++◌, sym, refl, ap, ◌∙◌, subst, ⊎_elim, arith, length}
use Rattle.std.specs.Prelude.{cond, drop, replicate, set, slice_index, slice_index_or, take}
use Rattle.std.proofs.lemmas.Bool.{both_ways, cases_Bool, cases_eq, cases_lt}
use Rattle.std.proofs.lemmas.List.{length-append, length-drop, length-replicate, length-take-le, get_or_append_left, get_or-drop, get_or-replicate, get_or-set_same, get_or-set_other, get_or-take}
use Rattle.std.proofs.Math.Seq.{get_or-append_seam}
use lib.ListN.{length-set}
use Rattle.flow_model.specs.declared.instance.Arc.{Arc}
use Rattle.flow_model.specs.Instance.{Net, arc_at}
use Rattle.residual_net.specs.Residual.{ResidualNet, IsResidualNet, flow_after, steps_out, units_after}
use Rattle.flow_solver.specs.declared.lanes.Lane.{Lane}
use Rattle.flow_solver.specs.declared.lanes.TheConstants.{UNMADE}
use Rattle.flow_solver.specs.Heads.{HasHeads, IsHead, IsOnlyNext, HasNoNext}
use Rattle.flow_solver.specs.Lanes.{FitsLanes, HasMadeRows, IsKnown, IsLaneOf, IsMade, IsMarked, IsMarkedAt, IsMarkedIn, IsMarkedOver, IsRow, IsRowAt, IsRowTo, first_of, lane_at, lane_of, no_lane, step_of, unmarked}
use Rattle.flow_solver.specs.Meeting.{IsStepOf}
use Rattle.flow_solver.specs.Search.{InOrder, tail_of, head_of}
use Rattle.flow_solver.proofs.Firsts.{all_rooms, backward_none, forward_is, head_step}
use Rattle.flow_solver.proofs.Outgoing.{out_known, out_tails}

pub row_init : (flow : List ℕ) (heads : List Arc) (v : ℕ) (old : List Lane) → IsRowTo flow heads v 0 old old
row_init flow heads v old = record { long = omega arith; kept = λ q l. refl; row = record { each = λ k l. absurd (omega (arith, l)); known = λ k l. absurd (omega (arith, l)) } }

pub row_turn : (flow : List ℕ) (heads : List Arc) (v j : ℕ) (old now new : List Lane) (lane : Lane) → new ≡ now ++ lane ∷ [] → unmarked lane ≡ lane_of heads (step_of heads v j) → IsKnown flow lane → IsRowTo flow heads v j old now → IsRowTo flow heads v (j + 1) old new
row_turn flow heads v j old now new lane e is known so = subst (IsRowTo flow heads v (j + 1) old) (sym e) record {
  long = let n = length-append now (lane ∷ []) in let m = so.long in omega (arith, n, m);
  kept = λ q l. get_or_append_left now (lane ∷ []) no_lane q (let m = so.long in omega (arith, m, l)) ∙ so.kept q l;
  row = record {
    each = λ k l. ⊎_elim
        (λ (less : k < j). ap unmarked (left k less) ∙ so.row.each k less)
        (λ (ge : j ≤ k). ap unmarked (seam k ge l) ∙ is ∙ ap (λ n. lane_of heads (step_of heads v n)) (let at : j ≡ k = omega (arith, ge, l) in at))
        (cases_lt k j);
    known = λ k l. ⊎_elim
        (λ (less : k < j). subst (IsKnown flow) (sym (left k less)) (so.row.known k less))
        (λ (ge : j ≤ k). subst (IsKnown flow) (sym (seam k ge l)) known)
        (cases_lt k j);
  };
}
  where
    left : (k : ℕ) → k < j → lane_at (now ++ lane ∷ []) (length old + k) ≡ lane_at now (length old + k)
    left k less = get_or_append_left now (lane ∷ []) no_lane (length old + k) (let m = so.long in omega (arith, m, less))

    seam : (k : ℕ) → j ≤ k → k < j + 1 → lane_at (now ++ lane ∷ []) (length old + k) ≡ lane
    seam k ge l = let here : length old + k ≡ length now = (let m = so.long in omega (arith, m, ge, l)) in ap (lane_at (now ++ lane ∷ [])) here ∙ get_or-append_seam now lane [] no_lane

row_kept : (flow : List ℕ) (heads : List Arc) (v start j : ℕ) (lanes new : List Lane) → start + j ≤ length lanes → ((q : ℕ) → q < length lanes → lane_at new q ≡ lane_at lanes q) → IsRowAt flow heads v start j lanes → IsRowAt flow heads v start j new
row_kept flow heads v start j lanes new most kept so = record {
  each = λ k l. ap unmarked (kept (start + k) (omega (arith, most, l))) ∙ so.each k l;
  known = λ k l. subst (IsKnown flow) (sym (kept (start + k) (omega (arith, most, l)))) (so.known k l);
}

-- lanes still fit after those of one more node were appended
pub row_made : (residual : ResidualNet) (heads : Net) (starts newer : List ℕ) (lanes new : List Lane) (node start : ℕ) → node < residual.net.nodes → start ≡ length lanes → newer ≡ set starts node start → IsRowTo residual.flow heads.arcs node (length (steps_out heads.arcs node)) lanes new → FitsLanes residual heads starts lanes → FitsLanes residual heads newer new
row_made residual heads starts newer lanes new node start inside is e row fit = subst (λ ss. FitsLanes residual heads ss new) (sym e) record {
  heads_are = fit.heads_are;
  nodes = fit.nodes;
  held = record {
    long = length-set starts node start ∙ fit.held.long;
    most = λ v l made. ⊎_elim
        (λ (at : v ≡ node). let s = place v at in let n = ap (λ w. length (steps_out heads.arcs w)) at in let r = row.long in omega (arith, s, n, r))
        (λ (ne : v ≡ node → ⊥). let s = other v ne in let m = fit.held.most v l (before v ne made) in let r = row.long in omega (arith, s, m, r))
        (cases_eq v node);
  };
  rows = λ v l made. ⊎_elim
      (λ (at : v ≡ node). subst (λ s. IsRowAt residual.flow heads.arcs v s (length (steps_out heads.arcs v)) new) (sym (place v at)) (subst (λ w. IsRowAt residual.flow heads.arcs w (length lanes) (length (steps_out heads.arcs w)) new) (sym at) row.row))
      (λ (ne : v ≡ node → ⊥).
      let now = before v ne made in
      subst (λ s. IsRowAt residual.flow heads.arcs v s (length (steps_out heads.arcs v)) new) (sym (other v ne)) (row_kept residual.flow heads.arcs v (slice_index starts v) (length (steps_out heads.arcs v)) lanes new (fit.held.most v l now) row.kept (fit.rows v l now)))
      (cases_eq v node);
}
  where
    place : (v : ℕ) → v ≡ node → slice_index (set starts node start) v ≡ length lanes
    place v at = ap (slice_index (set starts node start)) at ∙ get_or-set_same starts node start 0 (let a = fit.held.long in let b = fit.nodes in omega (arith, a, b, inside)) ∙ is

    other : (v : ℕ) → (v ≡ node → ⊥) → slice_index (set starts node start) v ≡ slice_index starts v
    other v ne = get_or-set_other starts node v start 0 ne

    before : (v : ℕ) → (v ≡ node → ⊥) → IsMade (set starts node start) v → IsMade starts v
    before v ne made = subst (λ s. s < UNMADE) (other v ne) made

none_made : (n v : ℕ) → v < n → slice_index (replicate n UNMADE) v < UNMADE → ⊥
none_made n v l made = let e = get_or-replicate n v UNMADE 0 l in omega (arith, e, made)

pub lanes_open : (residual : ResidualNet) (heads : Net) (starts : List ℕ) → HasHeads residual.net.arcs heads.arcs (length residual.net.arcs) → heads.nodes ≡ residual.net.nodes → starts ≡ replicate residual.net.nodes UNMADE → FitsLanes residual heads starts []
lanes_open residual heads starts is nodes e = subst (λ ss. FitsLanes residual heads ss []) (sym (e ∙ ap (λ n. replicate n UNMADE) (sym nodes))) record {
  heads_are = is;
  nodes = nodes;
  held = record {
    long = length-replicate heads.nodes UNMADE;
    most = λ v l made. absurd (none_made heads.nodes v l made);
  };
  rows = λ v l made. absurd (none_made heads.nodes v l made);
}

-- the lanes at a node as a list of their own
pub row_is : (residual : ResidualNet) (heads : Net) (starts : List ℕ) (lanes row : List Lane) (node : ℕ) → node < residual.net.nodes → IsMade starts node → row ≡ take (length (steps_out heads.arcs node)) (drop (slice_index starts node) lanes) → FitsLanes residual heads starts lanes → IsRow residual node row
row_is residual heads starts lanes row node inside made e fit = subst (IsRow residual node) (sym e) record {
  heads = heads.arcs;
  heads_are = fit.heads_are;
  long = long;
  each = λ k l. let m : k < n = (let a = long in omega (arith, a, l)) in ap unmarked (here k m) ∙ so.each k m;
  known = λ k l. let m : k < n = (let a = long in omega (arith, a, l)) in subst (IsKnown residual.flow) (sym (here k m)) (so.known k m);
}
  where
    n : ℕ
    n = length (steps_out heads.arcs node)

    start : ℕ
    start = slice_index starts node

    known_node : node < heads.nodes
    known_node = let a = fit.nodes in omega (arith, a, inside)

    so : IsRowAt residual.flow heads.arcs node start n lanes
    so = fit.rows node known_node made

    long : length (take n (drop start lanes)) ≡ n
    long = length-take-le n (drop start lanes) (let a = length-drop start lanes in let b = fit.held.most node known_node made in omega (arith, a, b))

    here : (k : ℕ) → k < n → lane_at (take n (drop start lanes)) k ≡ lane_at lanes (start + k)
    here k l = get_or-take n (drop start lanes) k no_lane l ∙ get_or-drop start lanes k no_lane

pub marked_none : (lanes : List Lane) → IsMarked lanes lanes
marked_none lanes = record { long = refl; same = λ q. refl; stays = λ q e. e }

pub marked_on : (lanes now new : List Lane) → IsMarked lanes now → IsMarked now new → IsMarked lanes new
marked_on lanes now new a b = record { long = b.long ∙ a.long; same = λ q. b.same q ∙ a.same q; stays = λ q e. b.stays q (a.stays q e) }

pub marked_in : (now new : List Lane) (start end first : ℕ) → IsMarked now new → IsMarkedIn now start end first → IsMarkedIn new start end first
marked_in now new start end first so all q ge less is = so.stays q (all q ge less (sym (ap (λ (l : Lane). l.first) (so.same q)) ∙ is))

pub marked_at : (heads : List Arc) (starts : List ℕ) (now new : List Lane) (v first : ℕ) → IsMarked now new → IsMarkedAt heads starts now v first → IsMarkedAt heads starts new v first
marked_at heads starts now new v first so all made = marked_in now new (slice_index starts v) (slice_index starts v + length (steps_out heads v)) first so (all made)

pub marked_over : (heads : List Arc) (starts : List ℕ) (now new : List Lane) (arc : Arc) (first : ℕ) → IsMarked now new → IsMarkedOver heads starts now arc first → IsMarkedOver heads starts new arc first
marked_over heads starts now new arc first so all = (marked_at heads starts now new arc.from first so all.0, marked_at heads starts now new arc.to first so all.1)

pub rows_marked : (heads : Net) (starts : List ℕ) (lanes new : List Lane) → IsMarked lanes new → HasMadeRows heads starts lanes → HasMadeRows heads starts new
rows_marked heads starts lanes new so held = record { long = held.long; most = λ v l made. let a = held.most v l made in let b = so.long in omega (arith, a, b) }

-- the lanes over the first steps of a path are marked
abbrev pub IsPathMarked : List Arc → List ℕ → List Arc → List (ℕ × Bool) → ℕ → List Lane → Type 0
IsPathMarked heads starts arcs path j lanes = (m : ℕ) → m < j → IsMarkedOver heads starts lanes (arc_at arcs (slice_index_or path m (0, false)).0) (slice_index_or path m (0, false)).0

pub mark_path_turn : (heads : List Arc) (starts : List ℕ) (arcs : List Arc) (path : List (ℕ × Bool)) (now new : List Lane) (j : ℕ) → IsMarked now new → IsMarkedOver heads starts new (arc_at arcs (slice_index_or path j (0, false)).0) (slice_index_or path j (0, false)).0 → IsPathMarked heads starts arcs path j now → IsPathMarked heads starts arcs path (j + 1) new
mark_path_turn heads starts arcs path now new j so last all m l = ⊎_elim
    (λ (less : m < j). marked_over heads starts now new (arc_at arcs (slice_index_or path m (0, false)).0) (slice_index_or path m (0, false)).0 so (all m less))
    (λ (ge : j ≤ m). let at : j ≡ m = omega (arith, ge, l) in subst (λ n. IsMarkedOver heads starts new (arc_at arcs (slice_index_or path n (0, false)).0) (slice_index_or path n (0, false)).0) at last)
    (cases_lt m j)

pub mark_turn : (lanes now new : List Lane) (start q first : ℕ) (lane : Lane) → q < length now → new ≡ set now q lane → unmarked lane ≡ unmarked (lane_at now q) → ((lane_at now q).used ≡ true → lane.used ≡ true) → ((lane_at now q).first ≡ first → lane.used ≡ true) → IsMarked lanes now × IsMarkedIn now start q first → IsMarked lanes new × IsMarkedIn new start (q + 1) first
mark_turn lanes now new start q first lane l e same stays marks so = subst (λ xs. IsMarked lanes xs × IsMarkedIn xs start (q + 1) first) (sym e) (
  marked_on lanes now (set now q lane) so.0 turn,
  λ r ge less is. ⊎_elim
      (λ (at : r ≡ q). subst (λ m. (lane_at (set now q lane) m).first ≡ first → (lane_at (set now q lane) m).used ≡ true) (sym at) (λ f. ap (λ (x : Lane). x.used) here ∙ marks (sym (ap (λ (x : Lane). x.first) same) ∙ sym (ap (λ (x : Lane). x.first) here) ∙ f)) is)
      (λ (ne : r ≡ q → ⊥). ap (λ (x : Lane). x.used) (other r ne) ∙ so.1 r ge (omega (arith, less, ne)) (sym (ap (λ (x : Lane). x.first) (other r ne)) ∙ is))
      (cases_eq r q),
)
  where
    here : lane_at (set now q lane) q ≡ lane
    here = get_or-set_same now q lane no_lane l

    other : (r : ℕ) → (r ≡ q → ⊥) → lane_at (set now q lane) r ≡ lane_at now r
    other r ne = get_or-set_other now q r lane no_lane ne

    turn : IsMarked now (set now q lane)
    turn = record {
      long = length-set now q lane;
      same = λ r. ⊎_elim
          (λ (at : r ≡ q). subst (λ m. unmarked (lane_at (set now q lane) m) ≡ unmarked (lane_at now m)) (sym at) (ap unmarked here ∙ same))
          (λ (ne : r ≡ q → ⊥). ap unmarked (other r ne))
          (cases_eq r q);
      stays = λ r on. ⊎_elim
          (λ (at : r ≡ q). subst (λ m. (lane_at now m).used ≡ true → (lane_at (set now q lane) m).used ≡ true) (sym at) (λ f. ap (λ (x : Lane). x.used) here ∙ stays f) on)
          (λ (ne : r ≡ q → ⊥). ap (λ (x : Lane). x.used) (other r ne) ∙ on)
          (cases_eq r q);
    }

-- units on arcs that a path doesn't use stay
pub flow_other : (flow : List ℕ) (amount : ℕ) (path : List (ℕ × Bool)) (i : ℕ) → ((m : ℕ) → m < length path → (slice_index_or path m (0, false)).0 ≡ i → ⊥) → slice_index (flow_after flow amount path) i ≡ slice_index flow i
flow_other flow amount [] i none = refl
flow_other flow amount (s ∷ path) i none =
    flow_other (set flow s.0 (units_after (slice_index flow s.0) amount s.1)) amount path i (λ m l. none (suc m) (omega (arith, l)))
    ∙ get_or-set_other flow s.0 i (units_after (slice_index flow s.0) amount s.1) 0 (λ e. none 0 (omega arith) (sym e))

module _ (residual : ResidualNet) (heads : List Arc) (has : HasHeads residual.net.arcs heads (length residual.net.arcs)) (v k : ℕ) (lk : k < length (steps_out heads v)) (lane : Lane) (is : unmarked lane ≡ lane_of heads (step_of heads v k)) where
  abbrev step : ℕ × Bool
  step = step_of heads v k

  step_known : step.0 < length heads
  step_known = out_known heads v k (0, false) lk

  pub lane_first : lane.first ≡ (arc_at heads step.0).dir
  lane_first = ap (λ (x : Lane). x.first) is

  pub lane_enters : lane.enters ≡ step.1
  lane_enters = ap (λ (x : Lane). x.enters) is

  is_head : IsHead residual.net.arcs (arc_at heads step.0)
  is_head = has.each step.0 step_known

  tail_is : (b : Bool) → tail_of (arc_at heads step.0) b ≡ tail_of (first_of residual.net.arcs lane.first) b
  tail_is true = is_head.to ∙ ap (λ i. (arc_at residual.net.arcs i).to) (sym lane_first)
  tail_is false = is_head.from ∙ ap (λ i. (arc_at residual.net.arcs i).from) (sym lane_first)

  head_is : (b : Bool) → head_of (arc_at heads step.0) b ≡ head_of (first_of residual.net.arcs lane.first) b
  head_is true = is_head.from ∙ ap (λ i. (arc_at residual.net.arcs i).from) (sym lane_first)
  head_is false = is_head.to ∙ ap (λ i. (arc_at residual.net.arcs i).to) (sym lane_first)

  pub lane_near : v ≡ tail_of (first_of residual.net.arcs lane.first) lane.enters
  lane_near = sym (out_tails heads v k (0, false) lk) ∙ tail_is step.1 ∙ ap (tail_of (first_of residual.net.arcs lane.first)) (sym lane_enters)

  pub lane_here : IsKnown residual.flow lane → IsLaneOf residual v lane
  lane_here known = record {
    head = subst (λ i. IsHead residual.net.arcs (first_of residual.net.arcs i)) (sym lane_first) (record { known = is_head.known; from = refl; to = refl; room = refl; cost = refl; starts = is_head.starts });
    near = lane_near;
    far = ap (λ (x : Lane). x.other) is ∙ head_is step.1 ∙ ap (head_of (first_of residual.net.arcs lane.first)) (sym lane_enters);
    cost = ap (λ (x : Lane). x.cost) is ∙ is_head.cost ∙ ap (λ i. (arc_at residual.net.arcs i).cost) (sym lane_first);
    known = known;
  }

  -- the lane of a direction whose first arc was marked is marked
  pub lane_marked : (starts : List ℕ) (lanes : List Lane) → IsMade starts v → lane ≡ lane_at lanes (slice_index starts v + k) → IsMarkedOver heads starts lanes (arc_at residual.net.arcs lane.first) lane.first → lane.used ≡ true
  lane_marked starts lanes made here all = by lane.enters lane_near
    where
      at : (w : ℕ) → v ≡ w → IsMarkedAt heads starts lanes w lane.first → lane.used ≡ true
      at w e marks = ap (λ (x : Lane). x.used) here ∙ subst (λ u. IsMarkedAt heads starts lanes u lane.first) (sym e) marks made (slice_index starts v + k) (omega arith) (omega (arith, lk)) (sym (ap (λ (x : Lane). x.first) here))

      by : (b : Bool) → v ≡ tail_of (first_of residual.net.arcs lane.first) b → lane.used ≡ true
      by true e = at _ e all.1
      by false e = at _ e all.0

pub only_as : (arcs : List Arc) (flow : List ℕ) (h g : Arc) (back : Bool) (i : ℕ) → h.dir ≡ g.dir → IsOnlyNext arcs flow h back i → IsOnlyNext arcs flow g back i
only_as arcs flow h g back i e o = record {
  known = o.known;
  dir = o.dir ∙ ap (λ m. (arc_at arcs m).dir) e;
  next = o.next;
  only = λ j l d n. o.only j l (d ∙ ap (λ m. (arc_at arcs m).dir) (sym e)) n;
}

pub none_as : (arcs : List Arc) (flow : List ℕ) (h g : Arc) (back : Bool) → h.dir ≡ g.dir → HasNoNext arcs flow h back → HasNoNext arcs flow g back
none_as arcs flow h g back e none j l d n = none j l (d ∙ ap (λ m. (arc_at arcs m).dir) (sym e)) n

-- lanes still fit after a push along a path whose lanes were marked
pub lanes_pushed : (residual : ResidualNet) (heads : Net) (starts : List ℕ) (lanes new : List Lane) (amount : ℕ) (path : List (ℕ × Bool)) → FitsLanes residual heads starts lanes → IsMarked lanes new → IsPathMarked heads.arcs starts residual.net.arcs path (length path) new → FitsLanes (record { net = residual.net; flow = flow_after residual.flow amount path }) heads starts new
lanes_pushed residual heads starts lanes new amount path fit so all = record {
  heads_are = fit.heads_are;
  nodes = fit.nodes;
  held = rows_marked heads starts lanes new so fit.held;
  rows = λ v l made. record {
    each = each v l made;
    known = λ k m off.
        flow_other residual.flow amount path (lane_at new (slice_index starts v + k)).first
        (λ j lj at. both_ways (lane_at new (slice_index starts v + k)).used off (lane_marked residual heads.arcs fit.heads_are v k m (lane_at new (slice_index starts v + k)) (each v l made k m) starts new made refl (subst (λ i. IsMarkedOver heads.arcs starts new (arc_at residual.net.arcs i) i) at (all j lj))))
        ∙ ap (λ (x : Lane). slice_index residual.flow x.first) (so.same (slice_index starts v + k))
        ∙ (fit.rows v l made).known k m (was (slice_index starts v + k) off);
  };
}
  where
    was : (q : ℕ) → (lane_at new q).used ≡ false → (lane_at lanes q).used ≡ false
    was q off = ⊎_elim
        (λ (on : (lane_at lanes q).used ≡ true). absurd (both_ways (lane_at new q).used off (so.stays q on)))
        (λ (e : (lane_at lanes q).used ≡ false). e)
        (cases_Bool (lane_at lanes q).used)

    each : (v : ℕ) → v < heads.nodes → IsMade starts v → (k : ℕ) → k < length (steps_out heads.arcs v) → unmarked (lane_at new (slice_index starts v + k)) ≡ lane_of heads.arcs (step_of heads.arcs v k)
    each v l made k m = so.same (slice_index starts v + k) ∙ (fit.rows v l made).each k m

-- the step forward over the first arc of a direction that carries nothing
pub first_step_is : (residual : ResidualNet) (v : ℕ) (lane : Lane) → IsResidualNet residual → InOrder residual.net.arcs residual.flow → IsLaneOf residual v lane → lane.used ≡ false → IsStepOf residual (record { arc = lane.first; back = false; tail = cond lane.enters lane.other v; head = cond lane.enters v lane.other; cost = lane.cost }) × IsOnlyNext residual.net.arcs residual.flow (first_of residual.net.arcs lane.first) false lane.first
first_step_is residual v lane ok order is off = (head_step residual first (record { arc = lane.first; back = false; tail = cond lane.enters lane.other v; head = cond lane.enters v lane.other; cost = lane.cost }) ok is.head only (by_tail lane.enters is.near is.far) (by_head lane.enters is.near is.far) is.cost, only)
  where
    first : Arc
    first = first_of residual.net.arcs lane.first

    only : IsOnlyNext residual.net.arcs residual.flow (first_of residual.net.arcs lane.first) false lane.first
    only =
        let none = is.known off in
        let room = all_rooms residual ok lane.first is.head.known in
        forward_is residual.net.arcs residual.flow (first_of residual.net.arcs lane.first) is.head ok.good.together order (all_rooms residual ok) lane.first is.head.known refl (omega (arith, none, room)) (λ j ge less. absurd (omega (arith, ge, less)))

    by_tail : (b : Bool) → v ≡ tail_of (first_of residual.net.arcs lane.first) b → lane.other ≡ head_of (first_of residual.net.arcs lane.first) b → cond b lane.other v ≡ tail_of (first_of residual.net.arcs lane.first) false
    by_tail true near far = far
    by_tail false near far = near

    by_head : (b : Bool) → v ≡ tail_of (first_of residual.net.arcs lane.first) b → lane.other ≡ head_of (first_of residual.net.arcs lane.first) b → cond b v lane.other ≡ head_of (first_of residual.net.arcs lane.first) false
    by_head true near far = near
    by_head false near far = far

pub unused_none : (residual : ResidualNet) (v : ℕ) (lane : Lane) → IsResidualNet residual → InOrder residual.net.arcs residual.flow → IsLaneOf residual v lane → lane.used ≡ false → HasNoNext residual.net.arcs residual.flow (first_of residual.net.arcs lane.first) true
unused_none residual v lane ok order is off j lj ej next = backward_none residual.net.arcs residual.flow (first_of residual.net.arcs lane.first) is.head ok.good.together order (all_rooms residual ok) j (is.known off) lj ej next
