use Rattle.std.proofs.Common.{ℕ, ap, Bool, false, ◌+◌, ◌<◌, ◌≡◌, ◌∙◌, arith, length, refl, subst, subst₂, sym, heap_items}
use Rattle.std.specs.Prelude.{cond, not, slice_index, slice_index_or}
use Rattle.residual_net.specs.Residual.{steps_out}
use Rattle.flow_model.specs.Instance.{arc_at}
use Rattle.flow_solver.specs.Heads.{HasNoNext, IsOnlyNext}
use Rattle.flow_solver.specs.Lanes.{IsRow, first_of, lane_at}
use Rattle.flow_solver.specs.declared.side.Side.{Side}
use Rattle.flow_solver.specs.declared.queue.Meeting.{Meeting}
use Rattle.flow_solver.specs.Search.{IsRelaxedTo, tail_of}
use Rattle.flow_solver.specs.Turned.{seen, seen_potentials}
use Rattle.flow_solver.proofs.Fitting.{lane_enters, lane_first, lane_here, none_as, only_as}
use Rattle.flow_solver.proofs.Seen.{IsOpening, opening_init, opening_end, opening_turn, opening_skip}
use Rattle.flow_solver.proofs.queue.open_node.Goals as goal
use Rattle.flow_solver.proofs.queue.open_node.Goals.{in-Some+in_ok-found, in_default}

pub loop-lane-init : goal.loop-lane-init
loop-lane-init c = (c.requires.row, opening_init c.args.residual.now c.requires.row.heads c.args.potentials.now c.args.turned c.args.side.now.labels (heap_items c.args.side.now.heap) c.args.side.now.parents.items c.args.other.now.labels c.args.meeting.best c.args.meeting.node (steps_out c.requires.row.heads c.args.node) c.args.node c.requires.tree c.requires.meeting)

pub queue_step-requires-clause-tree : goal.queue_step-requires-clause-tree
queue_step-requires-clause-tree c = c.loop-lane.invariant.1.tree

pub queue_step-requires-clause-meeting : goal.queue_step-requires-clause-meeting
queue_step-requires-clause-meeting c = c.loop-lane.invariant.1.meeting

pub next_over-requires-clause-lane : goal.next_over-requires-clause-lane
next_over-requires-clause-lane c =
    let fit = c.loop-lane.invariant.0 in
    let k = c.loop-lane.lane-index in
    let lane = lane_at c.args.row.now k in
    let inside = c.loop-lane-test.true in
    let long = fit.long in
    let known : k < length (steps_out fit.heads c.args.node) = omega (arith, inside, long) in
    lane_here c.args.residual.now fit.heads fit.heads_are c.args.node k known lane (fit.each k inside) (fit.known k inside)

pub loop-lane-preserved : goal.loop-lane-preserved
loop-lane-preserved c =
    let residual = c.args.residual.now in
    let v = c.args.node in
    let fit = c.loop-lane.invariant.0 in
    let k = c.loop-lane.lane-index in
    let lane = lane_at c.args.row.now k in
    let inside = c.loop-lane-test.true in
    let long = fit.long in
    let p = c.args.potentials.now in
    let t = c.args.turned in
    let heads = fit.heads in
    let out = steps_out heads v in
    let known : k < length out = omega (arith, inside, long) in
    let e : ℕ × Bool = slice_index_or out k (0, false) in
    let first = lane_first residual heads fit.heads_are v k known lane (fit.each k inside) in
    let flip : c.flipped.result ≡ cond t (not e.1) e.1 = c.flipped.ensures ∙ ap (λ (b : Bool). cond t (not b) b) (lane_enters residual heads fit.heads_are v k known lane (fit.each k inside)) in
    let ok = c.arcs-arcs.ensures.bounds in
    let old = c.args.side.now in
    let other = c.args.other.now.labels in
    let P : Side → Meeting → Type 0 = λ (s : Side) (m : Meeting). (f : IsRow residual v c.args.row.now) × IsOpening residual f.heads p t old.labels (heap_items old.heap) s.labels s.parents.items (heap_items s.heap) other c.args.meeting.best m.best m.node (steps_out f.heads v) (k + 1) v in
    elim c.match-next_over.branch [
      | in-Some+in_ok-found w ↦
          let after = w.in_ok-found.ensures in
          let new = w.queue_step.new.side in
          let m = w.in_ok-found.found in
          let s = w.in-Some.next in
          let back = w.in-Some.ensures.back ∙ flip in
          let only = only_as residual.net.arcs residual.flow (first_of residual.net.arcs lane.first) (arc_at heads e.0) (cond t (not e.1) e.1) s.arc first (subst (λ b. IsOnlyNext residual.net.arcs residual.flow (first_of residual.net.arcs lane.first) b s.arc) flip w.in-Some.ensures.only) in
          let relaxed = subst (λ b. IsRelaxedTo (seen t residual).net.arcs (seen_potentials t p) new.labels m.best s.arc b) back after.relaxed in
          let tail = subst (λ b. slice_index new.labels (tail_of (arc_at (seen t residual).net.arcs s.arc) b) ≡ slice_index c.loop-lane.side.labels (tail_of (arc_at (seen t residual).net.arcs s.arc) b)) back after.tail in
          subst₂ P (sym w.side-is) (sym w.found-is)
          (fit, opening_turn residual heads ok fit.heads_are p t v out refl old.labels (heap_items old.heap) c.loop-lane.side.labels new.labels c.loop-lane.side.parents.items new.parents.items (heap_items c.loop-lane.side.heap) (heap_items new.heap) other c.args.meeting.best c.loop-lane.found.best m.best c.loop-lane.found.node m.node s.arc k known only after.tree after.meeting after.best after.progress relaxed tail c.loop-lane.invariant.1)
      | in_default w ↦
          let none = none_as residual.net.arcs residual.flow (first_of residual.net.arcs lane.first) (arc_at heads e.0) (cond t (not e.1) e.1) first (subst (HasNoNext residual.net.arcs residual.flow (first_of residual.net.arcs lane.first)) flip w.in_default.ensures.none) in
          subst₂ P (sym w.side-is) (sym w.found-is)
          (fit, opening_skip residual heads ok fit.heads_are p t v out refl old.labels (heap_items old.heap) c.loop-lane.side.labels c.loop-lane.side.parents.items (heap_items c.loop-lane.side.heap) other c.args.meeting.best c.loop-lane.found.best c.loop-lane.found.node k none c.loop-lane.invariant.1)
    ]

pub returns-clause-tree : goal.returns-clause-tree
returns-clause-tree c = c.loop-lane.invariant.1.tree

pub returns-clause-meeting : goal.returns-clause-meeting
returns-clause-meeting c = c.loop-lane.invariant.1.meeting

pub returns-clause-best : goal.returns-clause-best
returns-clause-best c = c.loop-lane.invariant.1.less

pub returns-clause-progress : goal.returns-clause-progress
returns-clause-progress c = c.loop-lane.invariant.1.grows

pub returns-clause-relaxed : goal.returns-clause-relaxed
returns-clause-relaxed c =
    let fit = c.loop-lane.invariant.0 in
    let long = fit.long in
    let past = c.loop-lane-test.false in
    opening_end c.args.residual.now fit.heads c.arcs-arcs.ensures.bounds fit.heads_are c.args.potentials.now c.args.turned c.args.node (steps_out fit.heads c.args.node) refl c.args.side.now.labels (heap_items c.args.side.now.heap) c.loop-lane.side.labels c.loop-lane.side.parents.items (heap_items c.loop-lane.side.heap) c.args.other.now.labels c.args.meeting.best c.loop-lane.found.best c.loop-lane.found.node c.loop-lane.lane-index (omega (arith, past, long)) c.loop-lane.invariant.1
