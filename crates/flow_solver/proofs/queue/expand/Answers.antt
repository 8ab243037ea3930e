use Rattle.std.proofs.Common.{◌∷◌, ◌≡◌, arith, subst, heap_items}
use Rattle.std.specs.List.Sorted.{IsPermutation}
use Rattle.flow_solver.specs.Turned.{seen, seen_potentials}
use Rattle.std.specs.Prelude.{slice_index}
use Rattle.flow_solver.specs.Queue.{key_of}
use Rattle.flow_solver.proofs.Turned.{seen_ok, seen_nodes}
use Rattle.flow_solver.proofs.Fitting.{row_is}
use Rattle.flow_solver.proofs.Queues.{queue_opened, queue_stale}
use Rattle.flow_solver.proofs.queue.expand.Goals as goal

pub returns-in_default-node_of-clause-queue : goal.returns-in_default-node_of-clause-queue
returns-in_default-node_of-clause-queue c =
    let t = c.args.turned in
    let n = c.requires.tree.long in
    let none = c.in_default-node_of.ensures.stale in
    queue_stale (seen t c.args.residual.now) (seen_potentials t c.args.potentials.now) (seen_ok t c.args.residual.now c.arcs-arcs.ensures.bounds) c.args.side.now.labels (heap_items c.args.side.now.heap) c.args.meeting.best c.requires.queue c.in-Some.key (heap_items c.pop.new.self) c.in-Some.ensures.permutation
    (λ u l. none u (omega (arith, n, l)))

pub returns-clause-queue : goal.returns-clause-queue
returns-clause-queue c =
    let t = c.args.turned in
    let v = c.in-Some-node_of.node in
    let labels = c.args.side.now.labels in
    let n = c.requires.tree.long in
    let m = seen_nodes t c.args.residual.now in
    let i = c.in-Some-node_of.ensures.inside in
    let after = c.in_ok-found.ensures in
    let key : c.in-Some.key ≡ key_of (slice_index labels v) v = c.in-Some-node_of.ensures.node in
    let moved = subst (λ k. IsPermutation (heap_items c.args.side.now.heap) (k ∷ heap_items c.pop.new.self)) key c.in-Some.ensures.permutation in
    queue_opened (seen t c.args.residual.now) (seen_potentials t c.args.potentials.now) (seen_ok t c.args.residual.now c.arcs-arcs.ensures.bounds) labels (heap_items c.args.side.now.heap) c.args.meeting.best c.requires.queue v (heap_items c.pop.new.self) _ _ c.in_ok-found.found.best after.best (omega (arith, n, i)) moved after.progress after.relaxed

pub open_node-requires-clause-row : goal.open_node-requires-clause-row
open_node-requires-clause-row c =
    let n = c.requires.tree.long in
    let m = seen_nodes c.args.turned c.args.residual.now in
    let i = c.in-Some-node_of.ensures.inside in
    let made = c.in_ok-make_row.ensures in
    row_is c.args.residual.now c.make_row.new.lanes.heads.net c.make_row.new.lanes.starts.items c.make_row.new.lanes.lanes.items c.row_of-row.result.now c.in-Some-node_of.node (omega (arith, n, m, i)) made.made c.row_of-row.ensures made.lanes
