use Rattle.std.proofs.Common.{List, sym, ap, subst, ◌∙◌, ◌<◌, length}
use Rattle.flow_model.specs.declared.instance.Arc.{Arc}
use Rattle.flow_model.specs.Instance.{arc_at}
use Rattle.flow_solver.specs.Search.{tail_of, parent_of}
use Rattle.flow_solver.proofs.Walks.{walk_known, walk_turn}
use Rattle.flow_solver.proofs.advance.walk.Goals as goal

pub bounds-arcs-step : goal.bounds-arcs-step
bounds-arcs-step c =
    let h = walk_known c.args.residual.now c.args.parents.now c.args.destination c.loop-node.path.items c.loop-node.node (λ e. c.loop-node-test.true (e ∙ sym c.requires.source)) c.loop-node.invariant in
    subst (λ (xs : List Arc). (parent_of c.args.parents.now c.loop-node.node).0 < length xs) (sym c.arcs-arcs.ensures.value) h.0

pub loop-node-preserved : goal.loop-node-preserved
loop-node-preserved c =
    walk_turn c.args.residual.now c.args.parents.now c.args.destination c.loop-node.path.items _ c.loop-node.node _ c.arcs-arcs.ensures.bounds (λ e. c.loop-node-test.true (e ∙ sym c.requires.source)) c.in_ok-push.ensures.items (c.tail_of-node.ensures ∙ ap (λ (xs : List Arc). tail_of (arc_at xs (parent_of c.args.parents.now c.loop-node.node).0) (parent_of c.args.parents.now c.loop-node.node).1) c.arcs-arcs.ensures.value) c.loop-node.invariant
