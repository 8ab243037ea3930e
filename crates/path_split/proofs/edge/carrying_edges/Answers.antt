use Rattle.std.proofs.Common.{◌+◌, ◌∙◌, arith, subst, sym, ap}
use Rattle.std.specs.Prelude.{take, zip}
use Rattle.std.proofs.lemmas.List.{take_all}
use Rattle.std.proofs.lemmas.Slice.Zip.{length-zip}
use Rattle.flow_model.specs.Instance.{no_arc}
use Rattle.path_split.specs.Edges.{AreEdgesOf}
use Rattle.path_split.proofs.Gathered.{gathers_skip, gathers_push}
use Rattle.path_split.proofs.edge.carrying_edges.Goals as goal
use Rattle.path_split.proofs.edge.carrying_edges.Goals.{then-units-gt0+in_ok-push, else-units-gt0}

pub loop-i-preserved : goal.loop-i-preserved
loop-i-preserved c = elim c.if-units-gt0.branch [ then-units-gt0+in_ok-push w ↦ gathers_push c.args.arcs.now c.args.flow.now c.loop-i.i c.loop-i.edges.items no_arc c.requires c.loop-i-test.true c.loop-i.invariant w.edge_of.result c.if-units-gt0.edges.items w.edge_of.ensures.value (ap (λ v. v.items) w.edges-is ∙ w.in_ok-push.ensures.items) w.if-units-gt0.true w.edge_of.ensures.small | else-units-gt0 w ↦ subst (λ v. AreEdgesOf c.args.arcs.now (take (c.loop-i.i + 1) (zip c.args.arcs.now c.args.flow.now)) v.items) (sym w.edges-is) (gathers_skip c.args.arcs.now c.args.flow.now c.loop-i.i c.loop-i.edges.items no_arc c.requires c.loop-i-test.true c.loop-i.invariant (let h = w.if-units-gt0.false in omega (arith, h))) ]

pub returns : goal.returns
returns c =
    let all = take_all c.loop-i.i (zip c.args.arcs.now c.args.flow.now) (omega (arith, length-zip c.args.arcs.now c.args.flow.now, c.loop-i-test.false, c.requires)) in
    subst (λ ls. AreEdgesOf c.args.arcs.now ls c.loop-i.edges.items) all c.loop-i.invariant
