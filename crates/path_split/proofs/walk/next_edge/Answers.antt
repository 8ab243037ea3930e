use Rattle.std.proofs.Common.{◌+◌, inl, inr}
use Rattle.path_split.proofs.Turns.{next_within, next_turn}
use Rattle.path_split.proofs.walk.next_edge.Goals as goal
use Rattle.path_split.proofs.walk.next_edge.Goals.{then-edges-i, else-edges-i+then-left-i-eq0}

pub loop-i-init : goal.loop-i-init
loop-i-init c = record { within = next_within c.args.edges.now c.args.left.now c.args.node c.args.start c.requires.long c.requires.some c.requires.first; first = c.requires.first }

pub loop-i-preserved : goal.loop-i-preserved
loop-i-preserved c =
    let t = next_turn c.args.edges.now c.args.left.now c.args.node c.loop-i.i c.loop-i.invariant.first (elim c.if-edges-i.branch [ then-edges-i w ↦ inl w.if-edges-i.true | else-edges-i+then-left-i-eq0 w ↦ inr w.if-left-i-eq0.true ]) in
    record { within = next_within c.args.edges.now c.args.left.now c.args.node (c.loop-i.i + 1) c.requires.long c.requires.some t; first = t }
