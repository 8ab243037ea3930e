use Rattle.std.proofs.Common.{arith, length, ap, ◌∙◌, subst, sym}
use Rattle.std.proofs.lemmas.List.{length_push}
use lib.ListN.{length-set}
use Rattle.path_split.proofs.Turns.{WalkSoFar, way_none, way_turn, way_shorter}
use Rattle.path_split.proofs.walk.find_path.Goals as goal

pub loop-node-init : goal.loop-node-init
loop-node-init c = subst (WalkSoFar c.args.edges.now c.args.left.now (length c.args.first.now) c.args.source c.args.destination c.args.first.now c.args.source) (sym c.new-path.ensures.items) (way_none _ _ _ _ _ c.requires.first c.requires.source)

pub loop-node-preserved : goal.loop-node-preserved
loop-node-preserved c = way_turn _ _ _ _ _ _ _ c.next_edge-i.result c.loop-node.path.items _ c.requires.long c.requires.ends c.requires.none c.loop-node-test.true c.next_edge-i.ensures.within c.next_edge-i.ensures.from c.next_edge-i.ensures.carries c.next_edge-i.ensures.first c.in_ok-push.ensures.items c.loop-node.invariant

pub loop-node-smaller : goal.loop-node-smaller
loop-node-smaller c =
    let t = way_turn _ _ _ _ _ _ _ c.next_edge-i.result c.loop-node.path.items _ c.requires.long c.requires.ends c.requires.none c.loop-node-test.true c.next_edge-i.ensures.within c.next_edge-i.ensures.from c.next_edge-i.ensures.carries c.next_edge-i.ensures.first c.in_ok-push.ensures.items c.loop-node.invariant in
    let h = way_shorter _ _ _ _ _ _ c.next_edge-i.result c.loop-node.path.items _ c.requires.ends t.way c.in_ok-push.ensures.items in
    let g = ap length c.in_ok-push.ensures.items ∙ length_push c.loop-node.path.items c.next_edge-i.result in
    let s = length-set c.loop-node.first c.loop-node.node c.next_edge-i.result in
    let o = c.loop-node.invariant.long in
    omega (arith, h, g, s, o)
