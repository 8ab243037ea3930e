use Rattle.path_split.proofs.Gathered.{merge_turn, add_fits}
use Rattle.path_split.proofs.edge.merge_edges.Goals as goal

pub loop-i-preserved : goal.loop-i-preserved
loop-i-preserved c = merge_turn c.args.edges.now c.loop-i.i c.loop-i.merged.items _ c.loop-i-test.true c.requires.sorted c.requires.ends c.requires.small c.loop-i.invariant c.in_ok-add_edge.ensures

pub add_edge-requires : goal.add_edge-requires
add_edge-requires c = add_fits c.args.edges.now c.loop-i.i c.loop-i.merged.items c.loop-i.merged.items c.loop-i-test.true c.requires.sorted c.requires.ends c.requires.small c.loop-i.invariant c.requires.fits
