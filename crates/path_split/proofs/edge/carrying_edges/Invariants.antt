use Rattle.std.specs.Prelude.{take, zip}
use Rattle.path_split.specs.Edges.{AreEdgesOf}
use Rattle.path_split.proofs.edge.carrying_edges.Given as goal

abbrev pub invariant-loop-i : goal.invariant-loop-i
invariant-loop-i l = AreEdgesOf l.arcs (take l.i (zip l.arcs l.flow)) l.edges.items
