use Rattle.std.proofs.Common.{◌≡◌}
use Rattle.std.specs.Prelude.{take}
use Rattle.path_split.specs.Walk.{directions}
use Rattle.path_split.proofs.walk.directions_of.Given as goal

abbrev pub invariant-loop-i : goal.invariant-loop-i
invariant-loop-i l = l.dirs.items ≡ directions l.edges (take l.i-index l.path)
