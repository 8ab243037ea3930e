use Rattle.std.proofs.Common.{◌≡◌}
use Rattle.std.specs.Prelude.{drop}
use Rattle.path_split.specs.Walk.{CanLower, lowered}
use Rattle.path_split.proofs.walk.take_units.Given as goal

abbrev pub invariant-loop-i : goal.invariant-loop-i
invariant-loop-i l = (lowered l.left l.units (drop l.i-index l.path) ≡ lowered l.initial.left l.units l.path) × CanLower l.left l.units (drop l.i-index l.path)
