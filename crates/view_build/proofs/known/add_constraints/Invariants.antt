use Rattle.std.proofs.Common.{◌≡◌, take}
use Rattle.plan_base.specs.Dir.{Direction}
use Rattle.view_build.specs.Known.{known_at, with_constraints}
use Rattle.view_build.proofs.known.add_constraints.Given as goal

abbrev pub invariant-loop-constraint : goal.invariant-loop-constraint
invariant-loop-constraint l = (dir : Direction) → known_at l.map dir ≡ with_constraints dir (known_at l.initial.map dir) (take l.constraint-index l.constraints)
