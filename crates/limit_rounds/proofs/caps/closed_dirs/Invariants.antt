use Rattle.std.proofs.Common.{◌≡◌}
use Rattle.std.specs.Prelude.{take, filter, not}
use Rattle.limit_rounds.specs.Caps.{halves_at}
use Rattle.limit_rounds.proofs.caps.closed_dirs.Given as goal

abbrev pub invariant-loop-i : goal.invariant-loop-i
invariant-loop-i l = l.closed.items ≡ filter (λ d. not (halves_at l.dirs l.size l.coarse d)) (take l.i l.listed)
