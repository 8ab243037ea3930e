use Rattle.std.proofs.Common.{◌≡◌}
use Rattle.workload.specs.Draws.{state_after}
use Rattle.workload.proofs.draws.Draws.skip.Given as goal

abbrev pub invariant-loop-turn : goal.invariant-loop-turn
invariant-loop-turn l = l.self ≡ state_after l._turn l.initial.self
