use Rattle.std.proofs.Common.{ℕ, ◌<◌, ◌≡◌, false}
use Rattle.certificate.specs.Check.{is_uneven_at}
use Rattle.certificate.proofs.verdict.first_uneven.Given as goal

abbrev pub invariant-loop-v : goal.invariant-loop-v
invariant-loop-v l = (k : ℕ) → k < l.v → is_uneven_at l.problem.source l.problem.destination l.problem.demand l.balances k ≡ false
