use Rattle.std.proofs.Common.{ℕ, ◌<◌, ◌≡◌, false, get_or}
use Rattle.certificate.specs.Check.{is_missed}
use Rattle.certificate.proofs.verdict.first_missed.Given as goal

abbrev pub invariant-loop-i : goal.invariant-loop-i
invariant-loop-i l = (k : ℕ) → k < l.i → is_missed l.potentials (get_or l.loads k (record { from = 0; to = 0; room = 0; cost = 0; dir = 0 }, 0)) ≡ false
