use Rattle.std.proofs.Common.{◌≡◌, All}
use Rattle.desk_bench.proofs.threads.make_passes.Given as goal

abbrev pub invariant-loop : goal.invariant-loop
invariant-loop g l = (l.first.0 ≡ l.desk) × All (λ p. p.0 ≡ l.desk) l.passes.items
