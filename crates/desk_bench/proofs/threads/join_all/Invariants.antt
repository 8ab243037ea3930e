use Rattle.std.proofs.Common.{◌≡◌, All, vec_len}
use Rattle.desk_bench.proofs.threads.join_all.Given as goal

abbrev pub decreases-loop-pass : goal.decreases-loop-pass
decreases-loop-pass l = vec_len l.passes

abbrev pub invariant-loop-pass : goal.invariant-loop-pass
invariant-loop-pass l = (l.first.0 ≡ l.desk) × All (λ p. p.0 ≡ l.desk) l.passes.items
