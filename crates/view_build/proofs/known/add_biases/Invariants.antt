use Rattle.std.proofs.Common.{◌≡◌, ℕ, ◌+◌, ◌*◌}
use Rattle.plan_base.specs.Dir.{Direction}
use Rattle.view_build.specs.First.{applied}
use Rattle.view_build.specs.Known.{IsWithin, bias_among, known_at, with_bias}
use Rattle.view_build.proofs.known.add_biases.Given as goal

abbrev pub invariant-loop-i : goal.invariant-loop-i
invariant-loop-i l = record {
  known : (dir : Direction) → known_at l.map dir ≡ applied with_bias (known_at l.initial.map dir) (bias_among l.i dir l.layer);
  small : (dir : Direction) (n : ℕ) → IsWithin n (known_at l.initial.map dir).bias → IsWithin (n + l.i * 100) (known_at l.map dir).bias;
}
