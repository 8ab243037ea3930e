use Rattle.std.proofs.Common.{◌≡◌, ◌<◌, ℕ, length, cond}
use Rattle.std.specs.Prelude.{take, slice_index_or, None, Some}
use Rattle.round_rules.specs.Next.{is_listed}
use Rattle.limit_rounds.proofs.caps.zero_caps.Given as goal

abbrev pub invariant-loop-i : goal.invariant-loop-i
invariant-loop-i l = record {
  long : length l.all.items ≡ l.count;
  value : (d : ℕ) → d < l.count → slice_index_or l.all.items d None ≡ cond (is_listed (take l.i l.listed) d) (Some 0) None;
}
