use Rattle.std.proofs.Common.{◌≡◌, ◌<◌, ◌-◌, ℕ, length, slice_index_or}
use Rattle.std.specs.Prelude.{drop, None}
use Rattle.round_rules.specs.Instance.{find_cap}
use Rattle.limit_rounds.proofs.caps.entries_of.Given as goal

abbrev pub invariant-loop-i : goal.invariant-loop-i
invariant-loop-i l = record {
  long : length l.all.items ≡ l.count;
  found : (d : ℕ) → d < l.count → slice_index_or l.all.items d None ≡ find_cap (drop (length l.caps - l.i) l.caps) d;
}
