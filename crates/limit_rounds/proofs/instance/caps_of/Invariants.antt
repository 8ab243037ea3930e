use Rattle.std.proofs.Common.{◌≡◌, ◌<◌, ◌-◌, ◌^◌, ℕ, length, slice_index_or}
use Rattle.std.specs.Prelude.{drop}
use Rattle.std.specs.Option.{option_map_or}
use Rattle.round_rules.specs.declared.round.Cap.{Cap}
use Rattle.round_rules.specs.Instance.{find_cap}
use Rattle.limit_rounds.proofs.instance.caps_of.Given as goal

abbrev pub invariant-loop-i : goal.invariant-loop-i
invariant-loop-i l = record {
  long : length l.all.items ≡ l.count;
  caps : (d : ℕ) → d < l.count → slice_index_or l.all.items d 0 ≡ option_map_or (λ (c : Cap). c.cap) (find_cap (drop (length l.caps - l.i) l.caps) d) (2 ^ 64 - 1);
}
