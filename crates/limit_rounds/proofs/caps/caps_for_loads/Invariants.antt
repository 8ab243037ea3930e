use Rattle.std.proofs.Common.{◌≡◌, ◌<◌, ℕ, length, cond}
use Rattle.std.specs.Prelude.{take, slice_index_or, None, Some}
use Rattle.round_rules.specs.View.{no_dir}
use Rattle.round_rules.specs.Next.{is_listed}
use Rattle.limit_rounds.specs.Loads.{load_at}
use Rattle.limit_rounds.specs.Caps.{cap_for_load, share_at}
use Rattle.limit_rounds.proofs.caps.caps_for_loads.Given as goal

abbrev pub invariant-loop-i : goal.invariant-loop-i
invariant-loop-i l = record {
  long : length l.all.items ≡ length l.dirs;
  value : (d : ℕ) → d < length l.dirs → slice_index_or l.all.items d None ≡ cond (is_listed (take l.i l.listed) d) (Some (cap_for_load (slice_index_or l.dirs d no_dir) (load_at l.loads d) (share_at l.shares d).units l.unit)) None;
}
