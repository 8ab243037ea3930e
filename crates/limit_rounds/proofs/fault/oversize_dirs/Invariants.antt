use Rattle.std.proofs.Common.{◌≡◌, ◌++◌, ◌-◌, length}
use Rattle.std.specs.Prelude.{filter}
use Rattle.std.specs.List.{range_with_len}
use Rattle.limit_rounds.specs.Loads.{oversize_at}
use Rattle.limit_rounds.proofs.fault.oversize_dirs.Given as goal

abbrev pub invariant-loop-d : goal.invariant-loop-d
invariant-loop-d l = l.oversize.items ++ filter (oversize_at l.dirs l.loads) (range_with_len l.d (length l.dirs - l.d)) ≡ filter (oversize_at l.dirs l.loads) (range_with_len 0 (length l.dirs))
