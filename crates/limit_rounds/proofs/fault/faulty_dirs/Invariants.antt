use Rattle.std.proofs.Common.{◌≡◌, ◌++◌, ◌-◌, length}
use Rattle.std.specs.Prelude.{filter}
use Rattle.std.specs.List.{range_with_len}
use Rattle.limit_rounds.specs.Loads.{faulty_at}
use Rattle.limit_rounds.proofs.fault.faulty_dirs.Given as goal

abbrev pub invariant-loop-d : goal.invariant-loop-d
invariant-loop-d l = l.faulty.items ++ filter (faulty_at l.dirs l.loads) (range_with_len l.d (length l.dirs - l.d)) ≡ filter (faulty_at l.dirs l.loads) (range_with_len 0 (length l.dirs))
