use Rattle.std.proofs.Common.{◌≡◌, ◌++◌, ◌-◌, length}
use Rattle.std.specs.List.{filter_map, range_with_len}
use Rattle.limit_rounds.specs.Caps.{entry}
use Rattle.limit_rounds.proofs.caps.raise.Given as goal

abbrev pub invariant-loop-d : goal.invariant-loop-d
invariant-loop-d l = l.out.items ++ filter_map (entry l.caps l.wanted) (range_with_len l.d (length l.wanted - l.d)) ≡ filter_map (entry l.caps l.wanted) (range_with_len 0 (length l.wanted))
