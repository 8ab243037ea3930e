use Rattle.std.proofs.Common.{◌≡◌, ◌++◌, take, drop, map}
use Rattle.view_build.specs.Ranked.{with_ranks}
use Rattle.view_build.proofs.numbered.renumbered.Given as goal

abbrev pub invariant-loop-i : goal.invariant-loop-i
invariant-loop-i l = l.dirs.items ≡ map (with_ranks l.ranks) (take l.i l.initial.dirs.items) ++ drop l.i l.initial.dirs.items
