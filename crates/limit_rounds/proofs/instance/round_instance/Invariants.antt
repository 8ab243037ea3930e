use Rattle.std.proofs.Common.{◌≡◌, ◌++◌}
use Rattle.std.specs.Prelude.{drop}
use Rattle.round_rules.specs.State.{state_of}
use Rattle.round_rules.specs.Instance.{arcs_from}
use Rattle.limit_rounds.proofs.instance.round_instance.Given as goal

abbrev pub invariant-loop-i : goal.invariant-loop-i
invariant-loop-i l = l.arcs.items ++ arcs_from l.ask.amount (state_of l.round) l.i (drop l.i l.dirs) ≡ arcs_from l.ask.amount (state_of l.round) 0 l.dirs
