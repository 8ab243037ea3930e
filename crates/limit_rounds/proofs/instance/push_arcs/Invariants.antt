use Rattle.std.proofs.Common.{◌≡◌, ◌++◌}
use Rattle.std.specs.Prelude.{drop}
use Rattle.round_rules.specs.State.{state_of}
use Rattle.round_rules.specs.Instance.{arc_of, arcs_with}
use Rattle.limit_rounds.proofs.instance.push_arcs.Given as goal

abbrev pub invariant-loop-piece : goal.invariant-loop-piece
invariant-loop-piece l = l.arcs.items ++ arcs_with (arc_of l.amount (state_of l.round) l.dir l.from) l.piece (drop l.piece l.rooms) ≡ l.initial.arcs.items ++ arcs_with (arc_of l.amount (state_of l.round) l.dir l.from) 0 l.rooms
