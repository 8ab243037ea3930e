use Rattle.std.proofs.Common.{◌≡◌, ◌++◌, ◌-◌}
use Rattle.workload.specs.Request.{lines_from}
use Rattle.workload.proofs.ask.ask_lines.Given as goal

abbrev pub invariant-loop-id : goal.invariant-loop-id
invariant-loop-id l = l.text.items ++ lines_from l.nodes (l.asks - l.id) l.id l.draws ≡ lines_from l.nodes l.asks 0 l.initial.draws
