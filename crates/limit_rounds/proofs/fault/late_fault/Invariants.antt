use Rattle.std.proofs.Common.{◌≡◌}
use Rattle.std.specs.Prelude.{drop}
use Rattle.round_rules.specs.Faults.{first_late}
use Rattle.limit_rounds.proofs.fault.late_fault.Given as goal

abbrev pub invariant-loop-i : goal.invariant-loop-i
invariant-loop-i l = first_late l.ask l.i (drop l.i l.routes) ≡ first_late l.ask 0 l.routes
