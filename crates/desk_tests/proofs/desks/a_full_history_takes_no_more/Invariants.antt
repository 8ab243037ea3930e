use Rattle.std.proofs.Common.{◌≡◌}
use Rattle.desk_tests.proofs.desks.a_full_history_takes_no_more.Given as goal

abbrev pub invariant-loop-at : goal.invariant-loop-at
invariant-loop-at g l = l.first.0 ≡ l.initial.first.0
