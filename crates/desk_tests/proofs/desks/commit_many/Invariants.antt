use Rattle.std.proofs.Common.{◌≡◌}
use Rattle.desk_tests.proofs.desks.commit_many.Given as goal

abbrev pub invariant-loop-moment : goal.invariant-loop-moment
invariant-loop-moment g l = l.pass.0 ≡ l.initial.pass.0
