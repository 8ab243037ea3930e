use Rattle.std.proofs.Common.{◌≡◌}
use Rattle.desk_tests.proofs.desks.no_more_passes_than_there_are_numbers.Given as goal

abbrev pub invariant-loop : goal.invariant-loop
invariant-loop g l = l.first.0 ≡ l.initial.first.0
