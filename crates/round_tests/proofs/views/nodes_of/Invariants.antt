use Rattle.std.proofs.Common.{◌≡◌, length}
use Rattle.round_tests.proofs.views.nodes_of.Given as goal

abbrev pub invariant-loop : goal.invariant-loop
invariant-loop l = length l.nodes.items ≡ l.counter
