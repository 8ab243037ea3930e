use Rattle.std.proofs.Common.{◌≡◌}
use Rattle.std.specs.Prelude.{map, take, pos, ◌+ℤ◌}
use Rattle.flow_solver.proofs.node_potentials.widened_row.Given as goal

abbrev pub invariant-loop-number : goal.invariant-loop-number
invariant-loop-number l = l.wide.items ≡ map (λ z. z +ℤ pos l.offset) (take l.number-index l.numbers)
