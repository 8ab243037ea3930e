use Rattle.std.proofs.Common.{◌≡◌, ◌++◌, replicate}
use Rattle.path_split.proofs.parts.push_copies.Given as goal

abbrev pub invariant-loop : goal.invariant-loop
invariant-loop l = l.parts.items ≡ l.initial.parts.items ++ replicate l.counter (record { path = l.path; units = l.units })
