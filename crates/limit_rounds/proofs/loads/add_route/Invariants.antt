use Rattle.limit_rounds.proofs.Carried.{Adds}
use Rattle.std.specs.Prelude.{take, zip}
use Rattle.limit_rounds.proofs.loads.add_route.Given as goal

abbrev pub invariant-loop-i : goal.invariant-loop-i
invariant-loop-i l = Adds l.initial.loads.items l.loads.items (take l.i (zip l.path l.hops))
