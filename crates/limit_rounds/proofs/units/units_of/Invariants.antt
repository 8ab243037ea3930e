use Rattle.limit_rounds.proofs.UnitsOn.{Counted}
use Rattle.limit_rounds.proofs.units.units_of.Given as goal

abbrev pub invariant-loop-i : goal.invariant-loop-i
invariant-loop-i l = Counted l.all.items l.count l.parts l.i
