use Rattle.std.specs.Prelude.{take}
use Rattle.limit_rounds.proofs.UnitsOn.{Counts}
use Rattle.limit_rounds.proofs.units.add_part.Given as goal

abbrev pub invariant-loop-i : goal.invariant-loop-i
invariant-loop-i l = Counts l.initial.shares.items l.shares.items l.units l.part (take l.i l.path)
