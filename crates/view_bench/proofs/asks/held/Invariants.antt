use Rattle.std.proofs.Common.{All}
use Rattle.plan_base.specs.Held.{IsGoodReservation}
use Rattle.view_bench.proofs.asks.held.Given as goal

abbrev pub invariant-loop-number : goal.invariant-loop-number
invariant-loop-number l = All IsGoodReservation l.held.items
