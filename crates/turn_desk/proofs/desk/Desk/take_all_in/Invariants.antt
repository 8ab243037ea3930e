use Rattle.std.proofs.Common.{◌≡◌, ◌++◌}
use Rattle.turn_desk.specs.Absorbing.{absorb}
use Rattle.turn_desk.proofs.desk.Desk.take_all_in.Given as goal

abbrev pub invariant-loop-other : goal.invariant-loop-other
invariant-loop-other g l = record { desk : l.seat.table_id ≡ l.initial.seat.table_id; view : l.seat.me.0 ≡ absorb l.initial.seat.me.0 l.yielded; all : l.yielded ++ l.other-iterator.rest.items ≡ l.fn.passes.items }
