use Rattle.std.proofs.Common.{◌≡◌}
use Rattle.std.specs.Prelude.{sum_by, take}
use Rattle.flow_model.specs.Side.{crossing}
use Rattle.flow_model.proofs.side.leaving_room.Given as goal

abbrev pub invariant-loop-i : goal.invariant-loop-i
invariant-loop-i g l = l.room ≡ sum_by (λ a. crossing l.side (g.A.AsArc.arc a)) (take l.i l.arcs)
