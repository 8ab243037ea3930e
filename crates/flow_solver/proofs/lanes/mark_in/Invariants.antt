use Rattle.flow_solver.specs.Lanes.{IsMarked, IsMarkedIn}
use Rattle.flow_solver.proofs.lanes.mark_in.Given as goal

abbrev pub invariant-loop-q : goal.invariant-loop-q
invariant-loop-q l = IsMarked l.initial.lanes l.lanes × IsMarkedIn l.lanes l.start l.q l.first
