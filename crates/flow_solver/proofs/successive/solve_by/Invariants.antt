use Rattle.std.proofs.Common.{◌≡◌, ◌≤◌, ◌-◌}
use Rattle.flow_solver.specs.Search.{IsPartialSolution}
use Rattle.flow_solver.proofs.successive.solve_by.Given as goal

abbrev pub invariant-loop-sent : goal.invariant-loop-sent
invariant-loop-sent g l = record {
  partial : IsPartialSolution l.residual (g.A.Augment.shown l.search) l.sent;
  fits : g.A.Augment.fits l.search l.residual;
  net : l.residual.net ≡ l.instance;
  most : l.sent ≤ l.instance.demand;
}

abbrev pub decreases-loop-sent : goal.decreases-loop-sent
decreases-loop-sent g l = l.instance.demand - l.sent
