use Rattle.std.proofs.Common.{sym, ◌∙◌}
use Rattle.askrened.proofs.ServingEnds.{accept_found, accept_later}
use Rattle.askrened.proofs.serve.first_accept.Goals as goal

pub returns-in-Some : goal.returns-in-Some
returns-in-Some c = accept_found c.args.faults.now c.loop-fault.fault-index _ c.loop-fault-test.true c.loop-fault.invariant c.in-Some.worker (sym c.accept_of.ensures ∙ c.in-Some.is)

pub loop-fault-preserved : goal.loop-fault-preserved
loop-fault-preserved c = accept_later c.args.faults.now c.loop-fault.fault-index _ c.loop-fault-test.true c.loop-fault.invariant (sym c.accept_of.ensures ∙ c.in-None.is)
