use Rattle.std.proofs.Common.{◌≡◌, drop}
use Rattle.askrened.specs.Status as words
use Rattle.askrened.proofs.serve.first_accept.Given as goal

abbrev pub invariant-loop-fault : goal.invariant-loop-fault
invariant-loop-fault l = words.first_accept (drop l.fault-index l.faults) ≡ words.first_accept l.faults
