use Rattle.std.proofs.Common.{◌≡◌, ◌≤◌}
use Rattle.port_io.proofs.unix.UnixAcceptorAcceptor.accept.Given as goal

abbrev pub invariant-tries : goal.invariant-tries
invariant-tries l = (l.initial.self.faults ≤ l.self.faults) × (l.self.accepted ≡ l.initial.self.accepted)
