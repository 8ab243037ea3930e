use Rattle.std.proofs.Common.{◌≡◌, ◌≤◌, ◌-◌, All, vec_capacity, vec_len}
use Rattle.server.proofs.unix_bind.UnixBindBind.bind.Given as goal

abbrev pub invariant-loop-listener : goal.invariant-loop-listener
invariant-loop-listener g l = record {
  faults : l.initial.self.faults ≤ l.self.faults;
  room : l.workers ≤ vec_capacity l.given;
  few : vec_len l.given ≤ l.workers;
  fresh : All (λ w. w.acceptor.faults ≡ 0) l.given.items;
}

abbrev pub decreases-loop-listener : goal.decreases-loop-listener
decreases-loop-listener g l = l.workers - vec_len l.given
