use Rattle.std.proofs.Common.{length}
use Rattle.std.specs.Prelude.{take}
use Rattle.certificate.specs.Cert.{Tallies}
use Rattle.certificate.proofs.Tallied.{Near}
use Rattle.certificate.proofs.balance.tally.Given as goal

abbrev pub invariant-loop-i : goal.invariant-loop-i
invariant-loop-i l = record {
  kept : Tallies (length l.initial.balances) l.balances (take l.i l.loads);
  near : Near l.i l.balances;
}
