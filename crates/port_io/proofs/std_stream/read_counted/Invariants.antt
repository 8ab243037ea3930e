use Rattle.std.proofs.Common.{◌≤◌}
use Rattle.std.specs.Io.KnownBytes.{Keeps}
use Rattle.port_io.proofs.std_stream.read_counted.Given as goal

abbrev pub invariant-tries : goal.invariant-tries
invariant-tries g l =
    (l.initial.faults ≤ l.faults)
    × Keeps (g.R.Read.remaining l.initial.inner) (g.R.Read.remaining l.inner)
