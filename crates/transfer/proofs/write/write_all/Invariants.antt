use Rattle.std.proofs.Common.{length, ◌≡◌, ◌-◌, ◌≤◌, take}
use Rattle.std.specs.Io.KnownBytes.{Appends}
use Rattle.transfer.proofs.write.write_all.Given as goal

abbrev pub invariant-loop-done : goal.invariant-loop-done
invariant-loop-done g l =
    (l.done ≤ length l.bytes)
    × Appends (g.O.Sink.written l.initial.output) (g.O.Sink.written l.output) (take l.done l.bytes)
    × (g.O.Sink.write_faults l.initial.output ≤ g.O.Sink.write_faults l.output)
    × (g.O.Sink.beside_writing l.output ≡ g.O.Sink.beside_writing l.initial.output)

abbrev pub decreases-loop-done : goal.decreases-loop-done
decreases-loop-done g l = length l.bytes - l.done
