use Rattle.std.proofs.Common.{◌≡◌, ◌≤◌, ◌-◌, ◌+◌, vec_len}
use Rattle.std.specs.Io.KnownBytes.{Consumes}
use Rattle.port_io.specs.declared.limited_read.TheConstants.{PIECE}
use Rattle.port_io.proofs.limited_read.read_limited.Given as goal

abbrev pub invariant-loop-piece : goal.invariant-loop-piece
invariant-loop-piece g l =
    Consumes (g.I.Source.left l.initial.input) (g.I.Source.left l.input) l.bytes.items
    × (g.I.Source.read_faults l.initial.input ≤ g.I.Source.read_faults l.input)
    × (g.I.Source.beside_reading l.input ≡ g.I.Source.beside_reading l.initial.input)
    × (vec_len l.bytes ≤ l.limit + PIECE)

abbrev pub decreases-loop-piece : goal.decreases-loop-piece
decreases-loop-piece g l = l.limit + 1 - vec_len l.bytes
