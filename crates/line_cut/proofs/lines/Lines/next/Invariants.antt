use Rattle.std.proofs.Common.{◌≡◌, ◌≤◌, true, false}
use Rattle.std.specs.Io.KnownBytes.{Keeps, IsAtEnd}
use Rattle.line_cut.specs.Buffered.{pending, StaysKnown}
use Rattle.line_cut.specs.Steps.{wants_more, still_to_read}
use Rattle.line_cut.proofs.lines.Lines.next.Given as goal

abbrev pub invariant-reads : goal.invariant-reads
invariant-reads g l = Keeps (pending l.initial.self (g.S.Source.left l.initial.source)) (pending l.self (g.S.Source.left l.source))
    × (l.self.line ≡ l.initial.self.line)
    × (g.S.Source.read_faults l.initial.source ≤ g.S.Source.read_faults l.source)
    × (g.S.Source.beside_reading l.source ≡ g.S.Source.beside_reading l.initial.source)
    × (wants_more l.initial.self ≡ false → (l.self ≡ l.initial.self) × (l.source ≡ l.initial.source))
    × (l.initial.self.ended ≡ false → l.self.ended ≡ true → IsAtEnd (g.S.Source.left l.source))
    × StaysKnown (g.S.Source.left l.initial.source) (g.S.Source.left l.source)

abbrev pub decreases-reads : goal.decreases-reads
decreases-reads g l = still_to_read l.self
