use Rattle.std.proofs.Common.{◌≡◌, ◌+◌, ◌-◌}
use Rattle.certificate.specs.Reading.{read_lines, prepend_all}
use Rattle.certificate.proofs.reader.lines.Given as goal

abbrev pub invariant-loop-i : goal.invariant-loop-i
invariant-loop-i g l = prepend_all l.items.items (read_lines (g.L.LineForm.reads l.reader) (l.count - l.i) (l.first + l.i) l.rest) ≡ read_lines (g.L.LineForm.reads l.reader) l.count l.first l.fn.text
