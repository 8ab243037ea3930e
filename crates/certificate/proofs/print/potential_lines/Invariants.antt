use Rattle.std.proofs.Common.{◌≡◌, ◌++◌, take, map}
use Rattle.std.specs.List.{concat}
use Rattle.certificate.specs.Text as Text
use Rattle.certificate.proofs.print.potential_lines.Given as goal

abbrev pub invariant-loop-i : goal.invariant-loop-i
invariant-loop-i l = l.text.items ≡ l.initial.text.items ++ concat (map (Text.potential_line) (take l.i (l.potentials)))
