use Rattle.std.proofs.Common.{◌≡◌, ◌++◌, [], take, map}
use Rattle.std.specs.List.{concat}
use Rattle.flow_model.specs.declared.instance.Arc.{Arc}
use Rattle.certificate.specs.declared.version.Version.TheVariants.{Two}
use Rattle.certificate.specs.Text as Text
use Rattle.certificate.proofs.print.arc_lines.Given as goal

abbrev pub invariant-loop-i : goal.invariant-loop-i
invariant-loop-i l = l.text.items ≡ l.initial.text.items ++ concat (map (λ (a : Arc). Text.arc_line Two a []) (take l.i (l.arcs)))
