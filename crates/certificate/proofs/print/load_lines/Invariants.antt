use Rattle.std.proofs.Common.{ℕ, ◌≡◌, ◌++◌, ◌∷◌, [], take, map}
use Rattle.std.specs.Prelude.{zip}
use Rattle.std.specs.List.{concat}
use Rattle.flow_model.specs.declared.instance.Arc.{Arc}
use Rattle.certificate.specs.declared.version.Version.TheVariants.{Two}
use Rattle.certificate.specs.Text as Text
use Rattle.certificate.proofs.print.load_lines.Given as goal

abbrev pub invariant-loop-i : goal.invariant-loop-i
invariant-loop-i l = l.text.items ≡ l.initial.text.items ++ concat (map (λ (k : Arc × ℕ). Text.arc_line Two k.0 (k.1 ∷ [])) (take l.i (zip l.arcs l.units)))
