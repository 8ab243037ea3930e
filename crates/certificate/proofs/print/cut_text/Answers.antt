use Rattle.std.proofs.Common.{◌∙◌, ap, ◌++◌, [], map}
use Rattle.std.specs.List.{concat}
use Rattle.flow_model.specs.declared.instance.Arc.{Arc}
use Rattle.certificate.specs.declared.version.Version.TheVariants.{Two}
use Rattle.flow_model.specs.declared.solve.Solved.TheVariants.{Cut}
use Rattle.certificate.specs.Text.{problem_line, head_line, arc_line}
use Rattle.certificate.proofs.Printed.{whole_text}
use Rattle.certificate.proofs.print.cut_text.Goals as goal

pub returns : goal.returns
unfolding problem_line
returns c = whole_text c.args.instance.now (Cut c.args.side.now) c.first_line.new.text.items c.problem.new.text.items c.arc_lines.new.text.items c.side_lines.new.text.items c.last_line.new.text.items (c.in_ok-first_line.ensures ∙ ap (λ t. t ++ head_line Two) c.new-text.ensures.items) c.in_ok-problem.ensures (c.in_ok-arc_lines.ensures ∙ ap (λ a. c.problem.new.text.items ++ concat (map (λ (k : Arc). arc_line Two k []) a)) c.arcs.ensures.value) c.in_ok-side_lines.ensures c.in_ok-last_line.ensures
