use Rattle.std.proofs.Common.{[]}
use Rattle.flow_model.specs.declared.instance.Arc.{Arc}
use Rattle.certificate.specs.declared.version.Version.TheVariants.{Two}
use Rattle.certificate.specs.Text as Text
use Rattle.certificate.proofs.Printed.{one_more}
use Rattle.certificate.proofs.print.arc_lines.Goals as goal

pub loop-i-preserved : goal.loop-i-preserved
loop-i-preserved c = one_more (λ (a : Arc). Text.arc_line Two a []) c.args.arcs.now c.loop-i.i record { from = 0; to = 0; room = 0; cost = 0; dir = 0 } c.args.text.now.items c.loop-i.text.items c.arc_line.new.text.items c.loop-i-test.true c.loop-i.invariant c.in_ok-arc_line.ensures
