use Rattle.std.specs.Prelude.{pos}
use Rattle.certificate.specs.Text as Text
use Rattle.certificate.proofs.Printed.{one_more}
use Rattle.certificate.proofs.print.potential_lines.Goals as goal

pub loop-i-preserved : goal.loop-i-preserved
loop-i-preserved c = one_more Text.potential_line c.args.potentials.now c.loop-i.i (pos 0) c.args.text.now.items c.loop-i.text.items c.potential_line.new.text.items c.loop-i-test.true c.loop-i.invariant c.in_ok-potential_line.ensures
