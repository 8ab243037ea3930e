use Rattle.std.specs.Prelude.{false}
use Rattle.certificate.specs.Text as Text
use Rattle.certificate.proofs.Printed.{one_more}
use Rattle.certificate.proofs.print.side_lines.Goals as goal

pub loop-i-preserved : goal.loop-i-preserved
loop-i-preserved c = one_more Text.side_line c.args.side.now c.loop-i.i false c.args.text.now.items c.loop-i.text.items c.side_line.new.text.items c.loop-i-test.true c.loop-i.invariant c.in_ok-side_line.ensures
