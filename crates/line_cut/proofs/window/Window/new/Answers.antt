use Rattle.std.proofs.Common.{arith}
use Rattle.line_cut.specs.FirstLen.{first_len}
use Rattle.line_cut.proofs.window.Window.new.Goals as goal

pub invariant_of-result : goal.invariant_of-result
unfolding first_len
invariant_of-result c = record { laid_out = grind (arith, c.in_ok-resize.ensures.len, c.resize.new.self.ok.0) }
