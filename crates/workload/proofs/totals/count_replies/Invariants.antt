use Rattle.std.proofs.Common.{◌≡◌, length}
use Rattle.line_cut.specs.Lines.{lines_of}
use Rattle.workload.specs.Totals as totals
use Rattle.workload.proofs.totals.count_replies.Given as goal

abbrev pub invariant-loop-rest : goal.invariant-loop-rest
invariant-loop-rest l = totals.with_lines l.counted (lines_of l.rest) ≡ totals.with_lines totals.no_totals (lines_of l.written)

abbrev pub decreases-loop-rest : goal.decreases-loop-rest
decreases-loop-rest l = length l.rest
