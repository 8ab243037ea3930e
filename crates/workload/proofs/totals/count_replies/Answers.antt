use Rattle.std.proofs.Common.{◌≡◌, length, eqb-true, sym, ◌∙◌, ap}
use Rattle.workload.specs.Totals as totals
use Rattle.workload.specs.Totals.{totals_of}
use Rattle.workload.proofs.Lines.{none_left}
use Rattle.workload.proofs.totals.count_replies.Goals as goal

pub returns : goal.returns
unfolding totals_of
returns c =
    let none : length c.loop-rest.rest.now ≡ 0 = eqb-true _ _ (sym c.loop-rest-test.ensures) in
    sym (ap (totals.with_lines c.loop-rest.counted) (none_left c.loop-rest.rest.now none)) ∙ c.loop-rest.invariant
