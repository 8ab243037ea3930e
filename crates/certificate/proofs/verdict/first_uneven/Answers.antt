use Rattle.std.proofs.Common.{sym}
use Rattle.certificate.specs.Check.{is_uneven_at}
use Rattle.certificate.proofs.Found.{below_found}
use Rattle.certificate.proofs.verdict.first_uneven.Goals as goal

pub returns-then-is_uneven-clause-value : goal.returns-then-is_uneven-clause-value
returns-then-is_uneven-clause-value c = below_found (is_uneven_at c.args.problem.now.source c.args.problem.now.destination c.args.problem.now.demand c.args.balances.now) _ c.loop-v.v c.loop-v-test.true c.loop-v.invariant (sym c.if-is_uneven.ensures)
