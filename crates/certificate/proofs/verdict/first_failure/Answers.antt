use Rattle.std.proofs.Common.{Some, None, ◌∙◌}
use Rattle.certificate.proofs.Verdicts.{order_first}
use Rattle.certificate.proofs.verdict.first_failure.Goals as goal

pub returns-in-Some-clause-verdict : goal.returns-in-Some-clause-verdict
returns-in-Some-clause-verdict c =
    let found = rw c.deref.ensures.value at c.in-Some.ensures.value in
    order_first c.args.cert.now c.cert.inside.problem c.cert.inside.loads.items c.cert.inside.evidence (Some c.in-Some.i) c.cert.view_is c.cert.invariant.1 found

pub returns-clause-verdict : goal.returns-clause-verdict
returns-clause-verdict c =
    let found = rw c.deref.ensures.value at c.in_default.ensures.value in
    c.first_gap.ensures.verdict ∙ order_first c.args.cert.now c.cert.inside.problem c.cert.inside.loads.items c.cert.inside.evidence None c.cert.view_is c.cert.invariant.1 found
