use Rattle.std.proofs.Common.{arith, Some, None, refl}
use Rattle.certificate.proofs.Verdicts.{verdict_is}
use Rattle.certificate.proofs.verdict.check_flow.Goals as goal

pub returns-in-Some : goal.returns-in-Some
returns-in-Some c = verdict_is c.args.problem.now c.args.loads.now c.args.balances.now c.args.potentials.now c.requires.tallied c.requires.count (Some c.in-Some.i) _ _ c.in-Some.ensures refl refl

pub overflow_add-result-in-Some-first_uneven-2 : goal.overflow_add-result-in-Some-first_uneven-2
overflow_add-result-in-Some-first_uneven-2 c = omega (arith, c.in-Some-first_uneven.ensures.within, c.requires.tallied.long, c.requires.nodes, c.requires.count, c.requires.few)

pub returns-in-Some-first_uneven : goal.returns-in-Some-first_uneven
returns-in-Some-first_uneven c = verdict_is c.args.problem.now c.args.loads.now c.args.balances.now c.args.potentials.now c.requires.tallied c.requires.count None (Some c.in-Some-first_uneven.v) _ c.in_default.ensures c.in-Some-first_uneven.ensures.value refl

pub returns-in-Some-first_missed : goal.returns-in-Some-first_missed
returns-in-Some-first_missed c = verdict_is c.args.problem.now c.args.loads.now c.args.balances.now c.args.potentials.now c.requires.tallied c.requires.count None None (Some c.in-Some-first_missed.i) c.in_default.ensures c.in_default-first_uneven.ensures.value c.in-Some-first_missed.ensures

pub returns : goal.returns
returns c = verdict_is c.args.problem.now c.args.loads.now c.args.balances.now c.args.potentials.now c.requires.tallied c.requires.count None None None c.in_default.ensures c.in_default-first_uneven.ensures.value c.in_default-first_missed.ensures
