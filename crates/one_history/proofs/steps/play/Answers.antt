use Rattle.std.proofs.Common.{◌≡◌, length, arith}
use Rattle.one_history.proofs.Runs.{run_none, run_push, all_outcomes, run_answers, as_many, one_taken}
use Rattle.one_history.proofs.steps.play.Goals as goal

pub loop-step-init : goal.loop-step-init
loop-step-init g c = (
  run_none _ _ _ _ _ c.in_ok-outcomes.ensures.items,
  rw c.in_ok-outcomes.ensures.items (omega arith),
  omega (arith, c.in_ok-outcomes.ensures.capacity, c.len.ensures),
  c.into_iter-step-iterator.ensures.into_iter_gives.0,
)

pub loop-step-preserved : goal.loop-step-preserved
loop-step-preserved g c = (
  rw c.push_reserved.ensures.items (run_push _ _ _ _ _ _ _ _ _ _ c.loop-step.invariant.0 c.take_step.ensures),
  as_many _ _ _ _ _ c.push_reserved.ensures.items c.loop-step.invariant.1,
  rw c.push_reserved.ensures.capacity c.loop-step.invariant.2,
  one_taken _ _ _ _ _ c.in-Some.ensures.steps.0 c.loop-step.invariant.3,
)

pub returns-clause-replies : goal.returns-clause-replies
returns-clause-replies g c =
    let none : length c.loop-step.step-iterator.rest.items ≡ 0 = omega (arith, c.loop-step.step-iterator.rest.ok, c.in-None.ensures.steps.0) in
    all_outcomes _ _ _ _ _ _ _ _ _ none c.loop-step.invariant.3 c.journal-history.ensures.waiting c.loop-step.invariant.0

pub returns-clause-once : goal.returns-clause-once
returns-clause-once g c = run_answers _ _ _ _ _ _ _ c.journal-history.ensures.waiting c.loop-step.invariant.0
