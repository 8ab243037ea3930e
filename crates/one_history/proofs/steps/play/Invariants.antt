use Rattle.std.proofs.Common.{◌≡◌, ◌≤◌, ◌++◌, length, vec_capacity}
use Rattle.one_history.specs.CoreRun.{IsCoreRun}
use Rattle.one_history.proofs.steps.play.Given as goal

abbrev pub invariant-loop-step : goal.invariant-loop-step
invariant-loop-step g l = IsCoreRun g.O.Object.next g.O.Object.start g.O.Object.reply l.initial.machine l.yielded l.outcomes.items l.machine
    × (length l.outcomes.items ≡ length l.yielded) × (length l.fn.steps.items ≤ vec_capacity l.outcomes)
    × (l.yielded ++ l.step-iterator.rest.items ≡ l.fn.steps.items)
