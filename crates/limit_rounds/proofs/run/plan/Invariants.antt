use Rattle.round_rules.specs.State.{state_of}
use Rattle.limit_rounds.proofs.Passing.{Stands, nearness}
use Rattle.limit_rounds.proofs.run.plan.Given as goal

abbrev pub invariant-loop-tried : goal.invariant-loop-tried
invariant-loop-tried g l = Stands l.view l.ask l.rounds.items l.tried

abbrev pub decreases-loop-tried : goal.decreases-loop-tried
decreases-loop-tried g l = nearness l.view l.ask (state_of l.tried.round)
