use Rattle.session.proofs.Positions.{answered_at}
use Rattle.session.proofs.machine.answer_of.Goals as goal

pub returns-in-Ok-clause-body : goal.returns-in-Ok-clause-body
returns-in-Ok-clause-body g c =
    answered_at (g.A.Answerer.answers c.args.answerer.now) _ _ c.in-Some.told _ c.in-Some.ensures.waits c.in-Some.ensures.reply c.in-Ok.ensures
