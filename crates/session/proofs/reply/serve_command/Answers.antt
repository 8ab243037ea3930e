use Rattle.session.proofs.Replies.{commit_has_reply}
use Rattle.session.proofs.reply.serve_command.Goals as goal

pub returns-clause-gone : goal.returns-clause-gone
returns-clause-gone g c =
    commit_has_reply (g.A.Answerer.answers c.args.answerer.now) (g.H.Caller.who c.args.caller.now) c.args.id c.args.command _ _ _ _ c.now-moment.result c.commit-committed.result c.now-moment.ensures c.commit-committed.ensures.outcome
