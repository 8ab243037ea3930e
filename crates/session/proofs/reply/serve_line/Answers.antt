use Rattle.std.proofs.Common.{refl}
use Rattle.rpc_lines.specs.declared.request.Id.TheVariants.{Null}
use Rattle.plan_answer.specs.Errors.{out_of_memory}
use Rattle.session.specs.Outcome.{reply_to}
use Rattle.session.proofs.Replies.{unread_replies, starved_replies, wrong_has_reply}
use Rattle.session.proofs.reply.serve_line.Goals as goal

pub returns-in-Unread-clause-gone : goal.returns-in-Unread-clause-gone
returns-in-Unread-clause-gone g c =
    (reply_to Null out_of_memory, unread_replies (g.A.Answerer.answers c.args.answerer.now) (g.H.Caller.who c.args.caller.now) _ _ _ c.in-Unread.ensures refl)

pub returns-in-OutOfMemory-clause-gone : goal.returns-in-OutOfMemory-clause-gone
returns-in-OutOfMemory-clause-gone g c =
    (reply_to c.in-OutOfMemory.id out_of_memory, starved_replies (g.A.Answerer.answers c.args.answerer.now) (g.H.Caller.who c.args.caller.now) c.in-OutOfMemory.id _ _ _ c.in-OutOfMemory.ensures refl)

pub returns-in-Wrong-clause-gone : goal.returns-in-Wrong-clause-gone
returns-in-Wrong-clause-gone g c =
    wrong_has_reply (g.A.Answerer.answers c.args.answerer.now) (g.H.Caller.who c.args.caller.now) c.in-Wrong.id c.in-Wrong.body _ _ c.in-Wrong.ensures
