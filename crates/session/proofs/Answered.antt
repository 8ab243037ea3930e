-- What a caller was told, as the reply to its entry.
use Rattle.std.proofs.Common.{List}
use Rattle.channel_map.specs.declared.edge.Edge.{Edge}
use Rattle.one_history.specs.declared.entry.Told.{Told}
use Rattle.askrene_command.specs.declared.reply.EventReply.{EventReply}
use Rattle.rpc_lines.specs.Reply.{Content}
use Rattle.session.specs.Answers.{Answers, AnswersReply, AnswersTold}

-- an answer to the reply answers whichever entry was told it
pub answers_told : (channels local : List Edge) (told : Told EventReply) (content : Content)
    → AnswersReply channels local told.at told.reply content → AnswersTold (Answers channels local) told content
answers_told channels local told content answers history entry after = rw (← after.at, ← after.reply) answers
