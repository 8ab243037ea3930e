-- What a command may be answered at its position in the history.
use Rattle.std.specs.Prelude.{◌≡◌, ℕ, Some, List, length, take, slice_get, IfSome}
use Rattle.channel_map.specs.declared.edge.Edge.{Edge}
use Rattle.one_history.specs.declared.entry.Entry.{Entry}
use Rattle.one_history.specs.declared.entry.Told.{Told}
use Rattle.one_history.specs.History.{fold}
use Rattle.askrene_state.specs.Step.{no_service, next_of, reply_of}
use Rattle.askrene_command.specs.declared.command.Command.{Command}
use Rattle.askrene_command.specs.declared.reply.EventReply.{EventReply}
use Rattle.askrene_command.specs.declared.reply.EventReply.TheVariants.{Routes}
use Rattle.rpc_lines.specs.Reply.{Content}
use Rattle.plan_answer.specs.EventReply.{event_content}
use Rattle.plan_answer.specs.RoutesReply.{AnswersAsk}

-- what the state replies to an entry after a history
abbrev pub reply_after : List (Entry Command) → Entry Command → EventReply
reply_after history entry = reply_of (fold next_of no_service history) entry.caller entry.moment entry.command

-- A content answers what the state replied at a position. Routes are computed from the snapshot in the reply, the channels
-- of the map and those of the local file; every other reply is printed.
abbrev pub AnswersReply : List Edge → List Edge → ℕ → EventReply → Content → Type 0
AnswersReply channels local at (Routes snapshot) content = AnswersAsk channels local snapshot at content
AnswersReply channels local at reply content = Some content ≡ event_content at reply

-- A content answers an entry after a history. A relation: an ask may have several right answers.
abbrev pub Answers : List Edge → List Edge → List (Entry Command) → Entry Command → Content → Type 0
Answers channels local history entry content = AnswersReply channels local (length history) (reply_after history entry) content

-- the caller of an entry after a history was told this
pub record IsToldAfter (history : List (Entry Command)) (entry : Entry Command) (told : Told EventReply) : Type 0 where
  pub at : told.at ≡ length history
  pub reply : told.reply ≡ reply_after history entry

-- a content answers whichever entry was told this
abbrev pub AnswersTold : (List (Entry Command) → Entry Command → Content → Type 0) → Told EventReply → Content → Type 0
AnswersTold answers told content =
    (history : List (Entry Command)) (entry : Entry Command) → IsToldAfter history entry told → answers history entry content

-- a content answers the entry at a position of a history
abbrev pub AnswersAt : (List (Entry Command) → Entry Command → Content → Type 0) → List (Entry Command) → ℕ → Content → Type 0
AnswersAt answers history at content = IfSome (slice_get history at) (λ entry. answers (take at history) entry content)
