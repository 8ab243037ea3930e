-- The answer to the entry at a position of a history.
use Rattle.std.proofs.Common.{◌≡◌, ◌<◌, ℕ, List, length, take, slice_get, Option, Some, None, refl, sym, arith}
use Rattle.std.proofs.lemmas.List.{length-take-le}
use Rattle.std.proofs.lemmas.Option.{slice_get_within}
use Rattle.std.specs.Prelude.{IfSome, IsSomeAnd}
use Rattle.one_history.specs.declared.entry.Entry.{Entry}
use Rattle.one_history.specs.declared.entry.Told.{Told}
use Rattle.one_history.specs.History.{reply_at}
use Rattle.askrene_state.specs.Step.{no_service, next_of, reply_of}
use Rattle.askrene_command.specs.declared.command.Command.{Command}
use Rattle.askrene_command.specs.declared.reply.EventReply.{EventReply}
use Rattle.rpc_lines.specs.Reply.{Content}
use Rattle.session.specs.Answers.{AnswersTold, AnswersAt, reply_after}

entry_answered : (answers : List (Entry Command) → Entry Command → Content → Type 0) (history : List (Entry Command)) (told : Told EventReply) (content : Content) (found : Option (Entry Command)) → slice_get history told.at ≡ found
    → reply_at next_of no_service reply_of history told.at ≡ Some told.reply → AnswersTold answers told content
    → IfSome found (λ entry. answers (take told.at history) entry content)
unfolding reply_at
entry_answered answers history told content None is reply all = tt
entry_answered answers history told content (Some entry) is reply all =
    let within : told.at < length history = slice_get_within history told.at entry is in
    let replied : Some (reply_after (take told.at history) entry) ≡ Some told.reply = rw is at reply in
    let same : told.reply ≡ reply_after (take told.at history) entry = cc in
    all (take told.at history) entry (record { at = sym (length-take-le told.at history (omega (arith, within))); reply = same })

pub answered_at : (answers : List (Entry Command) → Entry Command → Content → Type 0) (place : Option ℕ) (history : List (Entry Command)) (told : Told EventReply) (content : Content) → place ≡ Some told.at
    → reply_at next_of no_service reply_of history told.at ≡ Some told.reply → AnswersTold answers told content
    → IsSomeAnd place (λ at. AnswersAt answers history at content)
answered_at answers place history told content is reply all = rw is (entry_answered answers history told content (slice_get history told.at) refl reply all)
