-- Commits of a caller among others, by what its desk told.
use Rattle.std.proofs.Common.{◌≡◌, ◌<◌, ℕ, List, ◌∷◌, [], ◌++◌, length, take, sym, ap, ◌∙◌}
use Rattle.std.proofs.Math.Seq.{take-append_seam}
use Rattle.one_history.specs.declared.entry.Entry.{Entry}
use Rattle.one_history.specs.declared.entry.Told.{Told}
use Rattle.one_history.specs.declared.journal.TheConstants.{JOURNAL_MAX}
use Rattle.one_history.specs.History.{fold, entry_of, entries_by}
use Rattle.turn_desk.specs.declared.view.View.{View}
use Rattle.turn_desk.specs.Calls.{Continues, Commits, IsRefused}
use Rattle.turn_desk.proofs.Entries.{others_between}
use Rattle.askrene_state.specs.Step.{no_service, next_of, reply_of}
use Rattle.askrene_command.specs.declared.command.Command.{Command}
use Rattle.askrene_command.specs.declared.reply.EventReply.{EventReply}
use Rattle.session.specs.Answers.{IsToldAfter}
use Rattle.session.specs.Caller.{HasSeenMore, IsCommitted, one_of_many}

-- what the pass is told is the reply after all that it had seen and what came between
told_in_turn : (before after : List (Entry Command)) (entry : Entry Command) (told : Told EventReply)
    → after ≡ before ++ entry ∷ [] → told.at ≡ length before
    → told.reply ≡ reply_of (fold next_of no_service (take told.at after)) entry.caller entry.moment entry.command
    → IsToldAfter before entry told
told_in_turn before after entry told appended at reply =
    let seen : take told.at after ≡ before = rw (at, appended) (take-append_seam before (entry ∷ [])) in
    record { at = at; reply = rw seen at reply }

-- a commit by a pass, by what the desk told
pub committed_in_turn : (moment : ℕ) (asked : Command) (v w : View Command) (told : Told EventReply)
    → Commits v (entry_of v.number moment asked) told.at w → told.at < JOURNAL_MAX
    → told.reply ≡ reply_of (fold next_of no_service (take told.at w.seen)) v.number moment asked
    → IsCommitted (one_of_many v.number) (entry_of v.number moment asked) v.seen told w.seen
committed_in_turn moment asked v w told committed room reply = record {
  between = committed.between;
  allowed = committed.others;
  room = rw committed.at at room;
  appended = committed.seen;
  told_after = told_in_turn (v.seen ++ committed.between) w.seen (entry_of v.number moment asked) told committed.seen committed.at reply;
}

-- a pass that commits nothing has seen nothing but entries of others
pub seen_in_turn : (v w : View Command) → Continues v w → IsRefused v w → HasSeenMore (one_of_many v.number) v.seen w.seen
seen_in_turn v w continues refused =
    let own : entries_by v.number (v.seen ++ continues.seen.0) ≡ v.calls =
    ap (entries_by v.number) continues.seen.1 ∙ (sym (ap (λ (number : ℕ). entries_by number w.seen) continues.number) ∙ (continues.own ∙ refused.calls)) in
    record { between = continues.seen.0; allowed = others_between v.number v.seen continues.seen.0 v.calls continues.own_before own; grown = sym continues.seen.1 }
