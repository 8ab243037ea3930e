-- The reply to a line, by how it was read and what became of its command.
use Rattle.std.proofs.Common.{◌≡◌, ◌≢◌, Bool, true, false, ℕ, List, [], ◌++◌, length, Result, Ok, Err, Option, refl, sym, inl, inr, ◌⊎◌, ◌∙◌, ap}
use Rattle.std.proofs.lemmas.List.{append-nil}
use Rattle.std.proofs.lemmas.List.Elements.{All-nil}
use Rattle.one_history.specs.declared.entry.Entry.{Entry}
use Rattle.one_history.specs.declared.entry.Told.{Told}
use Rattle.one_history.specs.declared.journal.TheConstants.{JOURNAL_MAX}
use Rattle.one_history.specs.declared.journal.JournalRefusal.{JournalRefusal}
use Rattle.one_history.specs.declared.journal.JournalRefusal.TheVariants.{Full, NoMemory}
use Rattle.one_history.specs.History.{entry_of}
use Rattle.port_io.specs.Moments.{Ticks}
use Rattle.rpc_lines.specs.Reply.{Content}
use Rattle.rpc_lines.specs.declared.request.Id.{Id}
use Rattle.rpc_lines.specs.declared.request.Id.TheVariants.{Null}
use Rattle.askrene_command.specs.declared.command.Command.{Command}
use Rattle.askrene_command.specs.declared.reply.EventReply.{EventReply}
use Rattle.plan_answer.specs.Errors.{journal_full, out_of_memory, out_of_memory_at}
use Rattle.session.specs.Line.{LineMeaning, blank, wrong, command}
use Rattle.session.specs.Answers.{AnswersTold}
use Rattle.session.specs.Caller.{CallerIdentity, HasSeenMore, CommitOutcome, MayBeBetween}
use Rattle.session.specs.Outcome.{SessionState, CommandOutcome, LineOutcome, entered, journal_is_full, starved, unread, reply_to}
use Rattle.session.specs.Text.{HasId, IsNotBlank, RepliesOrStarves, RepliesToCommit}

-- nothing comes between
none_between : (alone : Bool) (number : ℕ) → MayBeBetween alone number []
none_between true number = refl
none_between false number = All-nil (λ e. e.caller ≢ number)

module _ (answers : List (Entry Command) → Entry Command → Content → Type 0) (who : CallerIdentity) where
  -- out of memory after the clock was asked
  starves : (id : Id) (asked : Command) (log new : List (Entry Command)) (clock ticked : Option (List ℕ)) (moment : ℕ) (text : List ℕ)
      → Ticks clock moment ticked → HasSeenMore who log new → text ≡ reply_to id out_of_memory
      → CommandOutcome answers who id asked (record { log = log; clock = clock }) text (record { log = new; clock = ticked })
  starves id asked log new clock ticked moment text ticks more says =
      starved (record { between = more.between; allowed = more.allowed; grown = more.grown; clock = inr (moment, ticks); written = says })

  full : (id : Id) (asked : Command) (log new : List (Entry Command)) (clock ticked : Option (List ℕ)) (moment entries : ℕ) (text : List ℕ)
      → Ticks clock moment ticked → HasSeenMore who log new → length new ≡ JOURNAL_MAX → entries ≡ JOURNAL_MAX → RepliesOrStarves id (journal_full entries) text
      → CommandOutcome answers who id asked (record { log = log; clock = clock }) text (record { log = new; clock = ticked })
  full id asked log new clock ticked moment entries text ticks more is all (inl says) =
      journal_is_full (record { between = more.between; allowed = more.allowed; moment = moment; ticks = ticks; grown = more.grown; full = is; written = says ∙ ap (λ n. reply_to id (journal_full n)) all })
  full id asked log new clock ticked moment entries text ticks more is all (inr says) =
      starves id asked log new clock ticked moment text ticks more says

  -- a command was committed, or refused, and this is its reply
  pub replies_to_commit : (id : Id) (asked : Command) (log new : List (Entry Command)) (clock ticked : Option (List ℕ)) (moment : ℕ) (result : Result (Told EventReply) JournalRefusal) (text : List ℕ)
      → Ticks clock moment ticked → CommitOutcome who (entry_of who.number moment asked) log result new → RepliesToCommit answers id result text
      → CommandOutcome answers who id asked (record { log = log; clock = clock }) text (record { log = new; clock = ticked })
  replies_to_commit id asked log new clock ticked moment (Ok told) text ticks done says = entered (record {
    between = done.between;
    allowed = done.allowed;
    moment = moment;
    ticks = ticks;
    room = done.room;
    appended = done.appended;
    content = says.content;
    answered = answered says.answered;
    written = says.written;
  })
    where
      answered : AnswersTold answers told says.content ⊎ (says.content ≡ out_of_memory_at told.at)
          → answers (log ++ done.between) (entry_of who.number moment asked) says.content ⊎ (says.content ≡ out_of_memory_at (length (log ++ done.between)))
      answered (inl all) = inl (all (log ++ done.between) (entry_of who.number moment asked) done.told_after)
      answered (inr none) = inr (none ∙ ap out_of_memory_at done.told_after.at)
  replies_to_commit id asked log new clock ticked moment (Err (Full entries)) text ticks done says =
      full id asked log new clock ticked moment entries text ticks done.0 done.1 done.2 says
  replies_to_commit id asked log new clock ticked moment (Err NoMemory) text ticks done says =
      starves id asked log new clock ticked moment text ticks done says

  -- some reply to a commit exists
  some_reply : (id : Id) (result : Result (Told EventReply) JournalRefusal) → (text : List ℕ) × RepliesToCommit answers id result text
  some_reply id (Ok told) =
      (reply_to id (out_of_memory_at told.at), record { content = out_of_memory_at told.at; answered = inr refl; written = refl })
  some_reply id (Err (Full entries)) = (reply_to id out_of_memory, inr refl)
  some_reply id (Err NoMemory) = (reply_to id out_of_memory, refl)

  pub commit_has_reply : (id : Id) (asked : Command) (log new : List (Entry Command)) (clock ticked : Option (List ℕ)) (moment : ℕ) (result : Result (Told EventReply) JournalRefusal)
      → Ticks clock moment ticked → CommitOutcome who (entry_of who.number moment asked) log result new
      → (text : List ℕ) × CommandOutcome answers who id asked (record { log = log; clock = clock }) text (record { log = new; clock = ticked })
  commit_has_reply id asked log new clock ticked moment result ticks done =
      let some = some_reply id result in
      (some.0, replies_to_commit id asked log new clock ticked moment result some.0 ticks done some.1)

  -- no request was read
  pub unread_replies : (line : LineMeaning) (state : SessionState) (text : List ℕ) → IsNotBlank line → text ≡ reply_to Null out_of_memory → LineOutcome answers who line state text state
  unread_replies blank state text something says = absurd something
  unread_replies (wrong id content) state text something says = (refl, inr (inr says))
  unread_replies (command id asked) state text something says = unread (refl, says)

  -- out of memory after the request was read
  pub starved_replies : (id : Id) (line : LineMeaning) (state : SessionState) (text : List ℕ) → HasId id line → text ≡ reply_to id out_of_memory → LineOutcome answers who line state text state
  starved_replies id blank state text same says = absurd same
  starved_replies id (wrong own content) state text same says = (refl, inr (inl (rw same at says)))
  starved_replies id (command own asked) state text same says = starved (record { between = []; allowed = none_between who.is_alone who.number; grown = sym (append-nil state.log); clock = inl refl; written = rw same at says })

  -- a line that is no command has a reply
  pub wrong_has_reply : (id : Id) (content : Content) (line : LineMeaning) (state : SessionState) → line ≡ wrong id content → (text : List ℕ) × LineOutcome answers who line state text state
  wrong_has_reply id content line state is = rw is (reply_to id content, (refl, inl refl))
