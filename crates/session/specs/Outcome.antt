-- What may become of one line: the history that its caller has seen, the moments of its clock, and the text written.
use Rattle.std.specs.Prelude.{◌≡◌, ◌<◌, ◌⊎◌, ℕ, List, [], ◌∷◌, ◌++◌, length, Option}
use Rattle.one_history.specs.declared.entry.Entry.{Entry}
use Rattle.one_history.specs.declared.journal.TheConstants.{JOURNAL_MAX}
use Rattle.one_history.specs.History.{entry_of}
use Rattle.port_io.specs.Moments.{Ticks}
use Rattle.rpc_lines.specs.Reply.{Content, id_data, reply_line}
use Rattle.rpc_lines.specs.declared.request.Id.{Id}
use Rattle.rpc_lines.specs.declared.request.Id.TheVariants.{Null}
use Rattle.askrene_command.specs.declared.command.Command.{Command}
use Rattle.plan_answer.specs.Errors.{journal_full, out_of_memory, out_of_memory_at}
use Rattle.session.specs.Line.{LineMeaning, blank, wrong, command}
use Rattle.session.specs.Caller.{CallerIdentity, AllowedBetween}

-- the history that the caller has seen, and the moments that its clock has left, if they are known
pub record SessionState : Type 0 where
  pub log : List (Entry Command)
  pub clock : Option (List ℕ)

-- a line of the reply of a content
abbrev pub reply_to : Id → Content → List ℕ
reply_to id content = reply_line (id_data id) content

-- no request was read: nothing has changed, and the id is null
abbrev pub RepliesUnread : SessionState → List ℕ → SessionState → Type 0
RepliesUnread old text new = (new ≡ old) × (text ≡ reply_to Null out_of_memory)

-- a line that is no command gets its error, or the error that there was no memory for it
abbrev pub RepliesToWrong : Id → Content → List ℕ → Type 0
RepliesToWrong id content text = (text ≡ reply_to id content) ⊎ ((text ≡ reply_to id out_of_memory) ⊎ (text ≡ reply_to Null out_of_memory))

module _ (answers : List (Entry Command) → Entry Command → Content → Type 0) (who : CallerIdentity) where
  -- The command is one entry, at the clock's next moment, after all that the caller had seen. Its reply answers it at its
  -- position, or says that there was no memory for the answer.
  pub record EntersAndReplies (id : Id) (asked : Command) (old : SessionState) (text : List ℕ) (new : SessionState) : Type 0 where
    pub between : List (Entry Command)
    pub allowed : AllowedBetween who between
    pub moment : ℕ
    pub ticks : Ticks old.clock moment new.clock
    pub room : length (old.log ++ between) < JOURNAL_MAX
    pub appended : new.log ≡ old.log ++ between ++ entry_of who.number moment asked ∷ []
    pub content : Content
    pub answered : answers (old.log ++ between) (entry_of who.number moment asked) content ⊎ (content ≡ out_of_memory_at (length (old.log ++ between)))
    pub written : text ≡ reply_to id content

  -- the journal is full, for this command and every later one
  pub record RepliesJournalFull (id : Id) (old : SessionState) (text : List ℕ) (new : SessionState) : Type 0 where
    pub between : List (Entry Command)
    pub allowed : AllowedBetween who between
    pub moment : ℕ
    pub ticks : Ticks old.clock moment new.clock
    pub grown : new.log ≡ old.log ++ between
    pub full : length new.log ≡ JOURNAL_MAX
    pub written : text ≡ reply_to id (journal_full JOURNAL_MAX)

  -- out of memory after the request was read and before an entry: the clock may have been asked
  pub record RepliesOutOfMemory (id : Id) (old : SessionState) (text : List ℕ) (new : SessionState) : Type 0 where
    pub between : List (Entry Command)
    pub allowed : AllowedBetween who between
    pub grown : new.log ≡ old.log ++ between
    pub clock : (new.clock ≡ old.clock) ⊎ ((moment : ℕ) × Ticks old.clock moment new.clock)
    pub written : text ≡ reply_to id out_of_memory

  -- what may become of a command
  pub data CommandOutcome (id : Id) (asked : Command) (old : SessionState) (text : List ℕ) (new : SessionState) : Type 0 where
    entered : EntersAndReplies id asked old text new → CommandOutcome id asked old text new
    journal_is_full : RepliesJournalFull id old text new → CommandOutcome id asked old text new
    starved : RepliesOutOfMemory id old text new → CommandOutcome id asked old text new
    unread : RepliesUnread old text new → CommandOutcome id asked old text new

  -- what may become of a line, by its meaning
  abbrev pub LineOutcome : LineMeaning → SessionState → List ℕ → SessionState → Type 0
  LineOutcome blank old text new = (new ≡ old) × (text ≡ [])
  LineOutcome (wrong id content) old text new = (new ≡ old) × RepliesToWrong id content text
  LineOutcome (command id asked) old text new = CommandOutcome id asked old text new
