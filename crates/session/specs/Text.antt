-- For private clauses only: how a line was read, and which texts a reply may have.
use Rattle.std.specs.Prelude.{◌≡◌, ◌⊎◌, ⊤, ℕ, List, Result, Ok, Err}
use Rattle.one_history.specs.declared.entry.Entry.{Entry}
use Rattle.one_history.specs.declared.entry.Told.{Told}
use Rattle.one_history.specs.declared.journal.JournalRefusal.{JournalRefusal}
use Rattle.one_history.specs.declared.journal.JournalRefusal.TheVariants.{Full, NoMemory}
use Rattle.rpc_lines.specs.declared.request.Id.{Id}
use Rattle.rpc_lines.specs.Reply.{Content}
use Rattle.askrene_command.specs.Command.{IsGoodCommand}
use Rattle.askrene_command.specs.declared.command.Command.{Command}
use Rattle.askrene_command.specs.declared.reply.EventReply.{EventReply}
use Rattle.plan_answer.specs.Errors.{journal_full, out_of_memory, out_of_memory_at}
use Rattle.session.specs.Line.{LineMeaning, blank, wrong, command}
use Rattle.session.specs.Outcome.{reply_to}
use Rattle.session.specs.Answers.{AnswersTold}
use Rattle.session.specs.declared.line.LineRead.{LineRead}
use Rattle.session.specs.declared.line.LineRead.TheVariants.{Blank, Wrong, Command as Commanded, OutOfMemory, Unread}

-- out of memory after the request was read: its id is known, and the line is not blank
abbrev pub HasId : Id → LineMeaning → Type 0
HasId id blank = ⊥
HasId id (wrong own content) = id ≡ own
HasId id (command own asked) = id ≡ own

-- the line is not blank
abbrev pub IsNotBlank : LineMeaning → Type 0
IsNotBlank blank = ⊥
IsNotBlank (wrong id content) = ⊤
IsNotBlank (command id asked) = ⊤

-- how a line was read, against its meaning
abbrev pub IsReadAs : LineRead → LineMeaning → Type 0
IsReadAs Blank line = line ≡ blank
IsReadAs (Wrong id body) line = line ≡ wrong id body
IsReadAs (Commanded id asked) line = (line ≡ command id asked) × IsGoodCommand asked
IsReadAs (OutOfMemory id) line = HasId id line
IsReadAs Unread line = IsNotBlank line

-- a body for a line that is no command, or out of memory
abbrev pub IsWrongRead : {E : Type 0} → Id → Result Content E → LineRead → Type 0
IsWrongRead id (Ok body) read = read ≡ Wrong id body
IsWrongRead id (Err _) read = read ≡ OutOfMemory id

-- the reply of a content, or out of memory under the same id
abbrev pub RepliesOrStarves : Id → Content → List ℕ → Type 0
RepliesOrStarves id content text = (text ≡ reply_to id content) ⊎ (text ≡ reply_to id out_of_memory)

-- the reply to a command that did not become an entry
abbrev pub RepliesToRefusal : Id → JournalRefusal → List ℕ → Type 0
RepliesToRefusal id (Full entries) text = RepliesOrStarves id (journal_full entries) text
RepliesToRefusal id NoMemory text = text ≡ reply_to id out_of_memory

module _ (answers : List (Entry Command) → Entry Command → Content → Type 0) where
  -- the reply to an entry
  pub record RepliesToEntry (id : Id) (told : Told EventReply) (text : List ℕ) : Type 0 where
    pub content : Content
    pub answered : AnswersTold answers told content ⊎ (content ≡ out_of_memory_at told.at)
    pub written : text ≡ reply_to id content

  -- the reply to a command, by the result of its commit
  abbrev pub RepliesToCommit : Id → Result (Told EventReply) JournalRefusal → List ℕ → Type 0
  RepliesToCommit id (Ok told) text = RepliesToEntry id told text
  RepliesToCommit id (Err refusal) text = RepliesToRefusal id refusal text
