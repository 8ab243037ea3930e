-- For private clauses only: what one turn of the loop over the lines does.
use Rattle.std.specs.Prelude.{◌≡◌, ◌≤◌, ◌⊎◌, ℕ, List, length, true, false, Result, Ok, Err, Option, Some, None}
use Rattle.std.specs.Io.KnownBytes.{Appends, Keeps, IsAtEnd}
use Rattle.one_history.specs.declared.entry.Entry.{Entry}
use Rattle.line_cut.specs.Buffered.{Buffered, pending, has_feed, CutsLine, CutsAtFeed, IsLongNext, StaysKnown}
use Rattle.line_cut.specs.declared.cut.Cut.{Cut}
use Rattle.line_cut.specs.declared.cut.Cut.TheVariants.{Line, End, Long as LongCut}
use Rattle.line_cut.specs.declared.cut.ReadFault.{ReadFault as CutFault}
use Rattle.line_cut.specs.declared.limits.TheConstants.{LINE_MAX}
use Rattle.rpc_lines.specs.Reply.{Content}
use Rattle.askrene_command.specs.declared.command.Command.{Command}
use Rattle.port_io.specs.declared.session_end.SessionEnd.{SessionEnd}
use Rattle.port_io.specs.declared.session_end.SessionEnd.TheVariants.{Done, ReadFault, WriteFault, NoMemory, Full, Long}
use Rattle.transfer.specs.Transfer.{AppendsPart}
use Rattle.session.specs.Line.{meaning_of}
use Rattle.session.specs.Caller.{CallerIdentity}
use Rattle.session.specs.Outcome.{SessionState, LineOutcome}
use Rattle.session.specs.Session.{long_line}

-- one more line was cut off the input
pub record CutsOne (old : Buffered) (left : Option (List ℕ)) (new : Buffered) (rest : Option (List ℕ)) : Type 0 where
  pub cuts : CutsLine (pending old left) new.line (pending new rest)
  pub at_feed : new.ended ≡ false → CutsAtFeed (pending old left) new.line (pending new rest)
  pub short : length new.line ≤ LINE_MAX
  pub whole : has_feed new.line ≡ false
  pub later : old.ended ≡ true → new.ended ≡ true

-- no line was cut, since a read failed
pub record CutFails (old : Buffered) (left : Option (List ℕ)) (new : Buffered) (rest : Option (List ℕ)) : Type 0 where
  pub keeps : Keeps (pending old left) (pending new rest)
  pub unended : new.ended ≡ false
  pub was_unended : old.ended ≡ false
  pub whole : has_feed new.rest ≡ false

-- what one cut found
abbrev pub CutFinds : Buffered → Option (List ℕ) → Result Cut CutFault → Buffered → Option (List ℕ) → Type 0
CutFinds old left (Ok Line) new rest = CutsOne old left new rest
CutFinds old left (Ok End) new rest = IsAtEnd (pending old left) × (new.ended ≡ true)
CutFinds old left (Ok LongCut) new rest = Keeps (pending old left) (pending new rest) × IsLongNext (pending new rest)
CutFinds old left (Err _) new rest = CutFails old left new rest

-- a source that has ended has nothing left
abbrev pub KnowsEnd : Buffered → Option (List ℕ) → Type 0
KnowsEnd lines left = lines.ended ≡ true → IsAtEnd left

-- one turn keeps what is known of the source
pub record KeepsSource (old : Buffered) (left : Option (List ℕ)) (new : Buffered) (rest : Option (List ℕ)) : Type 0 where
  pub known : StaysKnown left rest
  pub at_end : KnowsEnd old left → KnowsEnd new rest

-- the loop between two lines
pub record LoopState : Type 0 where
  pub lines : Buffered
  pub left : Option (List ℕ)
  pub written : Option (List ℕ)
  pub state : SessionState

-- nothing but the cutting of lines has gone on
pub record OnlyCuts (old new : LoopState) : Type 0 where
  pub state : new.state ≡ old.state
  pub written : new.written ≡ old.written

-- a line that is too long is next
abbrev pub FindsLong : LoopState → LoopState → Type 0
FindsLong old new =
    Keeps (pending old.lines old.left) (pending new.lines new.left) × IsLongNext (pending new.lines new.left) × (new.state ≡ old.state)

-- the outcome of the line that says so
abbrev pub SaysTooLong : SessionEnd → Option (List ℕ) → Option (List ℕ) → Type 0
SaysTooLong Long before after = Appends before after long_line
SaysTooLong WriteFault before after = AppendsPart before after long_line
SaysTooLong NoMemory before after = after ≡ before
SaysTooLong Done before after = ⊥
SaysTooLong ReadFault before after = ⊥
SaysTooLong Full before after = ⊥

abbrev pub EndsAtInput : LoopState → LoopState → Type 0
EndsAtInput old new = IsAtEnd (pending old.lines old.left) × (new.lines.ended ≡ true) × OnlyCuts old new

abbrev pub EndsAtFault : LoopState → LoopState → Type 0
EndsAtFault old new = CutFails old.lines old.left new.lines new.left × OnlyCuts old new

-- after the greatest number of lines: the end, a fault, or one more line
abbrev pub LastOutcome : SessionEnd → LoopState → LoopState → Type 0
LastOutcome Done old new = EndsAtInput old new
LastOutcome ReadFault old new = EndsAtFault old new
LastOutcome Full old new = (CutsOne old.lines old.left new.lines new.left ⊎ FindsLong old new) × OnlyCuts old new
LastOutcome WriteFault old new = ⊥
LastOutcome NoMemory old new = ⊥
LastOutcome Long old new = ⊥

module _ (answers : List (Entry Command) → Entry Command → Content → Type 0) (who : CallerIdentity) where
  -- a line was cut and served, and this is its reply
  pub record ServesOne (old new : LoopState) (text : List ℕ) : Type 0 where
    pub cuts : CutsOne old.lines old.left new.lines new.left
    pub outcome : LineOutcome answers who (meaning_of new.lines.line) old.state text new.state

  -- the outcome of a turn: the session goes on, or ends
  abbrev pub TurnOutcome : Option SessionEnd → LoopState → LoopState → Type 0
  TurnOutcome None old new = (text : List ℕ) × ServesOne old new text × Appends old.written new.written text
  TurnOutcome (Some Done) old new = EndsAtInput old new
  TurnOutcome (Some ReadFault) old new = EndsAtFault old new
  TurnOutcome (Some Long) old new = FindsLong old new × SaysTooLong Long old.written new.written
  TurnOutcome (Some WriteFault) old new =
      ((text : List ℕ) × ServesOne old new text × AppendsPart old.written new.written text) ⊎ (FindsLong old new × SaysTooLong WriteFault old.written new.written)
  TurnOutcome (Some NoMemory) old new =
      ((text : List ℕ) × ServesOne old new text × (new.written ≡ old.written)) ⊎ (FindsLong old new × SaysTooLong NoMemory old.written new.written)
  TurnOutcome (Some Full) old new = ⊥
