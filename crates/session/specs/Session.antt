-- A session: the lines of one connection are served in order. One relation holds for a caller who is alone and for one
-- among others, and for any relation of what answers a command.
use Rattle.std.specs.Prelude.{◌≡◌, ◌<◌, ◌≤◌, ◌⊎◌, ⊤, ℕ, List, [], ◌∷◌, ◌++◌, length, take, nat_lt, Bool, false, Option, Some, IfSome}
use Rattle.std.specs.List.{list_any, concat}
use Rattle.std.specs.Io.KnownBytes.{Appends, Consumes}
use Rattle.one_history.specs.declared.entry.Entry.{Entry}
use Rattle.line_cut.specs.Lines.{lines_of}
use Rattle.line_cut.specs.WholeLines.{whole_lines}
use Rattle.line_cut.specs.declared.limits.TheConstants.{LINE_MAX}
use Rattle.rpc_lines.specs.Reply.{Content}
use Rattle.rpc_lines.specs.declared.request.Id.TheVariants.{Null}
use Rattle.askrene_command.specs.declared.command.Command.{Command}
use Rattle.plan_answer.specs.Errors.{line_too_long}
use Rattle.port_io.specs.declared.session_end.SessionEnd.{SessionEnd}
use Rattle.port_io.specs.declared.session_end.SessionEnd.TheVariants.{Done, ReadFault, WriteFault, NoMemory, Full, Long}
use Rattle.session.specs.declared.limits.TheConstants.{LINES_MAX}
use Rattle.session.specs.Line.{meaning_of}
use Rattle.session.specs.Caller.{CallerIdentity}
use Rattle.session.specs.Outcome.{SessionState, LineOutcome, reply_to}

-- the streams and the state, before a session and after it, as far as they are known
pub record SessionSpan : Type 0 where
  pub input : Option (List ℕ)
  pub rest : Option (List ℕ)
  pub output : Option (List ℕ)
  pub written : Option (List ℕ)
  pub before : SessionState
  pub after : SessionState

-- one of the lines is too long
abbrev pub any_is_long : List (List ℕ) → Bool
any_is_long lines = list_any (λ line. nat_lt LINE_MAX (length line)) lines

-- the line that ends a session whose next line is too long
unfoldable pub long_line : List ℕ
long_line = reply_to Null line_too_long

-- after these lines the input has one more line
pub record HasNextLine (input : List ℕ) (served : List (List ℕ)) : Type 0 where
  pub next : List ℕ
  pub left : List (List ℕ)
  pub lines : lines_of input ≡ served ++ next ∷ left

-- after these lines the input has one more line, which is too long
pub record HasLongLine (input : List ℕ) (served : List (List ℕ)) : Type 0 where
  pub next : List ℕ
  pub left : List (List ℕ)
  pub lines : lines_of input ≡ served ++ next ∷ left
  pub long : LINE_MAX < length next
  pub few : length served < LINES_MAX

-- these are the lines that an LF ends in the bytes that were taken
pub record AreWholeLines (input : List ℕ) (rest : Option (List ℕ)) (served : List (List ℕ)) : Type 0 where
  pub taken : List ℕ
  pub consumed : Consumes (Some input) rest taken
  pub lines : served ≡ whole_lines taken

-- these are some first lines of the input
pub record AreFirstLines (input : List ℕ) (served : List (List ℕ)) : Type 0 where
  pub left : List (List ℕ)
  pub lines : lines_of input ≡ served ++ left

-- Which lines are served, by the end of the session.
abbrev pub ServedLines : SessionEnd → List ℕ → Option (List ℕ) → List (List ℕ) → Type 0
ServedLines Done input rest served = (served ≡ lines_of input) × Consumes (Some input) rest input
ServedLines ReadFault input rest served = AreWholeLines input rest served
ServedLines WriteFault input rest served = AreFirstLines input served
ServedLines NoMemory input rest served = AreFirstLines input served
ServedLines Full input rest served = HasNextLine input served × (length served ≡ LINES_MAX)
ServedLines Long input rest served = HasLongLine input served

-- all replies are written but the last, of which a proper prefix is written
pub record LastIsCut (replies : List (List ℕ)) (output written : Option (List ℕ)) : Type 0 where
  pub whole : List (List ℕ)
  pub last : List ℕ
  pub count : ℕ
  pub replies_are : replies ≡ whole ++ last ∷ []
  pub proper : count < length last
  pub prefix : Appends output written (concat whole ++ take count last)

-- all replies are written but the last
pub record LastIsMissing (replies : List (List ℕ)) (output written : Option (List ℕ)) : Type 0 where
  pub whole : List (List ℕ)
  pub last : List ℕ
  pub replies_are : replies ≡ whole ++ last ∷ []
  pub prefix : Appends output written (concat whole)

-- all replies are written, and a proper prefix of the line that ends the session
pub record NoticeIsCut (replies : List (List ℕ)) (output written : Option (List ℕ)) : Type 0 where
  pub count : ℕ
  pub proper : count < length long_line
  pub prefix : Appends output written (concat replies ++ take count long_line)

-- How the replies were written, by the end of the session. `long` says that the next line is too long.
abbrev pub WrittenReplies : SessionEnd → Type 0 → List (List ℕ) → Option (List ℕ) → Option (List ℕ) → Type 0
WrittenReplies Done long replies output written = Appends output written (concat replies)
WrittenReplies ReadFault long replies output written = Appends output written (concat replies)
WrittenReplies Full long replies output written = Appends output written (concat replies)
WrittenReplies Long long replies output written = Appends output written (concat replies ++ long_line)
WrittenReplies WriteFault long replies output written = LastIsCut replies output written ⊎ (long × NoticeIsCut replies output written)
WrittenReplies NoMemory long replies output written = Appends output written (concat replies) ⊎ LastIsMissing replies output written

module _ (answers : List (Entry Command) → Entry Command → Content → Type 0) (who : CallerIdentity) where
  -- lines are served in order, each with its reply, which is empty for a blank line
  abbrev pub ServesLines : List (List ℕ) → SessionState → List (List ℕ) → SessionState → Type 0
  ServesLines [] old replies new = (replies ≡ []) × (new ≡ old)
  ServesLines (line ∷ lines) old replies new =
      (text : List ℕ) × (mid : SessionState) × (more : List (List ℕ)) × LineOutcome answers who (meaning_of line) old text mid × ServesLines lines mid more new × (replies ≡ text ∷ more)

  -- what the end of a session says, if the source tells its bytes
  pub record IsSession (end : SessionEnd) (input : List ℕ) (span : SessionSpan) : Type 0 where
    pub served : List (List ℕ)
    pub replies : List (List ℕ)
    pub serves : ServesLines served span.before replies span.after
    pub short : any_is_long served ≡ false
    pub few : length served ≤ LINES_MAX
    pub which : ServedLines end input span.rest served
    pub how : WrittenReplies end (HasLongLine input served) replies span.output span.written

  abbrev pub IsToldSession : SessionEnd → SessionSpan → Type 0
  IsToldSession end span = IfSome span.input (λ input. IsSession end input span)

-- Completeness: an input without a line that is too long, of at most `LINES_MAX` lines.
abbrev pub IsServable : List ℕ → Type 0
IsServable input = (any_is_long (lines_of input) ≡ false) × (length (lines_of input) ≤ LINES_MAX)

-- the end has no cause outside the program: all lines were served, or there was no memory
abbrev pub EndsWell : SessionEnd → Type 0
EndsWell Done = ⊤
EndsWell NoMemory = ⊤
EndsWell ReadFault = ⊥
EndsWell WriteFault = ⊥
EndsWell Full = ⊥
EndsWell Long = ⊥
