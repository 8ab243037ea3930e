-- The loop between two lines, if the source tells its bytes, and how it ends.
use Rattle.std.proofs.Common.{◌≡◌, ◌<◌, ◌≤◌, ◌+◌, ◌∙◌, ℕ, List, [], ◌∷◌, ◌++◌, length, take, true, false, Some, None, Option, refl, sym, inl, inr, ◌⊎◌, append_assoc, length-append, arith, subst}
use Rattle.std.specs.Prelude.{IfSome}
use Rattle.std.specs.List.{concat}
use Rattle.std.proofs.lemmas.List.{append-nil}
use Rattle.std.specs.Io.KnownBytes.{Appends, Keeps}
use Rattle.one_history.specs.declared.entry.Entry.{Entry}
use Rattle.line_cut.specs.Lines.{lines_of}
use Rattle.line_cut.specs.Buffered.{Buffered, nothing_buffered, pending, BeginsLong, CutsLine, IsLongNext}
use Rattle.line_cut.specs.WholeLines.{joined, any_has_feed}
use Rattle.line_cut.specs.declared.limits.TheConstants.{LINE_MAX}
use Rattle.line_cut.proofs.LinesLemmas.{lines_of_none}
use Rattle.line_cut.proofs.WholeLines.{whole_joined, joined_after, no_feeds_push}
use Rattle.port_io.proofs.Bytes.{appends_more}
use Rattle.port_io.specs.Faults.{Rose}
use Rattle.port_io.specs.declared.session_end.SessionEnd.{SessionEnd}
use Rattle.port_io.specs.declared.session_end.SessionEnd.TheVariants.{Done, ReadFault, WriteFault, NoMemory, Full, Long}
use Rattle.rpc_lines.specs.Reply.{Content}
use Rattle.askrene_command.specs.declared.command.Command.{Command}
use Rattle.transfer.specs.Transfer.{AppendsPart}
use Rattle.session.specs.declared.limits.TheConstants.{LINES_MAX}
use Rattle.session.specs.Caller.{CallerIdentity}
use Rattle.session.specs.Outcome.{SessionState}
use Rattle.session.specs.Session.{SessionSpan, ServesLines, IsSession, IsToldSession, HasNextLine, HasLongLine, any_is_long, long_line}
use Rattle.session.specs.Loop.{CutsOne, KeepsSource, LoopState, FindsLong, SaysTooLong, EndsAtInput, EndsAtFault, LastOutcome, ServesOne, TurnOutcome}
use Rattle.session.proofs.Cuts.{was_unended}
use Rattle.session.proofs.Walks.{serves_push, short_push, concat_push}

-- a count that rose after a later moment rose after an earlier one
pub rose_later : (a b c : ℕ) → a ≤ b → Rose b c → Rose a c
rose_later a b c later rose = omega (arith, later, rose)

-- what is left after a line is known
record IsCut (bytes line : List ℕ) (after : Option (List ℕ)) : Type 0 where
  pub rest : List ℕ
  pub is : after ≡ Some rest
  pub lines : lines_of bytes ≡ line ∷ lines_of rest

is_cut : (bytes line : List ℕ) (after : Option (List ℕ)) → CutsLine (Some bytes) line after → IsCut bytes line after
is_cut bytes line None cuts = absurd cuts
is_cut bytes line (Some rest) cuts = record { rest = rest; is = refl; lines = cuts }

-- the first of some lines, which is too long
record IsLongFirst (lines : List (List ℕ)) : Type 0 where
  pub line : List ℕ
  pub others : List (List ℕ)
  pub is : lines ≡ line ∷ others
  pub long : LINE_MAX < length line

is_long_first : (lines : List (List ℕ)) → BeginsLong lines → IsLongFirst lines
is_long_first [] long = absurd long
is_long_first (line ∷ others) long = record { line = line; others = others; is = refl; long = long }

long_next : (bytes : List ℕ) (after : Option (List ℕ)) → Keeps (Some bytes) after → IsLongNext after → IsLongFirst (lines_of bytes)
long_next bytes None keeps long = absurd keeps
long_next bytes (Some same) keeps long = is_long_first (lines_of bytes) (rw keeps at long)

-- nothing is written yet
writes_none : (output : Option (List ℕ)) → Appends output output []
writes_none None = tt
writes_none (Some bytes) = sym (append-nil bytes)

-- a reply that is cut after others that are whole
part_after : (output held written : Option (List ℕ)) (whole text : List ℕ) → Appends output held whole → (part : AppendsPart held written text)
    → Appends output written (whole ++ take part.count text)
part_after output held written whole text first part = appends_more output held written whole (take part.count text) first part.written

-- the bytes that a source has left are known, and there are none if it has ended
pub record IsSource (lines : Buffered) (left : Option (List ℕ)) : Type 0 where
  pub bytes : List ℕ
  pub known : left ≡ Some bytes
  pub at_end : lines.ended ≡ true → bytes ≡ []

source_after : (old new : Buffered) (left rest : Option (List ℕ)) → IsSource old left → KeepsSource old left new rest → IsSource new rest
source_after old new None rest source keeps = let wrong : None ≡ Some source.bytes = source.known in cc
source_after old new (Some bytes) None source keeps = absurd keeps.known
source_after old new (Some bytes) (Some more) source keeps =
    record { bytes = more; known = refl; at_end = keeps.at_end (λ ended. let none : source.bytes ≡ [] = source.at_end ended in let same : Some bytes ≡ Some source.bytes = source.known in cc) }

-- the input of a session that ends at a read fault
fault_input : (input held bytes : List ℕ) (served : List (List ℕ)) (lines : Buffered) (left : Option (List ℕ)) → input ≡ joined served ++ held
    → Keeps (Some held) (pending lines left) → lines.ended ≡ false → left ≡ Some bytes → input ≡ (joined served ++ lines.rest) ++ bytes
unfolding pending
fault_input input held bytes served lines left all keeps unended known = kept (rw (unended, known) at keeps)
  where
    kept : lines.rest ++ bytes ≡ held → input ≡ (joined served ++ lines.rest) ++ bytes
    kept same = rw (all, ← same) (sym (append_assoc (joined served) lines.rest bytes))

module _ (answers : List (Entry Command) → Entry Command → Content → Type 0) (who : CallerIdentity) where
  -- some first lines are served and their replies written; unless the source has ended, the bytes that were taken are these
  -- lines, each with its LF, and the bytes that are buffered
  pub record IsGoing (input : List ℕ) (old : SessionState) (output : Option (List ℕ)) (now : LoopState) (count : ℕ) : Type 0 where
    pub served : List (List ℕ)
    pub replies : List (List ℕ)
    pub serves : ServesLines answers who served old replies now.state
    pub short : any_is_long served ≡ false
    pub counted : count ≡ length served
    pub sent : Appends output now.written (concat replies)
    pub left : List ℕ
    pub is_left : pending now.lines now.left ≡ Some left
    pub lines : lines_of input ≡ served ++ lines_of left
    pub unended : now.lines.ended ≡ false → input ≡ joined served ++ left
    pub feeds : any_has_feed served ≡ false
    pub source : IsSource now.lines now.left

  abbrev pub Going : Option (List ℕ) → SessionState → Option (List ℕ) → LoopState → ℕ → Type 0
  Going told old output now count = IfSome told (λ input. IsGoing input old output now count)

  -- at the start nothing is buffered
  pub going_none : (told : Option (List ℕ)) (old : SessionState) (output : Option (List ℕ))
      → Going told old output (record { lines = nothing_buffered; left = told; written = output; state = old }) 0
  unfolding pending
  going_none None old output = tt
  going_none (Some input) old output = record {
    served = [];
    replies = [];
    serves = (refl, refl);
    short = refl;
    counted = refl;
    sent = writes_none output;
    left = input;
    is_left = refl;
    lines = refl;
    unended = λ not_ended. refl;
    feeds = refl;
    source = record { bytes = input; known = refl; at_end = λ ended. cc };
  }

  -- one more line was cut and served
  record OneMore (input : List ℕ) (old : SessionState) (output : Option (List ℕ)) (before now : LoopState) (count : ℕ) (text : List ℕ) (g : IsGoing input old output before count) : Type 0 where
    pub cut : IsCut g.left now.lines.line (pending now.lines now.left)
    pub serves : ServesLines answers who (g.served ++ now.lines.line ∷ []) old (g.replies ++ text ∷ []) now.state
    pub short : any_is_long (g.served ++ now.lines.line ∷ []) ≡ false
    pub counted : count + 1 ≡ length (g.served ++ now.lines.line ∷ [])
    pub lines : lines_of input ≡ (g.served ++ now.lines.line ∷ []) ++ lines_of cut.rest

  one_more : (input : List ℕ) (old : SessionState) (output : Option (List ℕ)) (before now : LoopState) (count : ℕ) (text : List ℕ) (g : IsGoing input old output before count)
      → ServesOne answers who before now text → OneMore input old output before now count text g
  one_more input old output before now count text g one =
      let line = now.lines.line in
      let cut : IsCut g.left line (pending now.lines now.left) = is_cut g.left line (pending now.lines now.left) (rw g.is_left at one.cuts.cuts) in
      record {
        cut = cut;
        serves = serves_push answers who g.served line old before.state now.state g.replies text g.serves one.outcome;
        short = short_push g.served line g.short one.cuts.short;
        counted = rw g.counted (sym (length-append g.served (line ∷ [])));
        lines = rw (g.lines, cut.lines, append_assoc) refl;
      }

  pub going_on : (input : List ℕ) (old : SessionState) (output : Option (List ℕ)) (before now : LoopState) (count : ℕ)
      → IsGoing input old output before count → TurnOutcome answers who None before now → KeepsSource before.lines before.left now.lines now.left
      → IsGoing input old output now (count + 1)
  going_on input old output before now count g (text, one, sent) keeps =
      let line = now.lines.line in
      let more = one_more input old output before now count text g one in
      record {
        served = g.served ++ line ∷ [];
        replies = g.replies ++ text ∷ [];
        serves = more.serves;
        short = more.short;
        counted = more.counted;
        sent = rw (concat_push g.replies text) (appends_more output before.written now.written (concat g.replies) text g.sent sent);
        left = more.cut.rest;
        is_left = more.cut.is;
        lines = more.lines;
        unended = λ not_ended. joined_after input g.served g.left line more.cut.rest (g.unended (was_unended before.lines.ended now.lines.ended one.cuts.later not_ended)) (rw (g.is_left, more.cut.is) at (one.cuts.at_feed not_ended));
        feeds = no_feeds_push g.served line g.feeds one.cuts.whole;
        source = source_after before.lines now.lines before.left now.left g.source keeps;
      }

  -- the session from the start of the loop to a later state
  abbrev pub span_to : Option (List ℕ) → SessionState → Option (List ℕ) → LoopState → SessionSpan
  span_to told old output now =
      record { input = told; rest = now.left; output = output; written = now.written; before = old; after = now.state }

  ends_at_input : (input : List ℕ) (old : SessionState) (output : Option (List ℕ)) (before now : LoopState) (count : ℕ)
      → IsGoing input old output before count → count ≤ LINES_MAX → EndsAtInput before now → IsSource now.lines now.left
      → IsSession answers who Done input (span_to (Some input) old output now)
  ends_at_input input old output before now count g few (none, ended, only) source =
      let all : g.left ≡ [] = rw g.is_left at none in
      record {
        served = g.served;
        replies = g.replies;
        serves = rw only.state g.serves;
        short = g.short;
        few = omega (arith, g.counted, few);
        which = (rw (g.lines, all, lines_of_none, append-nil) refl, rw (source.known, source.at_end ended) (sym (append-nil input)));
        how = rw only.written g.sent;
      }

  ends_at_fault : (input : List ℕ) (old : SessionState) (output : Option (List ℕ)) (before now : LoopState) (count : ℕ)
      → IsGoing input old output before count → count ≤ LINES_MAX → EndsAtFault before now → IsSource now.lines now.left
      → IsSession answers who ReadFault input (span_to (Some input) old output now)
  ends_at_fault input old output before now count g few (fails, only) source =
      let all = fault_input input g.left source.bytes g.served now.lines now.left (g.unended fails.was_unended) (rw g.is_left at fails.keeps) fails.unended source.known in
      record {
        served = g.served;
        replies = g.replies;
        serves = rw only.state g.serves;
        short = g.short;
        few = omega (arith, g.counted, few);
        which = record { taken = joined g.served ++ now.lines.rest; consumed = rw source.known all; lines = sym (whole_joined g.served now.lines.rest g.feeds fails.whole) };
        how = rw only.written g.sent;
      }

  -- the next line is too long
  has_long : (input : List ℕ) (old : SessionState) (output : Option (List ℕ)) (before now : LoopState) (count : ℕ) (g : IsGoing input old output before count)
      → FindsLong before now → count < LINES_MAX → HasLongLine input g.served
  has_long input old output before now count g (keeps, long, same) few =
      let first = long_next g.left (pending now.lines now.left) (rw g.is_left at keeps) long in
      record { next = first.line; left = first.others; lines = rw (g.lines, first.is) refl; long = first.long; few = omega (arith, g.counted, few) }

  -- the replies to all lines before a line that is too long are written
  ends_at_long : (end : SessionEnd) (input : List ℕ) (old : SessionState) (output : Option (List ℕ)) (before now : LoopState) (count : ℕ)
      → IsGoing input old output before count → count < LINES_MAX → FindsLong before now → SaysTooLong end before.written now.written
      → IsSession answers who end input (span_to (Some input) old output now)
  ends_at_long Long input old output before now count g few long said = record {
    served = g.served;
    replies = g.replies;
    serves = rw long.2 g.serves;
    short = g.short;
    few = omega (arith, g.counted, few);
    which = has_long input old output before now count g long few;
    how = appends_more output before.written now.written (concat g.replies) long_line g.sent said;
  }
  ends_at_long WriteFault input old output before now count g few long said = record {
    served = g.served;
    replies = g.replies;
    serves = rw long.2 g.serves;
    short = g.short;
    few = omega (arith, g.counted, few);
    which = record { left = lines_of g.left; lines = g.lines };
    how = inr (has_long input old output before now count g long few, record { count = said.count; proper = said.proper; prefix = part_after output before.written now.written (concat g.replies) long_line g.sent said });
  }
  ends_at_long NoMemory input old output before now count g few long said = record {
    served = g.served;
    replies = g.replies;
    serves = rw long.2 g.serves;
    short = g.short;
    few = omega (arith, g.counted, few);
    which = record { left = lines_of g.left; lines = g.lines };
    how = inl (rw said g.sent);
  }
  ends_at_long Done input old output before now count g few long said = absurd said
  ends_at_long ReadFault input old output before now count g few long said = absurd said
  ends_at_long Full input old output before now count g few long said = absurd said

  -- the reply to the last line is cut
  ends_in_reply : (input : List ℕ) (old : SessionState) (output : Option (List ℕ)) (before now : LoopState) (count : ℕ) (text : List ℕ)
      → IsGoing input old output before count → count < LINES_MAX → ServesOne answers who before now text → AppendsPart before.written now.written text
      → IsSession answers who WriteFault input (span_to (Some input) old output now)
  ends_in_reply input old output before now count text g few one part =
      let more = one_more input old output before now count text g one in
      record {
        served = g.served ++ now.lines.line ∷ [];
        replies = g.replies ++ text ∷ [];
        serves = more.serves;
        short = more.short;
        few = omega (arith, more.counted, few);
        which = record { left = lines_of more.cut.rest; lines = more.lines };
        how = inl (record { whole = g.replies; last = text; count = part.count; replies_are = refl; proper = part.proper; prefix = part_after output before.written now.written (concat g.replies) text g.sent part });
      }

  -- the reply to the last line is missing
  ends_without_reply : (input : List ℕ) (old : SessionState) (output : Option (List ℕ)) (before now : LoopState) (count : ℕ) (text : List ℕ)
      → IsGoing input old output before count → count < LINES_MAX → ServesOne answers who before now text → now.written ≡ before.written
      → IsSession answers who NoMemory input (span_to (Some input) old output now)
  ends_without_reply input old output before now count text g few one same =
      let more = one_more input old output before now count text g one in
      record {
        served = g.served ++ now.lines.line ∷ [];
        replies = g.replies ++ text ∷ [];
        serves = more.serves;
        short = more.short;
        few = omega (arith, more.counted, few);
        which = record { left = lines_of more.cut.rest; lines = more.lines };
        how = inr (record { whole = g.replies; last = text; replies_are = refl; prefix = rw same g.sent });
      }

  -- a turn ends the session
  turn_ends : (end : SessionEnd) (input : List ℕ) (old : SessionState) (output : Option (List ℕ)) (before now : LoopState) (count : ℕ)
      → IsGoing input old output before count → count < LINES_MAX → TurnOutcome answers who (Some end) before now → IsSource now.lines now.left
      → IsSession answers who end input (span_to (Some input) old output now)
  turn_ends Done input old output before now count g few outcome source =
      ends_at_input input old output before now count g (omega (arith, few)) outcome source
  turn_ends ReadFault input old output before now count g few outcome source =
      ends_at_fault input old output before now count g (omega (arith, few)) outcome source
  turn_ends Long input old output before now count g few (long, said) source =
      ends_at_long Long input old output before now count g few long said
  turn_ends WriteFault input old output before now count g few (inl (text, one, part)) source =
      ends_in_reply input old output before now count text g few one part
  turn_ends WriteFault input old output before now count g few (inr (long, said)) source =
      ends_at_long WriteFault input old output before now count g few long said
  turn_ends NoMemory input old output before now count g few (inl (text, one, same)) source =
      ends_without_reply input old output before now count text g few one same
  turn_ends NoMemory input old output before now count g few (inr (long, said)) source =
      ends_at_long NoMemory input old output before now count g few long said
  turn_ends Full input old output before now count g few outcome source = absurd outcome

  -- one line more than the greatest number
  next_line : (input : List ℕ) (old : SessionState) (output : Option (List ℕ)) (before now : LoopState) (count : ℕ) (g : IsGoing input old output before count)
      → CutsOne before.lines before.left now.lines now.left ⊎ FindsLong before now → HasNextLine input g.served
  next_line input old output before now count g (inl one) =
      let cut = is_cut g.left now.lines.line (pending now.lines now.left) (rw g.is_left at one.cuts) in
      record { next = now.lines.line; left = lines_of cut.rest; lines = rw (g.lines, cut.lines) refl }
  next_line input old output before now count g (inr (keeps, long, same)) =
      let first = long_next g.left (pending now.lines now.left) (rw g.is_left at keeps) long in
      record { next = first.line; left = first.others; lines = rw (g.lines, first.is) refl }

  -- the session ends after the greatest number of lines
  last_ends : (end : SessionEnd) (input : List ℕ) (old : SessionState) (output : Option (List ℕ)) (before now : LoopState) (count : ℕ)
      → IsGoing input old output before count → count ≡ LINES_MAX → LastOutcome end before now → IsSource now.lines now.left
      → IsSession answers who end input (span_to (Some input) old output now)
  last_ends Done input old output before now count g all outcome source =
      ends_at_input input old output before now count g (omega (arith, all)) outcome source
  last_ends ReadFault input old output before now count g all outcome source =
      ends_at_fault input old output before now count g (omega (arith, all)) outcome source
  last_ends Full input old output before now count g all (found, only) source = record {
    served = g.served;
    replies = g.replies;
    serves = rw only.state g.serves;
    short = g.short;
    few = omega (arith, g.counted, all);
    which = (next_line input old output before now count g found, sym g.counted ∙ all);
    how = rw only.written g.sent;
  }
  last_ends Long input old output before now count g all outcome source = absurd outcome
  last_ends WriteFault input old output before now count g all outcome source = absurd outcome
  last_ends NoMemory input old output before now count g all outcome source = absurd outcome

  -- the same if the source may not tell its bytes
  pub told_on : (told : Option (List ℕ)) (old : SessionState) (output : Option (List ℕ)) (before now : LoopState) (count : ℕ)
      → Going told old output before count → TurnOutcome answers who None before now → KeepsSource before.lines before.left now.lines now.left
      → Going told old output now (count + 1)
  told_on None old output before now count going outcome keeps = tt
  told_on (Some input) old output before now count going outcome keeps = going_on input old output before now count going outcome keeps

  pub told_ends : (end : SessionEnd) (told : Option (List ℕ)) (old : SessionState) (output : Option (List ℕ)) (before now : LoopState) (count : ℕ)
      → Going told old output before count → count < LINES_MAX → TurnOutcome answers who (Some end) before now → KeepsSource before.lines before.left now.lines now.left
      → IsToldSession answers who end (span_to told old output now)
  told_ends end None old output before now count going few outcome keeps = tt
  told_ends end (Some input) old output before now count going few outcome keeps =
      turn_ends end input old output before now count going few outcome (source_after before.lines now.lines before.left now.left going.source keeps)

  pub told_last : (end : SessionEnd) (told : Option (List ℕ)) (old : SessionState) (output : Option (List ℕ)) (before now : LoopState) (count : ℕ)
      → Going told old output before count → count ≡ LINES_MAX → LastOutcome end before now → KeepsSource before.lines before.left now.lines now.left
      → IsToldSession answers who end (span_to told old output now)
  told_last end None old output before now count going all outcome keeps = tt
  told_last end (Some input) old output before now count going all outcome keeps =
      last_ends end input old output before now count going all outcome (source_after before.lines now.lines before.left now.left going.source keeps)

  -- no memory for the cutter of lines
  pub told_none : (told : Option (List ℕ)) (old : SessionState) (output : Option (List ℕ))
      → IsToldSession answers who NoMemory (record { input = told; rest = told; output = output; written = output; before = old; after = old })
  told_none None old output = tt
  told_none (Some input) old output = record {
    served = [];
    replies = [];
    serves = (refl, refl);
    short = refl;
    few = omega arith;
    which = record { left = lines_of input; lines = refl };
    how = inl (writes_none output);
  }

-- the same for a caller that is who it was
pub told_ends_as : (answers : List (Entry Command) → Entry Command → Content → Type 0) (who later : CallerIdentity) (end : SessionEnd) (told : Option (List ℕ)) (old : SessionState) (output : Option (List ℕ)) (before now : LoopState) (count : ℕ)
    → later ≡ who → Going answers who told old output before count → count < LINES_MAX → TurnOutcome answers later (Some end) before now → KeepsSource before.lines before.left now.lines now.left
    → IsToldSession answers who end (span_to answers who told old output now)
told_ends_as answers who later end told old output before now count same going few outcome keeps =
    told_ends answers who end told old output before now count going few (subst (λ (w : CallerIdentity). TurnOutcome answers w (Some end) before now) same outcome) keeps
