-- What a reader of lines has buffered, and how one call changes the bytes that are still to be cut.
use Rattle.std.specs.Prelude.{◌≡◌, ◌<◌, ℕ, Bool, false, List, [], ◌∷◌, ◌++◌, length, ⊤, Some, None, if◌then◌else◌}
use Rattle.std.specs.declared.option.Option.{Option}
use Rattle.std.specs.List.{list_any}
use Rattle.std.specs.Io.KnownBytes.{prepend_known}
use Rattle.line_cut.specs.Lines.{line_feed, is_feed, lines_of}
use Rattle.line_cut.specs.declared.limits.TheConstants.{LINE_MAX}

-- the bytes taken from the source and not yet cut, the last line that was cut, and whether a read has given 0
pub record Buffered : Type 0 where
  pub rest : List ℕ
  pub line : List ℕ
  pub ended : Bool

-- nothing taken and nothing cut
abbrev pub nothing_buffered : Buffered
nothing_buffered = record { rest = []; line = []; ended = false }

-- the bytes that are still to be cut: those buffered, and those that the source has left if it has not ended; unknown if
-- the bytes of the source are
unfoldable pub pending : Buffered → Option (List ℕ) → Option (List ℕ)
pending buffered left = if buffered.ended then Some buffered.rest else prepend_known buffered.rest left

-- a source whose bytes are known keeps them known
abbrev pub StaysKnown : Option (List ℕ) → Option (List ℕ) → Type 0
StaysKnown None after = ⊤
StaysKnown (Some bytes) None = ⊥
StaysKnown (Some bytes) (Some rest) = ⊤

-- whether the bytes contain an LF
abbrev pub has_feed : List ℕ → Bool
has_feed bytes = list_any is_feed bytes

-- the first of these lines is longer than LINE_MAX
abbrev pub BeginsLong : List (List ℕ) → Type 0
BeginsLong [] = ⊥
BeginsLong (line ∷ lines) = LINE_MAX < length line

-- the lines of the bytes before are this line and then the lines of the bytes after
abbrev pub CutsLine : Option (List ℕ) → List ℕ → Option (List ℕ) → Type 0
CutsLine None line after = ⊤
CutsLine (Some bytes) line None = ⊥
CutsLine (Some bytes) line (Some rest) = lines_of bytes ≡ line ∷ lines_of rest

-- the bytes before are this line, its LF and the bytes after
abbrev pub CutsAtFeed : Option (List ℕ) → List ℕ → Option (List ℕ) → Type 0
CutsAtFeed None line after = ⊤
CutsAtFeed (Some bytes) line None = ⊥
CutsAtFeed (Some bytes) line (Some rest) = bytes ≡ line ++ line_feed ∷ rest

-- the first of the lines to be cut is longer than LINE_MAX
abbrev pub IsLongNext : Option (List ℕ) → Type 0
IsLongNext None = ⊤
IsLongNext (Some bytes) = BeginsLong (lines_of bytes)
