-- The lines of bytes: each ends with an LF, and bytes after the last LF are also a line.
use Rattle.std.specs.Prelude.{ℕ, ◌==◌, Bool, List, [], ◌∷◌, if◌then◌else◌}

-- the byte LF, which ends a line
abbrev pub line_feed : ℕ
line_feed = 10

-- whether a byte is LF
abbrev pub is_feed : ℕ → Bool
is_feed byte = byte == line_feed

-- one more byte at the start of the first line
abbrev pub onto_first : ℕ → List (List ℕ) → List (List ℕ)
onto_first byte [] = (byte ∷ []) ∷ []
onto_first byte (line ∷ lines) = (byte ∷ line) ∷ lines

-- the lines, without their LFs
unfoldable pub lines_of : List ℕ → List (List ℕ)
lines_of [] = []
lines_of (byte ∷ bytes) = if is_feed byte then [] ∷ lines_of bytes else onto_first byte (lines_of bytes)
