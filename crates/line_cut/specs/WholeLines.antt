-- The lines that end with an LF, and the bytes that contain them.
use Rattle.std.specs.Prelude.{ℕ, Bool, List, [], ◌∷◌, ◌++◌, if◌then◌else◌}
use Rattle.std.specs.List.{list_any}
use Rattle.line_cut.specs.Lines.{line_feed, is_feed}
use Rattle.line_cut.specs.Buffered.{has_feed}

-- one more byte at the start of the first line, if there is one
abbrev pub onto_whole : ℕ → List (List ℕ) → List (List ℕ)
onto_whole byte [] = []
onto_whole byte (line ∷ lines) = (byte ∷ line) ∷ lines

-- the lines that end with an LF, without their LFs
unfoldable pub whole_lines : List ℕ → List (List ℕ)
whole_lines [] = []
whole_lines (byte ∷ bytes) = if is_feed byte then [] ∷ whole_lines bytes else onto_whole byte (whole_lines bytes)

-- the lines one after another, each with its LF
abbrev pub joined : List (List ℕ) → List ℕ
joined [] = []
joined (line ∷ lines) = line ++ line_feed ∷ joined lines

-- whether one of the lines contains an LF
abbrev pub any_has_feed : List (List ℕ) → Bool
any_has_feed lines = list_any has_feed lines
