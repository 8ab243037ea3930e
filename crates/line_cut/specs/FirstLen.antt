-- Serves private clauses only. The length of the first line.
use Rattle.std.specs.Prelude.{ℕ, List}
use Rattle.std.specs.List.{position_or_len}
use Rattle.line_cut.specs.Lines.{is_feed}

-- the number of bytes before the first LF, or of all bytes if there is no LF
unfoldable pub first_len : List ℕ → ℕ
first_len bytes = position_or_len is_feed bytes
