-- Serves private clauses only. The layout of a window's buffer.
use Rattle.std.specs.Prelude.{◌≡◌, ◌≤◌, ◌+◌, ℕ, List, length, slice_range}
use Rattle.line_cut.specs.FirstLen.{first_len}
use Rattle.line_cut.specs.declared.limits.TheConstants.{LINE_MAX, SIZE}

-- the last line, then at most its LF, then the bytes that are not yet cut; `first` is the length of their first line
pub record IsLaidOut (bytes : List ℕ) (line line_end start end first : ℕ) : Type 0 where
  pub whole : length bytes ≡ SIZE
  pub ordered : line ≤ line_end
  pub short : line_end ≤ line + LINE_MAX
  pub after : line_end ≤ start
  pub near : start ≤ line_end + 1
  pub rest_ordered : start ≤ end
  pub within : end ≤ SIZE
  pub searched : first ≡ first_len (slice_range bytes start end)
