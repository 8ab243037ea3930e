-- The first line of written bytes.
use Rattle.std.proofs.Common.{◌≡◌, ℕ, ◌+◌, ◌-◌, ◌<◌, List, [], ◌∷◌, length, take, drop, arith}
use Rattle.std.specs.List.{position_or_len}
use Rattle.std.proofs.lemmas.List.{take_rest}
use Rattle.line_cut.specs.Lines.{is_feed, lines_of}
use Rattle.line_cut.proofs.LinesLemmas.{lines_of_none, lines_of_first, lines_of_last}

-- an LF comes first at this place
pub line_before_feed : (bytes : List ℕ) (place : ℕ) → position_or_len is_feed bytes ≡ place → place < length bytes
    → lines_of bytes ≡ take place bytes ∷ lines_of (take (length bytes - (place + 1)) (drop (place + 1) bytes))
line_before_feed bytes place is within =
    rw (take_rest) (rw is at (lines_of_first bytes (rw is within)))

-- no LF comes
pub last_line : (bytes : List ℕ) → position_or_len is_feed bytes ≡ length bytes → 0 < length bytes → lines_of bytes ≡ bytes ∷ lines_of []
last_line bytes is some = rw (lines_of_none) (lines_of_last bytes (omega (arith, is)) some)

-- no line is left
pub none_left : (bytes : List ℕ) → length bytes ≡ 0 → lines_of bytes ≡ []
none_left [] is = lines_of_none
none_left (byte ∷ bytes) is = absurd (omega (arith, is))
