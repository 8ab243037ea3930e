-- The lines of bytes, from the first one.
use Rattle.std.proofs.Common.{◌≡◌, ℕ, ◌+◌, ◌<◌, ◌≤◌, List, [], ◌∷◌, length, take, drop, Bool, true, false, refl, arith, suc}
use Rattle.std.specs.List.{position_or_len}
use Rattle.line_cut.specs.Lines.{is_feed, onto_first, lines_of}

-- the three equations of the definition
pub lines_of_none : lines_of [] ≡ []
unfolding lines_of
lines_of_none = refl

pub lines_of_feed : (byte : ℕ) (bytes : List ℕ) → is_feed byte ≡ true → lines_of (byte ∷ bytes) ≡ [] ∷ lines_of bytes
unfolding lines_of
lines_of_feed byte bytes feed = rw feed refl

pub lines_of_other : (byte : ℕ) (bytes : List ℕ) → is_feed byte ≡ false → lines_of (byte ∷ bytes) ≡ onto_first byte (lines_of bytes)
unfolding lines_of
lines_of_other byte bytes other = rw other refl

-- one more byte before a line
lines_of_next : (byte : ℕ) (bytes : List ℕ) (feed : Bool) → is_feed byte ≡ feed
    → (position_or_len is_feed bytes < length bytes
    → lines_of bytes ≡ take (position_or_len is_feed bytes) bytes ∷ lines_of (drop (position_or_len is_feed bytes + 1) bytes))
    → position_or_len is_feed (byte ∷ bytes) < length (byte ∷ bytes)
    → lines_of (byte ∷ bytes)
    ≡ take (position_or_len is_feed (byte ∷ bytes)) (byte ∷ bytes) ∷ lines_of (drop (position_or_len is_feed (byte ∷ bytes) + 1) (byte ∷ bytes))
lines_of_next byte bytes true is rest within = rw (lines_of_feed byte bytes is, is) refl
lines_of_next byte bytes false is rest within =
    let n : ℕ = position_or_len is_feed bytes in
    let one : 1 + n ≡ suc n = omega arith in
    let two : suc n + 1 ≡ suc (n + 1) = omega arith in
    let inside : 1 + n < suc (length bytes) = rw is at within in
    let below : n < length bytes = omega (arith, inside) in
    rw (is, one, two, lines_of_other byte bytes is, rest below) refl

-- the line up to the first LF, and then the lines after it
pub lines_of_first : (bytes : List ℕ) → position_or_len is_feed bytes < length bytes
    → lines_of bytes ≡ take (position_or_len is_feed bytes) bytes ∷ lines_of (drop (position_or_len is_feed bytes + 1) bytes)
lines_of_first [] below = absurd (omega (arith, below))
lines_of_first (byte ∷ bytes) below = lines_of_next byte bytes (is_feed byte) refl (λ within. lines_of_first bytes within) below

-- bytes without LF are one line, unless they are empty
last_line_next : (byte : ℕ) (bytes : List ℕ) (feed : Bool) → is_feed byte ≡ feed
    → (length bytes ≤ position_or_len is_feed bytes → 0 < length bytes → lines_of bytes ≡ bytes ∷ [])
    → length (byte ∷ bytes) ≤ position_or_len is_feed (byte ∷ bytes) → lines_of (byte ∷ bytes) ≡ (byte ∷ bytes) ∷ []
last_line_next byte bytes true is rest none =
    let zero_is : suc (length bytes) ≤ 0 = rw is at none in absurd (omega (arith, zero_is))
last_line_next byte [] false is rest none = rw (lines_of_other byte [] is, lines_of_none) refl
last_line_next byte (next ∷ bytes) false is rest none =
    let n : ℕ = position_or_len is_feed (next ∷ bytes) in
    let inside : suc (length (next ∷ bytes)) ≤ 1 + n = rw is at none in
    let within : length (next ∷ bytes) ≤ n = omega (arith, inside) in
    rw (lines_of_other byte (next ∷ bytes) is, rest within (omega arith)) refl

pub lines_of_last : (bytes : List ℕ) → length bytes ≤ position_or_len is_feed bytes → 0 < length bytes → lines_of bytes ≡ bytes ∷ []
lines_of_last [] none some = absurd (omega (arith, some))
lines_of_last (byte ∷ bytes) none some = last_line_next byte bytes (is_feed byte) refl (λ within more. lines_of_last bytes within more) none
