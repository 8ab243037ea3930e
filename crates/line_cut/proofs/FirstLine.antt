-- The first line of bytes: the bytes before the first LF, and the bytes after it.
use Rattle.std.proofs.Common.{◌≡◌, ℕ, ◌+◌, ◌<◌, ◌≤◌, List, [], ◌∷◌, ◌++◌, length, take, drop, Bool, true, false, refl, ◌∙◌, ap, arith, suc, nat_lt, eqb, cond, eqb-true, eq-eqb}
use Rattle.std.proofs.lemmas.Bool.{ltb-true, ltb-false}
use Rattle.std.proofs.lemmas.List.{drop_all, take_all}
use Rattle.std.proofs.lemmas.List.Folds.{length-prefix_len, prefix_len-append}
use Rattle.std.proofs.lemmas.List.Sums.{prefix_len-le-length}
use Rattle.line_cut.specs.Lines.{line_feed, is_feed, lines_of}
use Rattle.line_cut.specs.Buffered.{has_feed, BeginsLong}
use Rattle.line_cut.specs.FirstLen.{first_len}
use Rattle.line_cut.specs.declared.limits.TheConstants.{LINE_MAX}
use Rattle.line_cut.proofs.LinesLemmas.{lines_of_none, lines_of_first, lines_of_last}

-- the two cases of the first byte
first_feed : (byte : ℕ) (bytes : List ℕ) → is_feed byte ≡ true → first_len (byte ∷ bytes) ≡ 0
unfolding first_len
first_feed byte bytes is = rw is refl

first_other : (byte : ℕ) (bytes : List ℕ) → is_feed byte ≡ false → first_len (byte ∷ bytes) ≡ suc (first_len bytes)
unfolding first_len
first_other byte bytes is = rw is (omega arith)

-- no LF comes before the first one
no_feed_next : (byte : ℕ) (bytes : List ℕ) (feed : Bool) → is_feed byte ≡ feed
    → has_feed (take (first_len bytes) bytes) ≡ false → has_feed (take (first_len (byte ∷ bytes)) (byte ∷ bytes)) ≡ false
no_feed_next byte bytes true is rest = rw (first_feed byte bytes is) refl
no_feed_next byte bytes false is rest = rw (first_other byte bytes is, is) rest

pub no_feed_before : (bytes : List ℕ) → has_feed (take (first_len bytes) bytes) ≡ false
unfolding first_len
no_feed_before [] = refl
no_feed_before (byte ∷ bytes) = no_feed_next byte bytes (is_feed byte) refl (no_feed_before bytes)

-- bytes with an LF are the first line, the LF and the bytes after it
split_next : (byte : ℕ) (bytes : List ℕ) (feed : Bool) → is_feed byte ≡ feed
    → (first_len bytes < length bytes → bytes ≡ take (first_len bytes) bytes ++ line_feed ∷ drop (first_len bytes + 1) bytes)
    → first_len (byte ∷ bytes) < length (byte ∷ bytes)
    → byte ∷ bytes ≡ take (first_len (byte ∷ bytes)) (byte ∷ bytes) ++ line_feed ∷ drop (first_len (byte ∷ bytes) + 1) (byte ∷ bytes)
split_next byte bytes true is rest within = rw (first_feed byte bytes is) (ap (λ b. b ∷ bytes) (eqb-true _ _ is))
split_next byte bytes false is rest within =
    let inside : suc (first_len bytes) < suc (length bytes) = rw (first_other byte bytes is) at within in
    let below : first_len bytes < length bytes = omega (arith, inside) in
    let one : suc (first_len bytes) + 1 ≡ suc (first_len bytes + 1) = omega arith in
    rw (first_other byte bytes is, one) (ap (λ bs. byte ∷ bs) (rest below))

pub split_at_feed : (bytes : List ℕ) → first_len bytes < length bytes
    → bytes ≡ take (first_len bytes) bytes ++ line_feed ∷ drop (first_len bytes + 1) bytes
split_at_feed [] within = absurd (omega (arith, within))
split_at_feed (byte ∷ bytes) within = split_next byte bytes (is_feed byte) refl (λ below. split_at_feed bytes below) within

-- `first_len` is the length of the first line
pub first_len_is : (bytes : List ℕ) → length (take (first_len bytes) bytes) ≡ first_len bytes
unfolding first_len
first_len_is bytes = length-prefix_len _ bytes

pub first_len_within : (bytes : List ℕ) → first_len bytes ≤ length bytes
unfolding first_len
first_len_within bytes = prefix_len-le-length _ bytes

-- more bytes at the end do not shorten the first line, nor change one that ends with an LF
longer_test : (first len more : ℕ) (all : Bool) → eqb first len ≡ all → first ≤ len → first ≤ cond all (len + more) first
longer_test first len more true is le = omega (arith, eqb-true _ _ is)
longer_test first len more false is le = omega arith

pub first_len_append : (bytes more : List ℕ) → first_len bytes ≡ length bytes → first_len (bytes ++ more) ≡ length bytes + first_len more
unfolding first_len
first_len_append bytes more all = prefix_len-append _ bytes more ∙ (rw (eq-eqb _ _ all) refl)

pub first_len_longer : (bytes more : List ℕ) → first_len bytes ≤ first_len (bytes ++ more)
unfolding first_len
first_len_longer bytes more = rw (prefix_len-append _ bytes more) (longer_test _ _ _ _ refl (prefix_len-le-length _ bytes))

same_test : (first len more : ℕ) (all : Bool) → eqb first len ≡ all → first < len → cond all (len + more) first ≡ first
same_test first len more true is below = absurd (omega (arith, eqb-true _ _ is, below))
same_test first len more false is below = refl

pub first_len_same : (bytes more : List ℕ) → first_len bytes < length bytes → first_len (bytes ++ more) ≡ first_len bytes
unfolding first_len
first_len_same bytes more whole = prefix_len-append _ bytes more ∙ same_test _ _ _ _ refl whole

-- bytes that are not empty have a first line
some_lines : (bytes : List ℕ) (feed : Bool) → nat_lt (first_len bytes) (length bytes) ≡ feed → 0 < length bytes
    → lines_of bytes ≡ take (first_len bytes) bytes ∷ lines_of (drop (first_len bytes + 1) bytes)
unfolding first_len
some_lines bytes true is some = lines_of_first bytes (ltb-true _ _ is)
some_lines bytes false is some =
    let all : length bytes ≤ first_len bytes = ltb-false _ _ is in
    let past : length bytes ≤ first_len bytes + 1 = omega (arith, all) in
    rw (take_all _ bytes all, drop_all _ bytes past, lines_of_none) (lines_of_last bytes all some)

pub lines_of_some : (bytes : List ℕ) → 0 < length bytes → lines_of bytes ≡ take (first_len bytes) bytes ∷ lines_of (drop (first_len bytes + 1) bytes)
lines_of_some bytes some = some_lines bytes _ refl some

-- the first line is too long if and only if `first_len` is above the limit
pub begins_long : (bytes : List ℕ) → LINE_MAX < first_len bytes → BeginsLong (lines_of bytes)
begins_long bytes long =
    let le : first_len bytes ≤ length bytes = first_len_within bytes in
    let some : 0 < length bytes = omega (arith, le, long) in
    rw (lines_of_some bytes some, first_len_is bytes) long

pub long_begins : (bytes : List ℕ) → BeginsLong (lines_of bytes) → LINE_MAX < first_len bytes
long_begins [] long = absurd (rw lines_of_none at long)
long_begins (byte ∷ bytes) long =
    let some : 0 < length (byte ∷ bytes) = omega arith in
    rw (lines_of_some (byte ∷ bytes) some, first_len_is (byte ∷ bytes)) at long
