-- The lines that end with an LF: one more line, and lines that were joined.
use Rattle.std.proofs.Common.{◌≡◌, ℕ, List, [], ◌∷◌, ◌++◌, true, false, refl, ap, ◌∙◌, append_assoc}
use Rattle.std.proofs.lemmas.Bool.{or_parts}
use Rattle.std.proofs.lemmas.List.Folds.{list_any-append}
use Rattle.line_cut.specs.Lines.{line_feed, is_feed}
use Rattle.line_cut.specs.Buffered.{has_feed}
use Rattle.line_cut.specs.WholeLines.{onto_whole, whole_lines, joined, any_has_feed}

-- the three equations of the definition
pub whole_lines_of_none : whole_lines [] ≡ []
unfolding whole_lines
whole_lines_of_none = refl

pub whole_lines_of_feed : (byte : ℕ) (bytes : List ℕ) → is_feed byte ≡ true → whole_lines (byte ∷ bytes) ≡ [] ∷ whole_lines bytes
unfolding whole_lines
whole_lines_of_feed byte bytes feed = rw feed refl

pub whole_lines_of_other : (byte : ℕ) (bytes : List ℕ) → is_feed byte ≡ false → whole_lines (byte ∷ bytes) ≡ onto_whole byte (whole_lines bytes)
unfolding whole_lines
whole_lines_of_other byte bytes other = rw other refl

-- bytes without LF have no whole line
pub no_whole_line : (tail : List ℕ) → has_feed tail ≡ false → whole_lines tail ≡ []
no_whole_line [] none = whole_lines_of_none
no_whole_line (byte ∷ bytes) none =
    let (other, rest) = or_parts (is_feed byte) (has_feed bytes) none in
    whole_lines_of_other byte bytes other ∙ ap (onto_whole byte) (no_whole_line bytes rest)

-- a line, its LF, and the bytes after it
pub whole_line_first : (line rest : List ℕ) → has_feed line ≡ false → whole_lines (line ++ line_feed ∷ rest) ≡ line ∷ whole_lines rest
whole_line_first [] rest none = whole_lines_of_feed line_feed rest refl
whole_line_first (byte ∷ line) rest none =
    let (other, more) = or_parts (is_feed byte) (has_feed line) none in
    whole_lines_of_other byte (line ++ line_feed ∷ rest) other ∙ ap (onto_whole byte) (whole_line_first line rest more)

-- joined lines and then bytes without LF have these whole lines
pub whole_joined : (lines : List (List ℕ)) (tail : List ℕ) → any_has_feed lines ≡ false → has_feed tail ≡ false → whole_lines (joined lines ++ tail) ≡ lines
whole_joined [] tail none no_feed = no_whole_line tail no_feed
whole_joined (line ∷ lines) tail none no_feed =
    let (first, rest) = or_parts (has_feed line) (any_has_feed lines) none in
    ap whole_lines (append_assoc line (line_feed ∷ joined lines) tail) ∙ whole_line_first line (joined lines ++ tail) first
    ∙ ap (λ (ls : List (List ℕ)). line ∷ ls) (whole_joined lines tail rest no_feed)

-- one more line
pub joined_push : (lines : List (List ℕ)) (line : List ℕ) → joined (lines ++ line ∷ []) ≡ joined lines ++ line ++ line_feed ∷ []
joined_push [] line = refl
joined_push (first ∷ lines) line =
    ap (λ (bs : List ℕ). first ++ line_feed ∷ bs) (joined_push lines line) ∙ simp append_assoc

pub no_feeds_push : (lines : List (List ℕ)) (line : List ℕ) → any_has_feed lines ≡ false → has_feed line ≡ false → any_has_feed (lines ++ line ∷ []) ≡ false
no_feeds_push lines line none no_feed = list_any-append has_feed lines (line ∷ []) ∙ (rw (none, no_feed) refl)

-- if the rest after joined lines is a line, its LF and more, the bytes are one more joined line and then more
pub joined_after : (bytes : List ℕ) (lines : List (List ℕ)) (before line rest : List ℕ) → bytes ≡ joined lines ++ before → before ≡ line ++ line_feed ∷ rest
    → bytes ≡ joined (lines ++ line ∷ []) ++ rest
joined_after bytes lines before line rest all is = rw (all, is, joined_push) (simp append_assoc)
