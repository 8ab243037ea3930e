-- The layout of a window after each of its steps.
use Rattle.std.proofs.Common.{◌≡◌, ℕ, ◌+◌, ◌-◌, ◌<◌, ◌≤◌, List, length, take, drop, slice_range, min, sym, ap, ◌∙◌, arith, inl, inr, ◌⊎◌}
use Rattle.std.specs.List.{copy_within}
use Rattle.std.proofs.lemmas.Bool.{cases_lt}
use Rattle.std.proofs.lemmas.List.{drop_all}
use Rattle.line_cut.specs.FirstLen.{first_len}
use Rattle.line_cut.specs.Layout.{IsLaidOut}
use Rattle.line_cut.specs.declared.limits.TheConstants.{LINE_MAX, SIZE}
use Rattle.line_cut.proofs.FirstLine.{first_len_within, first_len_append}
use Rattle.line_cut.proofs.Slices.{length-part, further, consumed, same_below, moved}

-- the first line lies within the bytes that are not yet cut
pub first_inside : (bytes : List ℕ) (line line_end start end first : ℕ) → IsLaidOut bytes line line_end start end first → start + first ≤ end
first_inside bytes line line_end start end first laid =
    let len = length-part bytes start end (omega arith) in
    let le = first_len_within (slice_range bytes start end) in
    omega (arith, len, le, laid.searched)

-- the first line was cut
pub laid_cut : (bytes : List ℕ) (line line_end start end first next after : ℕ) → IsLaidOut bytes line line_end start end first → first ≤ LINE_MAX
    → next ≡ min end (start + first + 1) → after ≡ first_len (slice_range bytes next end) → IsLaidOut bytes start (start + first) next end after
laid_cut bytes line line_end start end first next after laid few is searched =
    let inside = first_inside bytes line line_end start end first laid in
    grind (arith, laid, is, inside, searched, few)

rest_cases : (bytes : List ℕ) (start end first next : ℕ) → start + first ≤ end → end ≤ length bytes → next ≡ min end (start + first + 1)
    → (end < start + (first + 1)) ⊎ (start + (first + 1) ≤ end) → slice_range bytes next end ≡ drop (first + 1) (slice_range bytes start end)
rest_cases bytes start end first next inside within is (inl past) =
    let same : next ≡ end = omega (arith, is, past, inside) in
    let none : end - next ≡ 0 = omega (arith, same) in
    let len = length-part bytes start end within in
    let all : length (slice_range bytes start end) ≤ first + 1 = omega (arith, len, past) in
    ap (λ n. take n (drop next bytes)) none ∙ sym (drop_all (first + 1) (slice_range bytes start end) all)
rest_cases bytes start end first next inside within is (inr more) =
    let same : next ≡ start + (first + 1) = omega (arith, is, more) in
    ap (λ n. slice_range bytes n end) same ∙ consumed bytes start end (first + 1) more

-- the bytes after the first line
pub rest_cut : (bytes : List ℕ) (line line_end start end first next : ℕ) → IsLaidOut bytes line line_end start end first
    → next ≡ min end (start + first + 1) → slice_range bytes next end ≡ drop (first + 1) (slice_range bytes start end)
rest_cut bytes line line_end start end first next laid is =
    rest_cases bytes start end first next (first_inside bytes line line_end start end first laid) (omega arith) is (cases_lt end (start + (first + 1)))

-- everything moved to the start of the buffer
pub laid_moved : (bytes : List ℕ) (line line_end start end first : ℕ) → IsLaidOut bytes line line_end start end first
    → (moved_bytes : List ℕ) → moved_bytes ≡ copy_within bytes line end 0 → length moved_bytes ≡ length bytes
    → IsLaidOut moved_bytes 0 (line_end - line) (start - line) (end - line) first
laid_moved bytes line line_end start end first laid moved_bytes is len =
    let searched : first ≡ first_len (slice_range moved_bytes (start - line) (end - line)) = laid.searched ∙ ap first_len (sym (ap (λ (bs : List ℕ). slice_range bs (start - line) (end - line)) is
    ∙ moved bytes line end start end (omega arith) (omega arith) (omega arith) (omega arith))) in
    grind (arith, laid, len, searched)

-- a read added bytes after the end, and the bytes before them have no LF
pub laid_read : (bytes now : List ℕ) (line line_end start end first n : ℕ) → IsLaidOut bytes line line_end start end first
    → first ≡ length (slice_range bytes start end) → take end now ≡ take end bytes → length now ≡ length bytes → end + n ≤ SIZE
    → IsLaidOut now line line_end start (end + n) (first + first_len (take n (drop end now)))
laid_read bytes now line line_end start end first n laid all same len room =
    let same_rest = same_below bytes now end start end same (omega arith) in
    let none : first_len (slice_range now start end) ≡ length (slice_range now start end) =
    ap first_len same_rest ∙ sym laid.searched ∙ all ∙ sym (ap length same_rest) in
    let more = first_len_append (slice_range now start end) (take n (drop end now)) none in
    let count : first ≡ length (slice_range now start end) = all ∙ sym (ap length same_rest) in
    let searched : first + first_len (take n (drop end now)) ≡ first_len (slice_range now start (end + n)) =
    ap (λ k. k + first_len (take n (drop end now))) count ∙ sym more ∙ ap first_len (sym (further now start end n (omega arith))) in
    grind (arith, laid, len, room, searched)

-- a read failed
pub laid_same : (bytes now : List ℕ) (line line_end start end first : ℕ) → IsLaidOut bytes line line_end start end first
    → take end now ≡ take end bytes → length now ≡ length bytes → IsLaidOut now line line_end start end first
laid_same bytes now line line_end start end first laid same len =
    let searched : first ≡ first_len (slice_range now start end) = laid.searched ∙ ap first_len (sym (same_below bytes now end start end same (omega arith))) in
    grind (arith, laid, len, searched)
