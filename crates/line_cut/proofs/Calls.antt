-- What a cut means for the bytes that are still to be cut.
use Rattle.std.proofs.Common.{◌≡◌, ℕ, ◌+◌, ◌<◌, ◌≤◌, List, [], ◌∷◌, ◌++◌, length, take, drop, Bool, true, false, Option, Some, None, refl, sym, ap, ◌∙◌, append_assoc, arith, if◌then◌else◌}
use Rattle.std.specs.Io.KnownBytes.{Keeps, IsAtEnd, prepend_known}
use Rattle.std.proofs.lemmas.List.{take-append-le, drop-append-le, length-append}
use Rattle.line_cut.specs.FirstLen.{first_len}
use Rattle.line_cut.specs.Lines.{line_feed, lines_of}
use Rattle.line_cut.specs.Buffered.{Buffered, pending, has_feed, BeginsLong, CutsLine, CutsAtFeed, IsLongNext}
use Rattle.line_cut.specs.Steps.{CutsFirst, CutOutcome}
use Rattle.line_cut.specs.declared.cut.Cut.{Cut}
use Rattle.line_cut.specs.declared.cut.Cut.TheVariants.{Line, End, Long}
use Rattle.line_cut.specs.declared.limits.TheConstants.{LINE_MAX}
use Rattle.line_cut.proofs.LinesLemmas.{lines_of_none}
use Rattle.line_cut.proofs.FirstLine.{lines_of_some, split_at_feed, first_len_same, first_len_longer, begins_long, long_begins, no_feed_before}

-- the three outcomes of a cut
pub cut_is_line : (cut : Cut) (old new : Buffered) → CutOutcome cut old new → cut ≡ Line → CutsFirst old new
cut_is_line Line old new cuts is = cuts
cut_is_line End old new cuts is = cc
cut_is_line Long old new cuts is = cc

pub cut_is_end : (cut : Cut) (old new : Buffered) → CutOutcome cut old new → cut ≡ End → (new ≡ old) × (old.rest ≡ []) × (old.ended ≡ true)
cut_is_end Line old new cuts is = cc
cut_is_end End old new cuts is = cuts
cut_is_end Long old new cuts is = cc

pub cut_is_long : (cut : Cut) (old new : Buffered) → CutOutcome cut old new → cut ≡ Long → (new ≡ old) × (LINE_MAX < first_len old.rest)
cut_is_long Line old new cuts is = cc
cut_is_long End old new cuts is = cc
cut_is_long Long old new cuts is = cuts

pub cut_is_long_again : (cut : Cut) (old new : Buffered) → CutOutcome cut old new → BeginsLong (lines_of old.rest) → cut ≡ Long
cut_is_long_again Line old new cuts long =
    let above : LINE_MAX < first_len old.rest = long_begins old.rest long in absurd (omega (arith, above, cuts.short))
cut_is_long_again End old new cuts long = absurd (rw (cuts.1, lines_of_none) at long)
cut_is_long_again Long old new cuts long = refl

pub cut_is_end_again : (cut : Cut) (old new : Buffered) → CutOutcome cut old new → old.rest ≡ [] → cut ≡ End
unfolding first_len
cut_is_end_again Line old new cuts none = absurd (omega (arith, cuts.some, ap length none))
cut_is_end_again End old new cuts none = refl
cut_is_end_again Long old new cuts none =
    let above : LINE_MAX < 0 = rw none at cuts.1 in absurd (omega (arith, above))

pub cut_keeps_ended : (cut : Cut) (old new : Buffered) → CutOutcome cut old new → new.ended ≡ old.ended
cut_keeps_ended Line old new cuts = cuts.same
cut_keeps_ended End old new cuts = ap (λ (h : Buffered). h.ended) cuts.0
cut_keeps_ended Long old new cuts = ap (λ (h : Buffered). h.ended) cuts.0

-- a whole line before more bytes
pub line_before : (rest more : List ℕ) → first_len rest < length rest
    → lines_of (rest ++ more) ≡ take (first_len rest) rest ∷ lines_of (drop (first_len rest + 1) rest ++ more)
line_before rest more whole =
    let some : 0 < length (rest ++ more) = omega (arith, length-append rest more, whole) in
    let same : first_len (rest ++ more) ≡ first_len rest = first_len_same rest more whole in
    let below : first_len rest ≤ length rest = omega (arith, whole) in
    let past : first_len rest + 1 ≤ length rest = omega (arith, whole) in
    lines_of_some (rest ++ more) some
    ∙ (rw (same, take-append-le (first_len rest) rest more below, drop-append-le (first_len rest + 1) rest more past) refl)

pub feed_before : (rest more : List ℕ) → first_len rest < length rest
    → rest ++ more ≡ take (first_len rest) rest ++ line_feed ∷ (drop (first_len rest + 1) rest ++ more)
feed_before rest more whole =
    ap (λ (bs : List ℕ). bs ++ more) (split_at_feed rest whole) ∙ append_assoc (take (first_len rest) rest) (line_feed ∷ drop (first_len rest + 1) rest) more

-- the line that was cut, if the bytes are known
line_known : (ended : Bool) (before left : Option (List ℕ)) (rest : List ℕ) → 0 < length rest → (ended ≡ false → first_len rest < length rest)
    → Keeps before (if ended then Some rest else prepend_known rest left)
    → CutsLine before (take (first_len rest) rest) (if ended then Some (drop (first_len rest + 1) rest) else prepend_known (drop (first_len rest + 1) rest) left)
line_known ended None left rest some whole same = tt
line_known true (Some bytes) left rest some whole same = rw (← same) (lines_of_some rest some)
line_known false (Some bytes) None rest some whole same = absurd same
line_known false (Some bytes) (Some more) rest some whole same = rw (← same) (line_before rest more (whole refl))

pub cuts_line : (before left : Option (List ℕ)) (old new : Buffered) → Keeps before (pending old left) → CutsFirst old new → CutsLine before new.line (pending new left)
unfolding pending
cuts_line before left old new same cuts = rw (cuts.line, cuts.rest, cuts.same) (line_known old.ended before left old.rest cuts.some cuts.ends same)

feed_known : (before left : Option (List ℕ)) (rest : List ℕ) → first_len rest < length rest → Keeps before (prepend_known rest left)
    → CutsAtFeed before (take (first_len rest) rest) (prepend_known (drop (first_len rest + 1) rest) left)
feed_known None left rest whole same = tt
feed_known (Some bytes) None rest whole same = absurd same
feed_known (Some bytes) (Some more) rest whole same = rw (← same) (feed_before rest more whole)

pub cuts_at_feed : (before left : Option (List ℕ)) (old new : Buffered) → Keeps before (pending old left) → CutsFirst old new → new.ended ≡ false
    → CutsAtFeed before new.line (pending new left)
unfolding pending
cuts_at_feed before left old new same cuts going =
    let open_before : old.ended ≡ false = sym cuts.same ∙ going in
    let kept = rw open_before at same in
    rw (cuts.line, cuts.rest, going) (feed_known before left old.rest (cuts.ends open_before) kept)

-- the line contains no LF
pub line_has_no_feed : (old new : Buffered) → CutsFirst old new → has_feed new.line ≡ false
line_has_no_feed old new cuts = rw cuts.line (no_feed_before old.rest)

-- nothing is left to be cut
end_known : (before : Option (List ℕ)) (rest : List ℕ) → Keeps before (Some rest) → rest ≡ [] → IsAtEnd before
end_known None rest same none = tt
end_known (Some bytes) rest same none = sym same ∙ none

pub nothing_left : (before left : Option (List ℕ)) (buffered : Buffered) → Keeps before (pending buffered left) → buffered.rest ≡ [] → buffered.ended ≡ true → IsAtEnd before
unfolding pending
nothing_left before left buffered same none ended = end_known before buffered.rest (rw ended at same) none

-- the next line is too long
long_known : (ended : Bool) (left : Option (List ℕ)) (rest : List ℕ) → LINE_MAX < first_len rest → IsLongNext (if ended then Some rest else prepend_known rest left)
long_known true left rest long = begins_long rest long
long_known false None rest long = tt
long_known false (Some more) rest long =
    let longer : LINE_MAX < first_len (rest ++ more) = omega (arith, long, first_len_longer rest more) in
    begins_long (rest ++ more) longer

pub long_next : (left : Option (List ℕ)) (buffered : Buffered) → LINE_MAX < first_len buffered.rest → IsLongNext (pending buffered left)
unfolding pending
long_next left buffered long = long_known buffered.ended left buffered.rest long
