-- What is known of the buffered bytes if a read is wanted, and if none is.
use Rattle.std.proofs.Common.{◌≡◌, ℕ, ◌+◌, ◌-◌, ◌<◌, ◌≤◌, List, [], length, Bool, true, false, not, ◌&&◌, cond, refl, sym, ap, ◌∙◌, arith, nat_eq, nat_le}
use Rattle.std.proofs.lemmas.Bool.{le-leb, leb-true, eqb-true, eqb-false, and_parts, not-true, false_from_ne_true}
use Rattle.std.proofs.lemmas.List.{take_all}
use Rattle.line_cut.specs.FirstLen.{first_len}
use Rattle.line_cut.specs.Lines.{lines_of}
use Rattle.line_cut.specs.Buffered.{Buffered, has_feed, BeginsLong}
use Rattle.line_cut.specs.Steps.{wants_more, still_to_read}
use Rattle.port_io.specs.declared.limited_read.TheConstants.{PIECE}
use Rattle.line_cut.specs.declared.limits.TheConstants.{LINE_MAX}
use Rattle.line_cut.proofs.FirstLine.{no_feed_before, first_len_within, long_begins}

ended_test : (ended : Bool) (rest : List ℕ) → (not ended && (nat_eq (first_len rest) (length rest) && nat_le (length rest) LINE_MAX)) ≡ false
    → rest ≡ [] → ended ≡ true
unfolding first_len
ended_test true rest still none = refl
ended_test false rest still none = let no_more : true ≡ false = rw none at still in cc

-- no read is wanted although nothing is buffered: the source has ended
pub ended_when_none : (buffered : Buffered) → wants_more buffered ≡ false → buffered.rest ≡ [] → buffered.ended ≡ true
unfolding wants_more
ended_when_none buffered still none = ended_test buffered.ended buffered.rest still none

whole_test : (first len : ℕ) (all : Bool) → nat_eq first len ≡ all → (all && nat_le len LINE_MAX) ≡ false
    → first ≤ LINE_MAX → first ≤ len → first < len
whole_test first len true is still short within =
    let same : first ≡ len = eqb-true _ _ is in
    let few : nat_le len LINE_MAX ≡ true = le-leb _ _ (omega (arith, same, short)) in
    let wrong : true ≡ false = rw few at still in cc
whole_test first len false is still short within =
    let other : first ≡ len → ⊥ = eqb-false _ _ is in omega (arith, other)

-- no read is wanted, the source has not ended, and the first line is not too long: that line is whole
pub whole_when_short : (buffered : Buffered) → wants_more buffered ≡ false → buffered.ended ≡ false → first_len buffered.rest ≤ LINE_MAX → first_len buffered.rest < length buffered.rest
unfolding wants_more
whole_when_short buffered still going short = whole_test _ _ _ refl (rw going at still) short (first_len_within buffered.rest)

-- a read is wanted: the source has not ended, and the buffered bytes have no LF and are not too long
pub open_when_wanted : (buffered : Buffered) → wants_more buffered ≡ true → buffered.ended ≡ false
unfolding wants_more
open_when_wanted buffered more = not-true _ (and_parts _ _ more).0

pub all_when_wanted : (buffered : Buffered) → wants_more buffered ≡ true → first_len buffered.rest ≡ length buffered.rest
unfolding wants_more
all_when_wanted buffered more = eqb-true _ _ (and_parts _ _ (and_parts _ _ more).1).0

pub few_when_wanted : (buffered : Buffered) → wants_more buffered ≡ true → length buffered.rest ≤ LINE_MAX
unfolding wants_more
few_when_wanted buffered more = leb-true _ _ (and_parts _ _ (and_parts _ _ more).1).1

pub no_feed_when_wanted : (buffered : Buffered) → wants_more buffered ≡ true → has_feed buffered.rest ≡ false
no_feed_when_wanted buffered more =
    let all : length buffered.rest ≤ first_len buffered.rest = omega (arith, all_when_wanted buffered more) in
    sym (ap has_feed (take_all (first_len buffered.rest) buffered.rest all)) ∙ no_feed_before buffered.rest

-- no read is wanted after the source has ended, or if the first line is whole or too long
pub still_when_ended : (buffered : Buffered) → buffered.ended ≡ true → wants_more buffered ≡ false
still_when_ended buffered ended = false_from_ne_true _ (λ more. let wrong : true ≡ false = sym ended ∙ open_when_wanted buffered more in cc)

pub still_when_whole : (buffered : Buffered) → has_feed buffered.rest ≡ true → wants_more buffered ≡ false
still_when_whole buffered feed = false_from_ne_true _ (λ more. let wrong : true ≡ false = sym feed ∙ no_feed_when_wanted buffered more in cc)

pub still_when_long : (buffered : Buffered) → BeginsLong (lines_of buffered.rest) → wants_more buffered ≡ false
still_when_long buffered long =
    false_from_ne_true _ (λ more. let above : LINE_MAX < first_len buffered.rest = long_begins buffered.rest long in
    omega (arith, above, all_when_wanted buffered more, few_when_wanted buffered more))

-- a read brings the end of reading nearer
nearer_test : (ended : Bool) (old new n : ℕ) → nat_eq n 0 ≡ ended → old ≤ LINE_MAX → new ≡ old + n
    → cond ended 0 (LINE_MAX + 1 + PIECE - new) < LINE_MAX + 1 + PIECE - old
nearer_test true old new n is few grown = omega (arith, few)
nearer_test false old new n is few grown = let some : n ≡ 0 → ⊥ = eqb-false _ _ is in omega (arith, few, grown, some)

pub nearer : (old new : Buffered) (n : ℕ) → wants_more old ≡ true → new.ended ≡ nat_eq n 0 → length new.rest ≡ length old.rest + n
    → still_to_read new < still_to_read old
nearer old new n more is grown =
    rw (open_when_wanted old more) (nearer_test new.ended _ _ n (sym is) (few_when_wanted old more) grown)
