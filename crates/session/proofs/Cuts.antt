-- One cut of a line, from the clauses of the cutter.
use Rattle.std.proofs.Common.{◌≡◌, ◌≢◌, ◌≤◌, ℕ, List, [], length, Bool, true, false, Result, Ok, Err, Option, refl}
use Rattle.std.specs.Prelude.{OnErr}
use Rattle.std.specs.Io.KnownBytes.{Keeps, IsAtEnd}
use Rattle.line_cut.specs.Buffered.{Buffered, pending, has_feed, CutsLine, CutsAtFeed, IsLongNext, StaysKnown}
use Rattle.line_cut.specs.declared.cut.Cut.{Cut}
use Rattle.line_cut.specs.declared.cut.Cut.TheVariants.{Line, End, Long}
use Rattle.line_cut.specs.declared.cut.ReadFault.{ReadFault}
use Rattle.line_cut.specs.declared.limits.TheConstants.{LINE_MAX}
use Rattle.session.specs.Loop.{CutFinds, KeepsSource}

-- a source that has not ended now had not before
pub was_unended : (before after : Bool) → (before ≡ true → after ≡ true) → after ≡ false → before ≡ false
was_unended true after later unended = let done : after ≡ true = later refl in cc
was_unended false after later unended = refl

pub cut_finds : (old new : Buffered) (left rest : Option (List ℕ)) (result : Result Cut ReadFault)
    → (result ≡ Ok Line → CutsLine (pending old left) new.line (pending new rest))
    → (result ≡ Ok Line → new.ended ≡ false → CutsAtFeed (pending old left) new.line (pending new rest))
    → (result ≡ Ok Line → length new.line ≤ LINE_MAX)
    → (result ≡ Ok Line → has_feed new.line ≡ false)
    → (result ≢ Ok Line → Keeps (pending old left) (pending new rest))
    → (result ≡ Ok End → IsAtEnd (pending old left))
    → (result ≡ Ok End → (new.ended ≡ true) × (new.rest ≡ []))
    → (result ≡ Ok Long → IsLongNext (pending new rest))
    → OnErr result (has_feed new.rest ≡ false) → OnErr result (new.ended ≡ false) → (old.ended ≡ true → new.ended ≡ true)
    → CutFinds old left result new rest
cut_finds old new left rest (Ok Line) cuts feed short whole keeps none end long alone unended later =
    record { cuts = cuts refl; at_feed = feed refl; short = short refl; whole = whole refl; later = later }
cut_finds old new left rest (Ok End) cuts feed short whole keeps none end long alone unended later = (none refl, (end refl).0)
cut_finds old new left rest (Ok Long) cuts feed short whole keeps none end long alone unended later = (keeps (λ same. cc), long refl)
cut_finds old new left rest (Err fault) cuts feed short whole keeps none end long alone unended later =
    record { keeps = keeps (λ same. cc); unended = unended; was_unended = was_unended old.ended new.ended later unended; whole = alone }

-- a source that had ended is not read again, and one that ends now has nothing left
ended_stays : (was : Bool) (new : Buffered) (left rest : Option (List ℕ)) → (was ≡ true → rest ≡ left) → (was ≡ false → new.ended ≡ true → IsAtEnd rest)
    → (was ≡ true → IsAtEnd left) → new.ended ≡ true → IsAtEnd rest
ended_stays true new left rest stops at_end known ended = rw (stops refl) (known refl)
ended_stays false new left rest stops at_end known ended = at_end refl ended

pub source_is_kept : (old new : Buffered) (left rest : Option (List ℕ)) → (old.ended ≡ true → rest ≡ left) → (old.ended ≡ false → new.ended ≡ true → IsAtEnd rest)
    → StaysKnown left rest → KeepsSource old left new rest
source_is_kept old new left rest stops at_end known = record { known = known; at_end = ended_stays old.ended new left rest stops at_end }
