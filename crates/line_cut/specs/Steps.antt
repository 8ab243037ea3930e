-- Serves private clauses only. The steps of a call: whether another read is wanted, and how a cut changes the buffered
-- bytes.
use Rattle.std.specs.Prelude.{◌≡◌, ◌<◌, ◌≤◌, ◌+◌, ◌-◌, ℕ, Bool, true, false, not, ◌&&◌, nat_eq, nat_le, [], length, take, drop, cond}
use Rattle.line_cut.specs.FirstLen.{first_len}
use Rattle.line_cut.specs.Buffered.{Buffered}
use Rattle.port_io.specs.declared.limited_read.TheConstants.{PIECE}
use Rattle.line_cut.specs.declared.limits.TheConstants.{LINE_MAX}
use Rattle.line_cut.specs.declared.cut.Cut.{Cut}
use Rattle.line_cut.specs.declared.cut.Cut.TheVariants.{Line, End, Long}

-- another read is wanted: the source has not ended, and the buffered bytes have no LF and are not too long
unfoldable pub wants_more : Buffered → Bool
wants_more buffered = not buffered.ended && (nat_eq (first_len buffered.rest) (length buffered.rest) && nat_le (length buffered.rest) LINE_MAX)

-- how many bytes may still be read before no read is wanted
abbrev pub still_to_read : Buffered → ℕ
still_to_read buffered = cond buffered.ended 0 (LINE_MAX + 1 + PIECE - length buffered.rest)

-- the first buffered line was cut; it has no LF only if the source has ended
pub record CutsFirst (old new : Buffered) : Type 0 where
  pub some : 0 < length old.rest
  pub ends : old.ended ≡ false → first_len old.rest < length old.rest
  pub short : first_len old.rest ≤ LINE_MAX
  pub line : new.line ≡ take (first_len old.rest) old.rest
  pub rest : new.rest ≡ drop (first_len old.rest + 1) old.rest
  pub same : new.ended ≡ old.ended

-- how a cut changes the buffered bytes, by its outcome
abbrev pub CutOutcome : Cut → Buffered → Buffered → Type 0
CutOutcome Line old new = CutsFirst old new
CutOutcome End old new = (new ≡ old) × (old.rest ≡ []) × (old.ended ≡ true)
CutOutcome Long old new = (new ≡ old) × (LINE_MAX < first_len old.rest)
