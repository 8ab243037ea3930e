use Rattle.std.proofs.Common.{◌≡◌, ℕ, ◌+◌, ◌-◌, ◌≤◌, take, drop, List, ◌++◌, ap, ◌∙◌, arith}
use Rattle.line_cut.specs.FirstLen.{first_len}
use Rattle.line_cut.specs.declared.limits.TheConstants.{SIZE}
use Rattle.line_cut.proofs.LayoutLemmas.{laid_same, laid_read}
use Rattle.line_cut.proofs.Pending.{kept_by_read, kept_by_fault}
use Rattle.line_cut.proofs.Slices.{same_below, further}
use Rattle.line_cut.proofs.window.Window.read.Goals as goal

pub invariant_of-self : goal.invariant_of-self
invariant_of-self g c =
    let w = c.args.self.now in
    record { laid_out = laid_same w.bytes.items _ w.line w.line_end w.start w.end w.first w.laid_out c.read_at.ensures.front c.read_at.ensures.len }

pub returns-in_default-clause-line : goal.returns-in_default-clause-line
returns-in_default-clause-line g c =
    let w = c.args.self.now in same_below w.bytes.items _ w.end w.line w.line_end c.read_at.ensures.front (omega arith)

pub returns-in_default-clause-bytes : goal.returns-in_default-clause-bytes
returns-in_default-clause-bytes g c =
    let w = c.args.self.now in
    kept_by_fault _ _ _ _ c.in_default.ensures.bytes (same_below w.bytes.items _ w.end w.start w.end c.read_at.ensures.front (omega arith))

pub returns-in_default-clause-err : goal.returns-in_default-clause-err
returns-in_default-clause-err g c =
    let w = c.args.self.now in same_below w.bytes.items _ w.end w.start w.end c.read_at.ensures.front (omega arith)

pub invariant_of-self-2 : goal.invariant_of-self-2
invariant_of-self-2 g c =
    let w = c.args.self.now in
    let now = c.read_at.new.bytes.items in
    let n = c.in-Ok.count in
    let room : w.end + n ≤ SIZE = omega (arith, c.requires.room, c.in-Ok.ensures.few) in
    let size : w.end + n - w.end ≡ n = omega arith in
    let more : c.first_len-more.result ≡ first_len (take n (drop w.end now)) =
    c.first_len-more.ensures.len ∙ ap first_len (ap (λ k. take k (drop w.end c.deref.result.now)) size
    ∙ ap (λ (bs : List ℕ). take n (drop w.end bs)) c.deref.ensures.value) in
    let laid = laid_read w.bytes.items now w.line w.line_end w.start w.end w.first n w.laid_out (w.laid_out.searched ∙ c.requires.no_feed) c.read_at.ensures.front c.read_at.ensures.len room in
    rw more (record { laid_out = laid })

pub returns-clause-line : goal.returns-clause-line
returns-clause-line g c =
    let w = c.args.self.now in same_below w.bytes.items _ w.end w.line w.line_end c.read_at.ensures.front (omega arith)

pub returns-clause-bytes : goal.returns-clause-bytes
returns-clause-bytes g c =
    let w = c.args.self.now in
    let now = c.read_at.new.bytes.items in
    let n = c.in-Ok.count in
    kept_by_read _ _ _ (take n (drop w.end now)) _ c.in-Ok.ensures.bytes.0
    (further now w.start w.end n (omega arith)
    ∙ ap (λ (bs : List ℕ). bs ++ take n (drop w.end now)) (same_below w.bytes.items now w.end w.start w.end c.read_at.ensures.front (omega arith)))
