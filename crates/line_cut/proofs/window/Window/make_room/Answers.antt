use Rattle.std.proofs.Common.{ℕ, ◌-◌, slice_range, List, ap, ◌∙◌, arith}
use Rattle.line_cut.proofs.LayoutLemmas.{laid_moved}
use Rattle.line_cut.proofs.Slices.{moved}
use Rattle.line_cut.proofs.window.Window.make_room.Goals as goal

pub invariant_of-self : goal.invariant_of-self
invariant_of-self c =
    let w = c.args.self.now in
    record {
      laid_out = laid_moved w.bytes.items w.line w.line_end w.start w.end w.first w.laid_out _ c.copy_within.ensures.items
          (omega (arith, c.copy_within.ensures.len, c.copy_within.new.self.ok.0, w.bytes.ok.0));
    }

pub returns-clause-rest : goal.returns-clause-rest
returns-clause-rest c =
    let w = c.args.self.now in
    ap (λ (bs : List ℕ). slice_range bs (w.start - w.line) (w.end - w.line)) c.copy_within.ensures.items
    ∙ moved w.bytes.items w.line w.end w.start w.end (omega arith) (omega arith) (omega arith) (omega arith)
