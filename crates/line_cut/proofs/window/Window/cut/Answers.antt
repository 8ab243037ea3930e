use Rattle.std.proofs.Common.{◌+◌, ◌≤◌, take, drop, ap, ◌∙◌, arith}
use Rattle.line_cut.specs.Window.{rest_in}
use Rattle.line_cut.specs.declared.limits.TheConstants.{LINE_MAX}
use Rattle.line_cut.proofs.LayoutLemmas.{first_inside, laid_cut, rest_cut}
use Rattle.line_cut.proofs.Slices.{front_of}
use Rattle.line_cut.proofs.window.Window.cut.Goals as goal

pub invariant_of-self : goal.invariant_of-self
invariant_of-self c =
    let w = c.args.self.now in
    let few : w.first ≤ LINE_MAX = omega (arith, w.laid_out.searched, c.requires.short) in
    record {
      laid_out = laid_cut w.bytes.items w.line w.line_end w.start w.end w.first c.min-self.result c.first_len-self.result w.laid_out few
          c.min-self.ensures (rw c.deref.ensures.value at c.first_len-self.ensures.len);
    }

pub returns-clause-line : goal.returns-clause-line
returns-clause-line c =
    let w = c.args.self.now in
    front_of w.bytes.items w.start w.end w.first (first_inside w.bytes.items w.line w.line_end w.start w.end w.first w.laid_out)
    ∙ ap (λ n. take n (rest_in w)) w.laid_out.searched

pub returns-clause-rest : goal.returns-clause-rest
returns-clause-rest c =
    let w = c.args.self.now in
    rest_cut w.bytes.items w.line w.line_end w.start w.end w.first c.min-self.result w.laid_out c.min-self.ensures
    ∙ ap (λ n. drop (n + 1) (rest_in w)) w.laid_out.searched
