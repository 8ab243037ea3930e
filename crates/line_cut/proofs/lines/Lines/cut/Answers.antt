use Rattle.std.proofs.Common.{◌≡◌, ℕ, ◌+◌, ◌≤◌, length, take, drop, List, [], refl, sym, ap, ◌∙◌, arith}
use Rattle.std.proofs.lemmas.List.{nil_from_length}
use Rattle.line_cut.specs.FirstLen.{first_len}
use Rattle.line_cut.specs.Buffered.{Buffered}
use Rattle.line_cut.specs.Window.{rest_in}
use Rattle.line_cut.specs.declared.limits.TheConstants.{LINE_MAX}
use Rattle.line_cut.proofs.Waiting.{ended_when_none, whole_when_short}
use Rattle.line_cut.proofs.lines.Lines.cut.Goals as goal

pub returns-then-len-eq0 : goal.returns-then-len-eq0
returns-then-len-eq0 c =
    let rest : rest_in c.self.inside.window ≡ c.args.self.now.rest = ap (λ (h : Buffered). h.rest) c.self.view_is in
    let none : c.args.self.now.rest ≡ [] = nil_from_length _ (sym (ap length rest) ∙ sym c.len.ensures ∙ c.if-len-eq0.true) in
    (refl, none, ended_when_none c.args.self.now c.requires none)

pub returns : goal.returns
returns c =
    let now = c.args.self.now in
    let rest : rest_in c.self.inside.window ≡ now.rest = ap (λ (h : Buffered). h.rest) c.self.view_is in
    let len : c.len.result ≡ length now.rest = c.len.ensures ∙ ap length rest in
    let first : c.first.result ≡ first_len now.rest = c.first.ensures ∙ ap first_len rest in
    let few : first_len now.rest ≤ LINE_MAX = omega (arith, first) in
    record {
      some = omega (arith, len);
      ends = λ going. whole_when_short now c.requires going few;
      short = few;
      line = c.cut.ensures.line ∙ ap (λ (bs : List ℕ). take (first_len bs) bs) rest;
      rest = c.cut.ensures.rest ∙ ap (λ (bs : List ℕ). drop (first_len bs + 1) bs) rest;
      same = ap (λ (h : Buffered). h.ended) c.self.view_is;
    }
