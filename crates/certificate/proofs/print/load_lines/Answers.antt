use Rattle.std.proofs.Common.{ℕ, ◌<◌, ◌++◌, ◌∷◌, [], ◌∙◌, ap, sym, arith, length}
use Rattle.std.specs.Prelude.{zip}
use Rattle.std.proofs.lemmas.Slice.Zip.{get_or-zip, length-zip}
use Rattle.flow_model.specs.declared.instance.Arc.{Arc}
use Rattle.certificate.specs.declared.version.Version.TheVariants.{Two}
use Rattle.certificate.specs.Text as Text
use Rattle.certificate.proofs.Printed.{one_more, all_of}
use Rattle.certificate.proofs.print.load_lines.Goals as goal

pub loop-i-preserved : goal.loop-i-preserved
loop-i-preserved c =
    let none : Arc = record { from = 0; to = 0; room = 0; cost = 0; dir = 0 } in
    let arcs = c.args.arcs.now in
    let units = c.args.units.now in
    let i = c.loop-i.i in
    let within : i < length units = omega (arith, c.loop-i-test.true, c.requires) in
    let inside : i < length (zip arcs units) = omega (arith, c.loop-i-test.true, c.requires, length-zip arcs units) in
    let at = get_or-zip arcs units i (none, 0) c.loop-i-test.true within in
    one_more (λ (k : Arc × ℕ). Text.arc_line Two k.0 (k.1 ∷ [])) (zip arcs units) i (none, 0) c.args.text.now.items c.loop-i.text.items c.load_line.new.text.items inside c.loop-i.invariant (c.in_ok-load_line.ensures ∙ ap (λ (k : Arc × ℕ). c.loop-i.text.items ++ Text.arc_line Two k.0 (k.1 ∷ [])) (sym at))

pub returns : goal.returns
returns c = all_of (λ (k : Arc × ℕ). Text.arc_line Two k.0 (k.1 ∷ [])) (zip c.args.arcs.now c.args.units.now) c.loop-i.i c.args.text.now.items c.loop-i.text.items (omega (arith, c.loop-i-test.false, c.requires, length-zip c.args.arcs.now c.args.units.now)) c.loop-i.invariant
