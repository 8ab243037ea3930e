use Rattle.std.proofs.Common.{◌∙◌, ap}
use Rattle.flow_model.specs.declared.solve.Solved.TheVariants.{Flow}
use Rattle.certificate.specs.Certificate.{flow_certificate}
use Rattle.certificate.specs.Text.{certificate_text}
use Rattle.certificate.proofs.Ascii.{text_ascii}
use Rattle.certificate.proofs.Printed.{printed}
use Rattle.certificate.proofs.print.print_flow.Goals as goal

pub returns-clause-certificate : goal.returns-clause-certificate
returns-clause-certificate c = printed c.args.instance.now (Flow c.args.flow.now c.args.potentials.now) c.fits.ensures.bounds c.in_ok-fits.ensures.nodes c.in_ok-fits.ensures.arcs (c.requires.arcs, c.requires.units, c.requires.nodes, c.requires.small)

pub returns-clause-ascii : goal.returns-clause-ascii
returns-clause-ascii c = text_ascii (flow_certificate c.args.instance.now c.args.flow.now c.args.potentials.now) _ (c.in_ok-flow_text.ensures ∙ ap (λ f. certificate_text (flow_certificate c.args.instance.now f c.args.potentials.now)) c.list.ensures) (printed c.args.instance.now (Flow c.args.flow.now c.args.potentials.now) c.fits.ensures.bounds c.in_ok-fits.ensures.nodes c.in_ok-fits.ensures.arcs (c.requires.arcs, c.requires.units, c.requires.nodes, c.requires.small))
