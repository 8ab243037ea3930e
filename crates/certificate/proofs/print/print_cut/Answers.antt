use Rattle.flow_model.specs.declared.solve.Solved.TheVariants.{Cut}
use Rattle.certificate.specs.Certificate.{cut_certificate}
use Rattle.certificate.proofs.Ascii.{text_ascii}
use Rattle.certificate.proofs.Printed.{printed}
use Rattle.certificate.proofs.print.print_cut.Goals as goal

pub returns-clause-certificate : goal.returns-clause-certificate
returns-clause-certificate c = printed c.args.instance.now (Cut c.args.side.now) c.fits.ensures.bounds c.in_ok-fits.ensures.nodes c.in_ok-fits.ensures.arcs c.requires

pub returns-clause-ascii : goal.returns-clause-ascii
returns-clause-ascii c = text_ascii (cut_certificate c.args.instance.now c.args.side.now) _ c.in_ok-cut_text.ensures (printed c.args.instance.now (Cut c.args.side.now) c.fits.ensures.bounds c.in_ok-fits.ensures.nodes c.in_ok-fits.ensures.arcs c.requires)
