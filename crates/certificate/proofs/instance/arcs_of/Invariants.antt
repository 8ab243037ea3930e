use Rattle.std.proofs.Common.{◌≡◌, take}
use Rattle.certificate.specs.Cert.{arcs_in}
use Rattle.certificate.proofs.instance.arcs_of.Given as goal

abbrev pub invariant-loop-load : goal.invariant-loop-load
invariant-loop-load l = l.arcs.items ≡ arcs_in (take l.load-index l.loads)
