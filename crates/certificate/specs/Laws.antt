-- The laws of certificates: their texts are read back, and what shows an instance passes the check.
use Rattle.std.specs.Prelude.{◌≡◌, ℕ, ℤ, Bool, List, AllPairs}
use Rattle.flow_model.specs.Instance.{Net, IsNet, Dearer}
use Rattle.flow_model.specs.Flow.{IsFilledInOrder}
use Rattle.flow_model.specs.Potentials.{ShowsCheapest}
use Rattle.flow_model.specs.Side.{Cuts}
use Rattle.certificate.specs.declared.verdict.Verdict.TheVariants.{Cheapest, NoFlow}
use Rattle.certificate.specs.Certificate.{Certificate, IsCertificate, flow_certificate, cut_certificate}
use Rattle.certificate.specs.declared.version.Version.TheVariants.{One}
use Rattle.certificate.specs.Check.{verdict_for, verdict_of}
use Rattle.certificate.specs.Text.{certificate_text}

-- two certificates with one text are one certificate, so what reads a certificate's text gives the certificate
abbrev pub TextIsReadBack : Type 0
TextIsReadBack = (c d : Certificate) → IsCertificate c → IsCertificate d → certificate_text c ≡ certificate_text d → c ≡ d

-- the arcs of one direction get dearer: the certificate of a flow passes the check if the flow fills them in order and
-- the potentials show it
abbrev pub ShownPasses : Type 0
ShownPasses = (net : Net) (flow : List ℕ) (p : List ℤ) → IsNet net → AllPairs Dearer net.arcs → IsFilledInOrder net flow → ShowsCheapest net flow p → verdict_of (flow_certificate net flow p) ≡ Cheapest

-- the arcs of one direction get dearer: the certificate of a side passes the check if the side cuts the source off
abbrev pub CutPasses : Type 0
CutPasses = (net : Net) (side : List Bool) → AllPairs Dearer net.arcs → Cuts net side → verdict_of (cut_certificate net side) ≡ NoFlow

-- no two arcs of version 1 are of one direction: its verdict is that of the flow or the side
abbrev pub VersionOneIsUnordered : Type 0
VersionOneIsUnordered = (c : Certificate) → IsCertificate c → c.version ≡ One → verdict_of c ≡ verdict_for c.net c.answer
