-- The problem that is read, and the certificate that is written; these words serve private clauses only.
use Rattle.std.specs.Prelude.{◌≡◌, ℕ, List}
use Rattle.flow_model.specs.declared.solve.Solved.{Solved}
use Rattle.flow_model.specs.Instance.{Net}
use Rattle.certificate.specs.declared.version.Version.TheVariants.{Two}
use Rattle.certificate.specs.Certificate.{Certificate, IsCertificate}
use Rattle.certificate.specs.Text.{certificate_text}

-- the text is that of a certificate of this problem
abbrev pub IsProblemOf : List ℕ → Net → Type 0
IsProblemOf text net = (c : Certificate) × IsCertificate c × (certificate_text c ≡ text) × (c.net ≡ net)

-- the certificate of a problem with its solution
abbrev pub solution_certificate : Net → Solved → Certificate
solution_certificate net solved = record { version = Two; net = net; answer = solved }
