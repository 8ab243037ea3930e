-- The law of printed certificates.
use Rattle.std.specs.Prelude.{◌≡◌, ℕ, List, false}
use Rattle.layer.specs.declared.ask.Ask.{Ask}
use Rattle.layer.specs.Ask.{IsGoodAsk}
use Rattle.certificate.specs.declared.verdict.Verdict.{Verdict}
use Rattle.certificate.specs.declared.verdict.Verdict.TheVariants as Verdicts
use Rattle.certificate.specs.Certificate.{Certificate, IsCertificate, flow_certificate, cut_certificate}
use Rattle.certificate.specs.Check.{verdict_of}
use Rattle.certificate.specs.Text.{certificate_text}
use Rattle.view_build.specs.View.{ViewParts, IsGoodView}
use Rattle.round_rules.specs.declared.round.Round.{Round}
use Rattle.round_rules.specs.declared.run.Outcome.{Outcome}
use Rattle.round_rules.specs.declared.run.Outcome.TheVariants.{Parts, NoFlow, OverFee, OverDelay}
use Rattle.round_rules.specs.Runs.{IsRun}
use Rattle.plan_answer.specs.RoutesReply.{is_too_large}

-- whoever reads the text as a certificate, and checks it, finds this verdict
abbrev pub IsFound : List ℕ → Verdict → Type 0
IsFound text verdict = (c : Certificate) → IsCertificate c → certificate_text c ≡ text → verdict_of c ≡ verdict

-- the certificate that is printed of the outcome passes the check
abbrev pub PassesCheck : Outcome → Type 0
PassesCheck (Parts routes fee ppm net flow potentials) = is_too_large net ≡ false → IsFound (certificate_text (flow_certificate net flow potentials)) Verdicts.Cheapest
PassesCheck (NoFlow net side) = is_too_large net ≡ false → IsFound (certificate_text (cut_certificate net side)) Verdicts.NoFlow
PassesCheck (OverFee fee) = Unit {0}
PassesCheck (OverDelay part delay) = Unit {0}

abbrev pub CertificatesPass : Type 0
CertificatesPass = (view : ViewParts) (ask : Ask) (rounds : List Round) (outcome : Outcome) → IsGoodView view → IsGoodAsk ask → IsRun view ask rounds outcome → PassesCheck outcome
