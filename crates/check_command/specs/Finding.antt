-- What a check finds of a text, the line that it writes, and how it ends.
use Rattle.std.specs.Prelude.{◌≡◌, ℕ, List, [], ◌∷◌, ◌++◌, decimal, codes, true, false}
use Rattle.certificate.specs.Certificate.{Certificate, IsCertificate}
use Rattle.certificate.specs.Text.{certificate_text}
use Rattle.certificate.specs.Line.{IsFirstBadLine}
use Rattle.certificate.specs.Check.{verdict_of, IsTrueOf}
use Rattle.certificate.specs.declared.verdict.Verdict.{Verdict}
use Rattle.certificate.specs.declared.verdict.Verdict.TheVariants.{Cheapest, NoFlow, No}
use Rattle.check_command.specs.declared.end.CheckEnd.{CheckEnd}
use Rattle.check_command.specs.declared.end.CheckEnd.TheVariants.{Shown, NotShown}
use Rattle.check_command.specs.declared.finding.Finding.{Finding}
use Rattle.check_command.specs.declared.finding.Finding.TheVariants.{Checked, Unreadable}

-- the text is a certificate's, and the verdict is that of its check, which is true of its instance
pub record IsChecked (text : List ℕ) (verdict : Verdict) : Type 0 where
  pub certificate : Certificate
  pub good : IsCertificate certificate
  pub same_text : certificate_text certificate ≡ text
  pub from_check : verdict ≡ verdict_of certificate
  pub truth : IsTrueOf certificate verdict

-- a certificate has its verdict; any other text has a first line that isn't in the grammar
abbrev pub IsFindingOf : List ℕ → Finding → Type 0
IsFindingOf text (Checked verdict) = IsChecked text verdict
IsFindingOf text (Unreadable line) = IsFirstBadLine text line

abbrev pub verdict_line : Verdict → List ℕ
verdict_line Cheapest = codes "cheapest\n"
verdict_line NoFlow = codes "no-flow\n"
verdict_line (No line) = codes "no " ++ (decimal line ++ 10 ∷ [])

abbrev pub finding_line : Finding → List ℕ
finding_line (Checked verdict) = verdict_line verdict
finding_line (Unreadable line) = codes "unreadable " ++ (decimal line ++ 10 ∷ [])

-- how a check ends that found this and wrote it
abbrev pub verdict_end : Verdict → CheckEnd
verdict_end Cheapest = Shown
verdict_end NoFlow = Shown
verdict_end (No line) = NotShown line true

abbrev pub end_of : Finding → CheckEnd
end_of (Checked verdict) = verdict_end verdict
end_of (Unreadable line) = NotShown line false
