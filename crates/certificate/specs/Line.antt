-- Which line of a text is the first that isn't in the grammar.
use Rattle.std.specs.Prelude.{ℕ, ◌-◌, ◌≤◌, ◌≡◌, ◌≢◌, List, ◌++◌, length, take}
use Rattle.std.specs.List.{concat}
use Rattle.certificate.specs.Certificate.{Certificate, IsCertificate}
use Rattle.certificate.specs.Text.{certificate_lines, certificate_text}

-- the certificate has this many lines, and the text begins with them
abbrev pub BeginsLike : Certificate → ℕ → List ℕ → Type 0
BeginsLike c lines text = (lines ≤ length (certificate_lines c)) × ((rest : List ℕ) × (text ≡ concat (take lines (certificate_lines c)) ++ rest))

-- the text is no certificate, and this is the first line, counted from 1, that no certificate has there: one begins
-- with the lines before it, and none with these and it
pub record IsFirstBadLine (text : List ℕ) (line : ℕ) : Type 0 where
  pub from_one : 1 ≤ line
  pub before : (c : Certificate) × (IsCertificate c × BeginsLike c (line - 1) text)
  pub there : (c : Certificate) → IsCertificate c → ¬ BeginsLike c line text
  pub no_certificate : (c : Certificate) → IsCertificate c → certificate_text c ≢ text
