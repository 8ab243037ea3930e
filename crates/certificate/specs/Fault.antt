-- The faults of reading and printing certificates.
use Rattle.std.specs.Prelude.{ℕ, ◌<◌, ◌≡◌, ◌⊎◌, length, List, Result, Ok, Err}
use Rattle.certificate.specs.declared.fault.CertFault.{CertFault}
use Rattle.certificate.specs.Certificate.{Certificate}
use Rattle.certificate.specs.Line.{IsFirstBadLine}
use Rattle.certificate.specs.declared.fault.CertFault.TheVariants as Faults
use Rattle.certificate.specs.declared.fault.CertRefusal.{CertRefusal}
use Rattle.certificate.specs.declared.fault.CertRefusal.TheVariants as Refusals
use Rattle.certificate.specs.declared.limits.TheConstants.{CERT_ARCS_MAX, CERT_NODES_MAX}
use Rattle.flow_model.specs.Instance.{Net}

-- the line at which the reading failed; out of memory says nothing
abbrev pub IsLineOf : {A : Type 0} → CertFault → Result A ℕ → Type 0
IsLineOf (Faults.Line line) read = read ≡ Err line
IsLineOf Faults.NoMemory read = Unit {0}

-- the fault names the first line that isn't in the grammar
abbrev pub IsFirstBadLineOf : List ℕ → CertFault → Type 0
IsFirstBadLineOf text (Faults.Line line) = IsFirstBadLine text line
IsFirstBadLineOf text Faults.NoMemory = Unit {0}

-- this certificate is the result, unless it ran out of memory
abbrev pub GivesBack : Certificate → Result Certificate CertFault → Type 0
GivesBack c (Ok d) = d ≡ c
GivesBack c (Err (Faults.Line line)) = ⊥
GivesBack c (Err Faults.NoMemory) = Unit {0}

-- the refusal has the instance's numbers of arcs and nodes, one of which is above its limit
abbrev pub IsTooLarge : Net → CertRefusal → Type 0
IsTooLarge net (Refusals.TooLarge arcs nodes) = (arcs ≡ length net.arcs) × (nodes ≡ net.nodes) × ((CERT_ARCS_MAX < length net.arcs) ⊎ (CERT_NODES_MAX < net.nodes))
IsTooLarge net Refusals.NoMemory = Unit {0}
