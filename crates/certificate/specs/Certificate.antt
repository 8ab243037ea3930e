-- What a certificate says: an instance, and a flow with potentials or a side.
use Rattle.std.specs.Prelude.{ℕ, ◌<◌, ◌≤◌, ◌≡◌, List, length, All, slice_index_or, Bool, ℤ, Option, Some, None, option_map}
use Rattle.std.specs.Borrow.{Bor}
use Rattle.plan_base.specs.declared.amount.TheConstants.{MAX}
use Rattle.certificate.specs.declared.limits.TheConstants.{CERT_ARCS_MAX, CERT_NODES_MAX, VERSION_ONE_ARCS_MAX}
use Rattle.certificate.specs.declared.version.Version.{Version}
use Rattle.certificate.specs.declared.version.Version.TheVariants.{One, Two}
use Rattle.flow_model.specs.declared.instance.Arc.{Arc}
use Rattle.flow_model.specs.declared.solve.Solved.{Solved}
use Rattle.flow_model.specs.declared.solve.Solved.TheVariants.{Flow, Cut}
use Rattle.flow_model.specs.Instance.{Net, HasRanges}
use Rattle.flow_model.specs.Potentials.{IsSmall}

pub record Certificate : Type 0 where
  pub version : Version
  pub net : Net
  pub answer : Solved

-- an answer has one item for each arc or node, flows of 0 to MAX and potentials of at most POTENTIAL_MAX in absolute value
abbrev pub IsAnswerFor : Net → Solved → Type 0
IsAnswerFor net (Flow flow potentials) = (length flow ≡ length net.arcs) × All (λ units. units ≤ MAX) flow × (length potentials ≡ net.nodes) × All IsSmall potentials
IsAnswerFor net (Cut side) = length side ≡ net.nodes

-- the most arcs of a certificate
abbrev pub most_arcs : Version → ℕ
most_arcs One = VERSION_ONE_ARCS_MAX
most_arcs Two = CERT_ARCS_MAX

-- in version 1 each arc is a direction of its own: the directions are 0, 1, 2 and so on; in version 2 an arc is of any
-- direction
abbrev pub HasDirections : Version → List Arc → Type 0
HasDirections One arcs = (i : ℕ) (d : Arc) → i < length arcs → (slice_index_or arcs i d).dir ≡ i
HasDirections Two arcs = Unit {0}

-- the ranges of a certificate's numbers
pub record IsCertificate (c : Certificate) : Type 0 where
  pub ranges : HasRanges CERT_NODES_MAX (most_arcs c.version) c.net
  pub directions : HasDirections c.version c.net.arcs
  pub answer : IsAnswerFor c.net c.answer

-- the certificate of an instance with a flow and potentials, and of one with a side
abbrev pub flow_certificate : Net → List ℕ → List ℤ → Certificate
flow_certificate net flow potentials = record { version = Two; net = net; answer = Flow flow potentials }

abbrev pub cut_certificate : Net → List Bool → Certificate
cut_certificate net side = record { version = Two; net = net; answer = Cut side }

-- the potentials, if there is a flow
abbrev pub potentials_of : Solved → Option (List ℤ)
potentials_of (Flow flow potentials) = Some potentials
potentials_of (Cut side) = None

abbrev pub potentials_view : Option (Bor (List ℤ)) → Option (List ℤ)
potentials_view r = option_map (λ p. p.now) r
