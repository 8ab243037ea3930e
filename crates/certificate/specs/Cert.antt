-- Serves private clauses only: the fields of a certificate in code, seen as a certificate. Each arc has its units.
use Rattle.std.specs.Prelude.{ℕ, ◌<◌, ◌≤◌, ◌≡◌, List, [], length, map, All, ℤ, pos, ◌-ℤ◌, slice_index_or}
use Rattle.certificate.specs.declared.limits.TheConstants.{CERT_NODES_MAX}
use Rattle.certificate.specs.declared.cert.Evidence.{Evidence}
use Rattle.certificate.specs.declared.cert.Evidence.TheVariants.{Potentials, Side}
use Rattle.certificate.specs.declared.problem.Problem.{Problem}
use Rattle.certificate.specs.declared.problem.CertificateKind.{CertificateKind}
use Rattle.certificate.specs.declared.problem.CertificateKind.TheVariants as Kinds
use Rattle.plan_base.specs.declared.amount.TheConstants.{MAX}
use Rattle.flow_model.specs.declared.instance.Arc.{Arc}
use Rattle.flow_model.specs.declared.solve.Solved.{Solved}
use Rattle.flow_model.specs.declared.solve.Solved.TheVariants.{Flow, Cut}
use Rattle.flow_model.specs.Instance.{Net, HasRanges}
use Rattle.flow_model.specs.Flow.{leaving, entering}
use Rattle.certificate.specs.Certificate.{Certificate, most_arcs}

abbrev pub arcs_in : List (Arc × ℕ) → List Arc
arcs_in loads = map (λ (l : Arc × ℕ). l.0) loads

abbrev pub units_in : List (Arc × ℕ) → List ℕ
units_in loads = map (λ (l : Arc × ℕ). l.1) loads

abbrev pub net_of : Problem → List (Arc × ℕ) → Net
net_of p loads = record { nodes = p.nodes; source = p.source; destination = p.destination; demand = p.demand; arcs = arcs_in loads }

abbrev pub answer_of : List (Arc × ℕ) → Evidence → Solved
answer_of loads (Potentials potentials balances) = Flow (units_in loads) potentials.items
answer_of loads (Side side) = Cut side.items

abbrev pub certificate_of : Problem → List (Arc × ℕ) → Solved → Certificate
certificate_of p loads answer = record { version = p.version; net = net_of p loads; answer = answer }

-- the numbers of the second line are in the ranges of a network, whose arcs follow
pub record IsGoodProblem (p : Problem) : Type 0 where
  pub ranges : HasRanges CERT_NODES_MAX (most_arcs p.version) (net_of p [])
  pub few_arcs : p.arcs ≤ most_arcs p.version

-- each node has the units that leave it less the units that enter it
pub record Tallies (nodes : ℕ) (balances : List ℤ) (loads : List (Arc × ℕ)) : Type 0 where
  pub long : length balances ≡ nodes
  pub each : (v : ℕ) → v < nodes → slice_index_or balances v (pos 0) ≡ pos (leaving v loads) -ℤ pos (entering v loads)

-- what an arc of a certificate carries
abbrev pub IsLoad : CertificateKind → Arc × ℕ → Type 0
IsLoad Kinds.Flow l = l.1 ≤ MAX
IsLoad Kinds.Cut l = l.1 ≡ 0

-- a flow's evidence keeps the balances of its nodes; the arcs of a cut carry no units
abbrev pub FitsLoads : ℕ → List (Arc × ℕ) → Evidence → Type 0
FitsLoads nodes loads (Potentials potentials balances) = Tallies nodes balances.items loads
FitsLoads nodes loads (Side side) = All (λ l. l.1 ≡ 0) loads
