-- The lines after the second one: those of the arcs, of the nodes, and the last.
use Rattle.std.proofs.Common.{ℕ, ◌+◌, ◌-◌, ◌≡◌, List, ◌++◌, length, map, Option, Result, Ok, refl, arith}
use Rattle.flow_model.specs.declared.instance.Arc.{Arc}
use Rattle.certificate.specs.declared.version.Version.{Version}
use Rattle.certificate.specs.declared.version.Version.TheVariants.{One, Two}
use Rattle.certificate.specs.declared.problem.Problem.{Problem}
use Rattle.certificate.specs.declared.problem.CertificateKind.{CertificateKind}
use Rattle.certificate.specs.declared.problem.CertificateKind.TheVariants as Kinds
use Rattle.certificate.specs.Reading.{read_lines, read_nodes, read_arc, then_read}
use Rattle.certificate.specs.Cert.{IsGoodProblem, IsLoad}
use Rattle.certificate.proofs.Grammar.{IsGoodLine, IsDirectionAt, load_line, some_nodes, read_arc_sound, read_arc_complete}
use Rattle.certificate.proofs.ManyLines.{Form, AreGoodFrom, fillers, length-fillers, good_fillers}
use Rattle.certificate.proofs.Parts.{IsEnd, both}
use Rattle.certificate.proofs.Nodes.{node_rest, AreNodes, nodes}

abbrev filler_direction : Version → ℕ → ℕ
filler_direction One line = line - 3
filler_direction Two line = 0

pub filler_arc : Version → ℕ → Arc × ℕ
filler_arc version line = (record { from = 0; to = 1; room = 1; cost = 1; dir = filler_direction version line }, 0)

no_load : (kind : CertificateKind) (version : Version) (line : ℕ) → IsLoad kind (filler_arc version line)
unfolding filler_arc
no_load Kinds.Flow version line = omega arith
no_load Kinds.Cut version line = refl

filler_at : (version : Version) (line : ℕ) → IsDirectionAt version line (filler_direction version line)
filler_at One line = refl
filler_at Two line = omega arith

pub filler_fits : (kind : CertificateKind) (p : Problem) (line : ℕ) → IsGoodProblem p → IsGoodLine p.version kind p.nodes line (filler_arc p.version line)
unfolding filler_arc
filler_fits kind p line good = record {
  from_in = omega arith;
  to_in = omega (arith, some_nodes p good);
  good = record { apart = λ e. omega (arith, e); some_room = omega arith; most_room = omega arith; some_cost = omega arith; most_cost = omega arith; direction = omega arith };
  direction = filler_at p.version line;
  load = no_load kind p.version line;
}

-- the form of an arc's line
abbrev pub load_form : CertificateKind → (p : Problem) → IsGoodProblem p → Form (Arc × ℕ)
load_form kind p good = record {
  read = read_arc p.version kind p.nodes;
  line = load_line p.version kind;
  Good = IsGoodLine p.version kind p.nodes;
  sound = read_arc_sound p.version kind p.nodes;
  complete = λ line a rest h. read_arc_complete p.version kind p.nodes line a rest good.ranges.few_nodes h;
  filler = filler_arc p.version;
  filler_good = λ line. filler_fits kind p line good;
}

abbrev pub body_lines : {B : Type 0} → Version → CertificateKind → (B → List ℕ) → List (Arc × ℕ) → List B → List (List ℕ)
body_lines version kind line arcs bs = map (load_line version kind) arcs ++ node_rest line bs

-- as many arcs and items of nodes as the second line says, each within the grammar at its line
abbrev pub IsBody : {B : Type 0} → CertificateKind → (ℕ → B → Type 0) → Problem → ℕ → List (Arc × ℕ) → List B → Type 0
IsBody kind Good p start arcs bs = (length arcs ≡ p.arcs) × AreGoodFrom (IsGoodLine p.version kind p.nodes) start arcs × AreNodes Good p.nodes (start + p.arcs) bs

abbrev pub read_parts : {B : Type 0} → CertificateKind → (ℕ → List ℕ → Option (B × List ℕ)) → Problem → ℕ → List ℕ → Result (List (Arc × ℕ) × List B) ℕ
read_parts kind read p start text = then_read (λ r. then_read (λ bs. Ok (r.0, bs)) (read_nodes read p.nodes (start + p.arcs) r.1)) (read_lines (read_arc p.version kind p.nodes) p.arcs start text)

pub body : {B : Type 0} (form : Form B) (kind : CertificateKind) (p : Problem) (good : IsGoodProblem p) → IsEnd (read_parts kind form.read p) (λ z. body_lines p.version kind form.line z.0 z.1) (λ start z. IsBody kind form.Good p start z.0 z.1)
body form kind p good =
    let spare = fillers form p.nodes in
    both (load_form kind p good) (λ start text. read_nodes form.read p.nodes start text) (node_rest form.line) (AreNodes form.Good p.nodes) (nodes form p.nodes) spare (λ start. (length-fillers form p.nodes start, good_fillers form p.nodes start, tt)) (λ arcs bs. (arcs, bs)) (λ z. z.0) (λ z. z.1) (λ z. refl) (λ arcs bs. refl) (λ arcs bs. refl) p.arcs
