-- Certificates in the form in which they are read: a second line, arcs with their units, and items of nodes.
use Rattle.std.proofs.Common.{ℕ, ◌+◌, ◌^◌, ◌<◌, ◌≤◌, ◌≡◌, List, [], ◌∷◌, ◌++◌, length, map, Result, Ok, Err, refl, sym, ap, ◌∙◌, subst, arith}
use Rattle.std.specs.Prelude.{zip, ℤ, Bool, codes, slice_index_or}
use Rattle.std.proofs.lemmas.List.{get_or-map, length-map}
use Rattle.std.proofs.lemmas.Slice.Zip.{get_or-zip, length-zip}
use Rattle.std.proofs.lemmas.List.Elements.{All-map, All-nil}
use Rattle.plan_base.specs.declared.amount.TheConstants.{MAX}
use Rattle.flow_model.specs.declared.instance.Arc.{Arc}
use Rattle.flow_model.specs.declared.solve.Solved.{Solved}
use Rattle.flow_model.specs.declared.solve.Solved.TheVariants.{Flow, Cut}
use Rattle.flow_model.specs.Instance.{Net, HasRanges, IsGoodArc}
use Rattle.flow_model.specs.Potentials.{IsSmall}
use Rattle.certificate.specs.declared.limits.TheConstants.{CERT_ARCS_MAX, CERT_NODES_MAX}
use Rattle.certificate.specs.declared.version.Version.{Version}
use Rattle.certificate.specs.declared.version.Version.TheVariants.{One, Two}
use Rattle.certificate.specs.declared.problem.Problem.{Problem}
use Rattle.certificate.specs.declared.problem.CertificateKind.{CertificateKind}
use Rattle.certificate.specs.declared.problem.CertificateKind.TheVariants as Kinds
use Rattle.certificate.specs.Certificate.{Certificate, HasDirections, IsCertificate, most_arcs}
use Rattle.certificate.specs.Cert.{IsGoodProblem, IsLoad, arcs_in, units_in, net_of, certificate_of}
use Rattle.certificate.specs.Text.{fields, head_line, problem_line, arc_line, potential_line, side_line, end_line, certificate_lines}
use Rattle.certificate.specs.Reading.{read_lines, read_nodes, read_arc, read_potential, read_side, read_answer, read_body, then_read}
use Rattle.certificate.proofs.Grammar.{IsDirectionAt, IsGoodLine, few_arcs, load_line, kind_word, problem_fields}
use Rattle.certificate.proofs.ManyLines.{AreGoodFrom, good_at, good_from}
use Rattle.certificate.proofs.Loads.{loads_are, arcs_back, units_back, unloaded, length-unloaded, unloaded_at, unloaded_back}
use Rattle.certificate.proofs.Bodies.{body_lines, IsBody, read_parts}

abbrev pub flow_cert : Problem → List (Arc × ℕ) → List ℤ → Certificate
flow_cert p arcs potentials = certificate_of p arcs (Flow (units_in arcs) potentials)

abbrev pub cut_cert : Problem → List (Arc × ℕ) → List Bool → Certificate
cut_cert p arcs side = certificate_of p arcs (Cut side)

-- any item of a node's side is good
abbrev pub IsAnyBool : ℕ → Bool → Type 0
IsAnyBool line b = Unit {0}

-- a small potential is good on each line
abbrev pub IsSmallAt : ℕ → ℤ → Type 0
IsSmallAt line z = IsSmall z

-- the lines

flow_arcs : (v : Version) (arcs : List (Arc × ℕ)) → map (λ (l : Arc × ℕ). arc_line v l.0 (l.1 ∷ [])) (zip (arcs_in arcs) (units_in arcs)) ≡ map (load_line v Kinds.Flow) arcs
flow_arcs v arcs = ap (map (λ (l : Arc × ℕ). arc_line v l.0 (l.1 ∷ []))) (loads_are arcs)

cut_arcs : (v : Version) (arcs : List (Arc × ℕ)) → map (λ (a : Arc). arc_line v a []) (arcs_in arcs) ≡ map (load_line v Kinds.Cut) arcs
cut_arcs v [] = refl
cut_arcs v (a ∷ arcs) = ap (λ ls. load_line v Kinds.Cut a ∷ ls) (cut_arcs v arcs)

pub flow_lines : (p : Problem) (arcs : List (Arc × ℕ)) (ps : List ℤ) → length arcs ≡ p.arcs → certificate_lines (flow_cert p arcs ps) ≡ head_line p.version ∷ (kind_word Kinds.Flow ++ problem_fields p) ∷ body_lines p.version Kinds.Flow potential_line arcs ps
unfolding problem_line problem_fields
flow_lines p arcs ps long = λ i. head_line p.version ∷ (codes "flow" ++ fields (p.nodes ∷ (length-map arcs (λ (l : Arc × ℕ). l.0) ∙ long) i ∷ p.source ∷ p.destination ∷ p.demand ∷ [])) ∷ (flow_arcs p.version arcs i ++ (map potential_line ps ++ end_line ∷ []))

pub cut_lines : (p : Problem) (arcs : List (Arc × ℕ)) (side : List Bool) → length arcs ≡ p.arcs → certificate_lines (cut_cert p arcs side) ≡ head_line p.version ∷ (kind_word Kinds.Cut ++ problem_fields p) ∷ body_lines p.version Kinds.Cut side_line arcs side
unfolding problem_line problem_fields
cut_lines p arcs side long = λ i. head_line p.version ∷ (codes "cut" ++ fields (p.nodes ∷ (length-map arcs (λ (l : Arc × ℕ). l.0) ∙ long) i ∷ p.source ∷ p.destination ∷ p.demand ∷ [])) ∷ (cut_arcs p.version arcs i ++ (map side_line side ++ end_line ∷ []))

-- the reading

joined : {B : Type 0} (p : Problem) (answer : List (Arc × ℕ) → List B → Solved) (nodes : List ℕ → Result (List B) ℕ) (o : Result (List (Arc × ℕ) × List ℕ) ℕ) → ◌≡◌ {A = Result Certificate ℕ} (then_read (λ r. then_read (λ s. Ok (certificate_of p r.0 s)) (then_read (λ bs. Ok (answer r.0 bs)) (nodes r.1))) o) (then_read (λ (q : List (Arc × ℕ) × List B). Ok (certificate_of p q.0 (answer q.0 q.1))) (then_read (λ r. then_read (λ bs. Ok (r.0, bs)) (nodes r.1)) o))
joined p answer nodes (Err line) = refl
joined {B = B} p answer nodes (Ok r) = by (nodes r.1)
  where
    by : (o : Result (List B) ℕ) → ◌≡◌ {A = Result Certificate ℕ} (then_read (λ s. Ok (certificate_of p r.0 s)) (then_read (λ bs. Ok (answer r.0 bs)) o)) (then_read (λ (q : List (Arc × ℕ) × List B). Ok (certificate_of p q.0 (answer q.0 q.1))) (then_read (λ bs. Ok (r.0, bs)) o))
    by (Ok bs) = refl
    by (Err line) = refl

pub read_flow : (p : Problem) (text : List ℕ) → read_body Kinds.Flow p text ≡ then_read (λ q. Ok (flow_cert p q.0 q.1)) (read_parts Kinds.Flow (λ _. read_potential) p 3 text)
unfolding read_body read_answer
read_flow p text = joined p (λ arcs ps. Flow (units_in arcs) ps) (read_nodes (λ _. read_potential) p.nodes (3 + p.arcs)) (read_lines (read_arc p.version Kinds.Flow p.nodes) p.arcs 3 text)

pub read_cut : (p : Problem) (text : List ℕ) → read_body Kinds.Cut p text ≡ then_read (λ q. Ok (cut_cert p q.0 q.1)) (read_parts Kinds.Cut (λ _. read_side) p 3 text)
unfolding read_body read_answer
read_cut p text = joined p (λ arcs side. Cut side) (read_nodes (λ _. read_side) p.nodes (3 + p.arcs)) (read_lines (read_arc p.version Kinds.Cut p.nodes) p.arcs 3 text)

-- what is read keeps the ranges

-- a direction on one of the lines of arcs is a number of 32 bits
small_direction : (version : Version) (k n dir : ℕ) → k < n → n ≤ CERT_ARCS_MAX → IsDirectionAt version (3 + k) dir → dir < 2 ^ 32
small_direction One k n dir l few is = omega (arith, is, l, few)
small_direction Two k n dir l few is = omega (arith, is)

module _ (kind : CertificateKind) (p : Problem) (arcs : List (Arc × ℕ)) (good : IsGoodProblem p) (long : length arcs ≡ p.arcs) (all : AreGoodFrom (IsGoodLine p.version kind p.nodes) 3 arcs) where
  line_at : (k : ℕ) (d : Arc × ℕ) → k < length arcs → IsGoodLine p.version kind p.nodes (3 + k) (slice_index_or arcs k d)
  line_at = good_at (IsGoodLine p.version kind p.nodes) 3 arcs all

  few : length arcs ≤ CERT_ARCS_MAX
  few = omega (arith, long, few_arcs p.version p.arcs good.few_arcs)

  net_ranges : HasRanges CERT_NODES_MAX (most_arcs p.version) (net_of p arcs)
  net_ranges =
      let ranges = good.ranges in record {
        ends = record {
          source_in = ranges.ends.source_in;
          destination_in = ranges.ends.destination_in;
          apart = ranges.ends.apart;
          froms = All-map (λ a. a.from < p.nodes) (λ (l : Arc × ℕ). l.0) arcs (λ k d l. omega (arith, (line_at k d l).from_in, ranges.ends.source_in));
          tos = All-map (λ a. a.to < p.nodes) (λ (l : Arc × ℕ). l.0) arcs (λ k d l. omega (arith, (line_at k d l).to_in, ranges.ends.source_in));
        };
        few_nodes = ranges.few_nodes;
        few_arcs = omega (arith, length-map arcs (λ (l : Arc × ℕ). l.0), long, good.few_arcs);
        some_demand = ranges.some_demand;
        most_demand = ranges.most_demand;
        good_arcs = All-map IsGoodArc (λ (l : Arc × ℕ). l.0) arcs (λ k d l.
            let h = line_at k d l in
            record {
              apart = h.good.apart;
              some_room = h.good.some_room;
              most_room = h.good.most_room;
              some_cost = h.good.some_cost;
              most_cost = h.good.most_cost;
              direction = small_direction p.version k (length arcs) (slice_index_or arcs k d).0.dir l few h.direction;
            });
      }

  net_directions : HasDirections p.version (arcs_in arcs)
  net_directions = by p.version (λ k d l. (line_at k d l).direction)
    where
      by : (v : Version) → ((k : ℕ) (d : Arc × ℕ) → k < length arcs → IsDirectionAt v (3 + k) (slice_index_or arcs k d).0.dir) → HasDirections v (arcs_in arcs)
      by One all = λ i d l.
          let within : i < length arcs = omega (arith, l, length-map arcs (λ (l : Arc × ℕ). l.0)) in
          let same = ap (λ (a : Arc). a.dir) (get_or-map (λ (l : Arc × ℕ). l.0) arcs i (d, 0) d within) in
          omega (arith, same, all i (d, 0) within)
      by Two all = tt

pub flow_is_certificate : (p : Problem) (arcs : List (Arc × ℕ)) (ps : List ℤ) → IsGoodProblem p → IsBody Kinds.Flow IsSmallAt p 3 arcs ps → IsCertificate (flow_cert p arcs ps)
flow_is_certificate p arcs ps good body = record {
  ranges = net_ranges Kinds.Flow p arcs good body.0 body.1;
  directions = net_directions Kinds.Flow p arcs good body.0 body.1;
  answer = (
    omega (arith, length-map arcs (λ (l : Arc × ℕ). l.0), length-map arcs (λ (l : Arc × ℕ). l.1)),
    All-map (λ n. n ≤ MAX) (λ (l : Arc × ℕ). l.1) arcs (λ k d l. (line_at Kinds.Flow p arcs good body.0 body.1 k d l).load),
    body.2.0,
    good_at IsSmallAt (3 + p.arcs) ps body.2.1,
  );
}

pub cut_is_certificate : (p : Problem) (arcs : List (Arc × ℕ)) (side : List Bool) → IsGoodProblem p → IsBody Kinds.Cut IsAnyBool p 3 arcs side → IsCertificate (cut_cert p arcs side)
cut_is_certificate p arcs side good body = record {
  ranges = net_ranges Kinds.Cut p arcs good body.0 body.1;
  directions = net_directions Kinds.Cut p arcs good body.0 body.1;
  answer = body.2.0;
}

-- any certificate has this form

abbrev problem_of : Version → Net → Problem
problem_of version net = record { version = version; nodes = net.nodes; arcs = length net.arcs; source = net.source; destination = net.destination; demand = net.demand }

good_problem : (version : Version) (net : Net) (answer : Solved) → IsCertificate (record { version = version; net = net; answer = answer }) → IsGoodProblem (problem_of version net)
good_problem version net answer c =
    let ranges = c.ranges in record {
      ranges = record {
        ends = record { source_in = ranges.ends.source_in; destination_in = ranges.ends.destination_in; apart = ranges.ends.apart; froms = All-nil _; tos = All-nil _ };
        few_nodes = ranges.few_nodes;
        few_arcs = omega arith;
        some_demand = ranges.some_demand;
        most_demand = ranges.most_demand;
        good_arcs = All-nil _;
      };
      few_arcs = ranges.few_arcs;
    }

-- an arc of a certificate is good at its line
direction_at : (version : Version) (arcs : List Arc) (k : ℕ) (d : Arc) → HasDirections version arcs → k < length arcs → (slice_index_or arcs k d).dir < 2 ^ 32 → IsDirectionAt version (3 + k) (slice_index_or arcs k d).dir
direction_at One arcs k d has l small = let h = has k d l in omega (arith, h)
direction_at Two arcs k d has l small = omega (arith, small)

record IsArcAt (version : Version) (net : Net) (k : ℕ) (a : Arc) : Type 0 where
  from : a.from < net.nodes
  to : a.to < net.nodes
  good : IsGoodArc a
  direction : IsDirectionAt version (3 + k) a.dir

arc_at : (version : Version) (net : Net) (answer : Solved) → IsCertificate (record { version = version; net = net; answer = answer }) → (k : ℕ) (d : Arc) → k < length net.arcs → IsArcAt version net k (slice_index_or net.arcs k d)
arc_at version net answer c k d l = record {
  from = c.ranges.ends.froms k d l;
  to = c.ranges.ends.tos k d l;
  good = c.ranges.good_arcs k d l;
  direction = direction_at version net.arcs k d c.directions l (c.ranges.good_arcs k d l).direction;
}

good_line : (version : Version) (kind : CertificateKind) (net : Net) (k : ℕ) (l : Arc × ℕ) → IsArcAt version net k l.0 → IsLoad kind l → IsGoodLine version kind net.nodes (3 + k) l
good_line version kind net k l arc load = record {
  from_in = omega (arith, arc.from);
  to_in = omega (arith, arc.to);
  good = record { apart = arc.good.apart; some_room = arc.good.some_room; most_room = arc.good.most_room; some_cost = arc.good.some_cost; most_cost = arc.good.most_cost; direction = omega arith };
  direction = arc.direction;
  load = load;
}

-- such a certificate's parts
pub record IsFlowForm (version : Version) (net : Net) (flow : List ℕ) (ps : List ℤ) (p : Problem) (arcs : List (Arc × ℕ)) : Type 0 where
  pub good : IsGoodProblem p
  pub body : IsBody Kinds.Flow IsSmallAt p 3 arcs ps
  pub same : flow_cert p arcs ps ≡ record { version = version; net = net; answer = Flow flow ps }

pub flow_form : (version : Version) (net : Net) (flow : List ℕ) (ps : List ℤ) → IsCertificate (record { version = version; net = net; answer = Flow flow ps }) → (p : Problem) × (arcs : List (Arc × ℕ)) × IsFlowForm version net flow ps p arcs
flow_form version net flow ps c =
    let long = c.answer.0 in (
      problem_of version net,
      zip net.arcs flow,
      record {
        good = good_problem version net (Flow flow ps) c;
        body = (
          (omega (arith, length-zip net.arcs flow, long)),
          good_from (IsGoodLine version Kinds.Flow net.nodes) 3 (zip net.arcs flow) (λ k d l.
              let within : k < length net.arcs = omega (arith, l, length-zip net.arcs flow, long) in
              let units : k < length flow = omega (arith, within, long) in
              subst (IsGoodLine version Kinds.Flow net.nodes (3 + k)) (sym (get_or-zip net.arcs flow k d within units)) (good_line version Kinds.Flow net k _ (arc_at version net (Flow flow ps) c k d.0 within) (c.answer.1 k d.1 units))),
          (c.answer.2, good_from IsSmallAt (3 + length net.arcs) ps c.answer.3, tt),
        );
        same = λ i. record { version = version; net = record net { arcs = arcs_back net.arcs flow long i }; answer = Flow (units_back net.arcs flow long i) ps };
      },
    )

pub record IsCutForm (version : Version) (net : Net) (side : List Bool) (p : Problem) (arcs : List (Arc × ℕ)) : Type 0 where
  pub good : IsGoodProblem p
  pub body : IsBody Kinds.Cut IsAnyBool p 3 arcs side
  pub same : cut_cert p arcs side ≡ record { version = version; net = net; answer = Cut side }

pub cut_form : (version : Version) (net : Net) (side : List Bool) → IsCertificate (record { version = version; net = net; answer = Cut side }) → (p : Problem) × (arcs : List (Arc × ℕ)) × IsCutForm version net side p arcs
cut_form version net side c = (
  problem_of version net,
  unloaded net.arcs,
  record {
    good = good_problem version net (Cut side) c;
    body = (
      length-unloaded net.arcs,
      good_from (IsGoodLine version Kinds.Cut net.nodes) 3 (unloaded net.arcs) (λ k d l.
          let within : k < length net.arcs = omega (arith, l, length-unloaded net.arcs) in
          subst (IsGoodLine version Kinds.Cut net.nodes (3 + k)) (sym (unloaded_at net.arcs k d within)) (good_line version Kinds.Cut net k _ (arc_at version net (Cut side) c k d.0 within) refl)),
      (c.answer, good_from IsAnyBool (3 + length net.arcs) side (λ k d l. tt), tt),
    );
    same = λ i. record { version = version; net = record net { arcs = unloaded_back net.arcs i }; answer = Cut side };
  },
)
