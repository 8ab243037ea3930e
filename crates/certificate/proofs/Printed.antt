-- What is printed is the certificate's text.
use Rattle.std.proofs.Common.{ℕ, suc, ◌+◌, ◌^◌, ◌<◌, ◌≤◌, ◌≡◌, List, [], ◌∷◌, ◌++◌, length, map, take, drop, get_or, sym, ap, ◌∙◌, arith, append_assoc}
use Rattle.std.specs.Prelude.{decimal}
use Rattle.std.specs.List.{concat}
use Rattle.std.proofs.Math.Seq.{drop-cons}
use Rattle.std.proofs.lemmas.List.{append-nil, take_more, take_all, map-append}
use Rattle.std.proofs.lemmas.List.Folds.{concat-append}
use Rattle.std.proofs.lemmas.Fmt.{length-decimal-le}
use Rattle.flow_model.specs.declared.solve.Solved.{Solved}
use Rattle.flow_model.specs.Instance.{Net, IsInstance}
use Rattle.certificate.specs.declared.limits.TheConstants.{CERT_ARCS_MAX, CERT_NODES_MAX}
use Rattle.certificate.specs.declared.version.Version.TheVariants.{Two}
use Rattle.certificate.specs.Certificate.{Certificate, IsCertificate, IsAnswerFor}
use Rattle.certificate.specs.Text.{fields, problem_line, certificate_text, arc_lines, node_lines, head_line, end_line}

pub three : (old a b c : List ℕ) → old ++ a ++ b ++ c ≡ old ++ (a ++ (b ++ c))
three old a b c = append_assoc (old ++ a) b c ∙ append_assoc old a (b ++ c)

-- one more item's text
pub one_more : {X : Type 0} (line : X → List ℕ) (xs : List X) (i : ℕ) (d : X) (old now next : List ℕ) → i < length xs → now ≡ old ++ concat (map line (take i xs)) → next ≡ now ++ line (get_or xs i d) → next ≡ old ++ concat (map line (take (i + 1) xs))
one_more line xs i d old now next l was grows =
    let x = get_or xs i d in
    let more : concat (map line (take (i + 1) xs)) ≡ concat (map line (take i xs)) ++ line x =
    ap (λ ys. concat (map line ys)) (take_more xs i d l) ∙ ap concat (map-append line (take i xs) (x ∷ [])) ∙ concat-append (map line (take i xs)) (line x ∷ []) ∙ ap (λ w. concat (map line (take i xs)) ++ w) (append-nil (line x)) in
    grows ∙ ap (λ t. t ++ line x) was ∙ append_assoc old (concat (map line (take i xs))) (line x) ∙ ap (λ t. old ++ t) (sym more)

pub all_of : {X : Type 0} (line : X → List ℕ) (xs : List X) (i : ℕ) (old now : List ℕ) → length xs ≤ i → now ≡ old ++ concat (map line (take i xs)) → now ≡ old ++ concat (map line xs)
all_of line xs i old now l was = was ∙ ap (λ ys. old ++ concat (map line ys)) (take_all i xs l)

-- one more field, before the others
pub next_field : (numbers : List ℕ) (i j : ℕ) (written : List ℕ) → i < length numbers → j ≡ i + 1 → written ≡ 32 ∷ (decimal (get_or numbers i 0) ++ fields (drop j numbers)) → written ≡ fields (drop i numbers)
next_field numbers i j written l next was =
    let one : j ≡ suc i = omega (arith, next) in
    was ∙ ap (λ k. 32 ∷ (decimal (get_or numbers i 0) ++ fields (drop k numbers))) one ∙ ap fields (sym (drop-cons numbers i 0 l))

pub short_number : (n : ℕ) → n < 2 ^ 64 → length (decimal n) ≤ 20
short_number n small = length-decimal-le 20 n (omega arith) (omega arith) small

abbrev pub printed_certificate : Net → Solved → Certificate
printed_certificate net answer = record { version = Two; net = net; answer = answer }

-- what is printed is a certificate
pub printed : (net : Net) (answer : Solved) → IsInstance net → net.nodes ≤ CERT_NODES_MAX → length net.arcs ≤ CERT_ARCS_MAX → IsAnswerFor net answer → IsCertificate (printed_certificate net answer)
printed net answer good nodes arcs fits = record {
  ranges = record {
    ends = good.ranges.ends;
    few_nodes = nodes;
    few_arcs = arcs;
    some_demand = good.ranges.some_demand;
    most_demand = good.ranges.most_demand;
    good_arcs = good.ranges.good_arcs;
  };
  directions = tt;
  answer = fits;
}

-- the pieces of a text, one after another
pub pieces : (first second arcs nodes last : List ℕ) → [] ++ first ++ second ++ arcs ++ nodes ++ last ≡ first ++ (second ++ (arcs ++ (nodes ++ last)))
pieces first second arcs nodes last = append_assoc (first ++ second ++ arcs) nodes last ∙ append_assoc (first ++ second) arcs (nodes ++ last) ∙ append_assoc first second (arcs ++ (nodes ++ last))

-- the lines of a printed text, one after another
gathered : (net : Net) (answer : Solved) → certificate_text (printed_certificate net answer) ≡ head_line Two ++ (problem_line net answer ++ (concat (arc_lines Two net answer) ++ (concat (node_lines answer) ++ end_line)))
gathered net answer = ap (λ w. head_line Two ++ (problem_line net answer ++ w)) (concat-append (arc_lines Two net answer) (node_lines answer ++ end_line ∷ []) ∙ ap (λ w. concat (arc_lines Two net answer) ++ w) (concat-append (node_lines answer) (end_line ∷ []) ∙ ap (λ w. concat (node_lines answer) ++ w) (append-nil end_line)))

-- a text that was written piece by piece
pub whole_text : (net : Net) (answer : Solved) (t1 t2 t3 t4 t5 : List ℕ) → t1 ≡ [] ++ head_line Two → t2 ≡ t1 ++ problem_line net answer → t3 ≡ t2 ++ concat (arc_lines Two net answer) → t4 ≡ t3 ++ concat (node_lines answer) → t5 ≡ t4 ++ end_line → t5 ≡ certificate_text (printed_certificate net answer)
whole_text net answer t1 t2 t3 t4 t5 a b c d e =
    e ∙ ap (λ t. t ++ end_line) (d ∙ ap (λ t. t ++ concat (node_lines answer)) (c ∙ ap (λ t. t ++ concat (arc_lines Two net answer)) (b ∙ ap (λ t. t ++ problem_line net answer) a)))
    ∙ pieces (head_line Two) (problem_line net answer) (concat (arc_lines Two net answer)) (concat (node_lines answer)) end_line
    ∙ sym (gathered net answer)
