-- The text of a certificate is ASCII.
use Rattle.std.proofs.Common.{ℕ, suc, ◌^◌, ◌<◌, ◌≤◌, ◌≡◌, Bool, true, false, List, [], ◌∷◌, ◌++◌, length, refl, sym, subst, arith}
use Rattle.std.specs.Prelude.{All, ◌&&◌, nat_le, codes, decimal, ℤ, pos, negsuc, zip}
use Rattle.std.specs.List.{concat}
use Rattle.std.specs.Fmt.{signed_decimal}
use Rattle.std.proofs.lemmas.Bool.{and_parts, leb-true}
use Rattle.std.proofs.lemmas.Int.{ints}
use Rattle.std.proofs.lemmas.Fmt.{IsAscii-decimal_wide}
use Rattle.std.proofs.lemmas.List.Elements.{All-append, All-cons, All-head, All-map, All-nil, All-tail, All-weaker}
use Rattle.std.proofs.lemmas.Str.Ascii.{All-from_ascii}
use Rattle.plan_base.specs.declared.amount.TheConstants.{MAX}
use Rattle.flow_model.specs.declared.instance.Arc.{Arc}
use Rattle.flow_model.specs.declared.solve.Solved.{Solved}
use Rattle.flow_model.specs.declared.solve.Solved.TheVariants.{Flow, Cut}
use Rattle.flow_model.specs.Instance.{Net, IsGoodArc}
use Rattle.flow_model.specs.Potentials.{IsSmall}
use Rattle.flow_model.proofs.Balance.{All-zip}
use Rattle.certificate.specs.declared.limits.TheConstants.{CERT_NODES_MAX}
use Rattle.certificate.specs.declared.version.Version.{Version}
use Rattle.certificate.specs.declared.version.Version.TheVariants.{One, Two}
use Rattle.certificate.specs.Certificate.{Certificate, IsAnswerFor, IsCertificate}
use Rattle.certificate.specs.Text.{fields, text_line, head_line, kind_of, problem_line, with_direction, arc_line, arc_lines, potential_line, side_line, node_lines, end_line, certificate_lines, certificate_text}
use Rattle.certificate.proofs.Grammar.{few_arcs}
use Rattle.certificate.proofs.Loads.{All-units}

abbrev IsAsciiText : List ℕ → Type 0
IsAsciiText text = All (λ byte. byte < 128) text

-- a number whose decimal is known to be ASCII
abbrev IsShort : ℕ → Type 0
IsShort n = n < 10 ^ 64

abbrev AllShort : List ℕ → Type 0
AllShort [] = Unit {0}
AllShort (n ∷ ns) = IsShort n × AllShort ns

is_word : List ℕ → Bool
is_word [] = true
is_word (b ∷ word) = nat_le b 127 && is_word word

word_ascii : (word : List ℕ) → is_word word ≡ true → IsAsciiText word
unfolding is_word
word_ascii [] e = All-nil (λ byte. byte < 128)
word_ascii (b ∷ word) e =
    let h = and_parts _ _ e in
    let small = leb-true b 127 h.0 in
    All-cons (λ byte. byte < 128) b word (omega (arith, small)) (word_ascii word h.1)

decimal_ascii : (n : ℕ) → IsShort n → IsAsciiText (decimal n)
decimal_ascii n short = All-from_ascii (decimal n) (IsAscii-decimal_wide n short)

fields_ascii : (ns : List ℕ) → AllShort ns → IsAsciiText (fields ns)
fields_ascii [] short = All-cons (λ byte. byte < 128) 10 [] (omega arith) (All-nil (λ byte. byte < 128))
fields_ascii (n ∷ ns) short = All-cons (λ byte. byte < 128) 32 (decimal n ++ fields ns) (omega arith) (All-append (λ byte. byte < 128) (decimal n) (fields ns) (decimal_ascii n short.0) (fields_ascii ns short.1))

line_ascii : (word ns : List ℕ) → is_word word ≡ true → AllShort ns → IsAsciiText (text_line word ns)
line_ascii word ns e short = All-append (λ byte. byte < 128) word (fields ns) (word_ascii word e) (fields_ascii ns short)

concat_ascii : (lines : List (List ℕ)) → All IsAsciiText lines → IsAsciiText (concat lines)
concat_ascii [] all = All-nil (λ byte. byte < 128)
concat_ascii (line ∷ lines) all = All-append (λ byte. byte < 128) line (concat lines) (All-head IsAsciiText line lines all) (concat_ascii lines (All-tail IsAsciiText line lines all))

signed_ascii : (z : ℤ) → IsSmall z → IsAsciiText (signed_decimal z)
signed_ascii (pos n) small = decimal_ascii n (omega (arith, ints, small.1))
signed_ascii (negsuc m) small = All-cons (λ byte. byte < 128) 45 (decimal (suc m)) (omega arith) (decimal_ascii (suc m) (omega (arith, ints, small.0)))

potential_ascii : (z : ℤ) → IsSmall z → IsAsciiText (potential_line z)
unfolding potential_line is_word
potential_ascii z small = All-append (λ byte. byte < 128) (codes "potential ") (signed_decimal z ++ 10 ∷ []) (word_ascii (codes "potential ") refl) (All-append (λ byte. byte < 128) (signed_decimal z) (10 ∷ []) (signed_ascii z small) (All-cons (λ byte. byte < 128) 10 [] (omega arith) (All-nil (λ byte. byte < 128))))

side_ascii : (on : Bool) → IsAsciiText (side_line on)
unfolding side_line is_word
side_ascii true = line_ascii (codes "side") (1 ∷ []) refl (omega arith, tt)
side_ascii false = line_ascii (codes "side") (0 ∷ []) refl (omega arith, tt)

head_ascii : (version : Version) → IsAsciiText (head_line version)
unfolding head_line is_word
head_ascii One = line_ascii (codes "askrene-certificate") (1 ∷ []) refl (omega arith, tt)
head_ascii Two = line_ascii (codes "askrene-certificate") (2 ∷ []) refl (omega arith, tt)

end_ascii : IsAsciiText end_line
unfolding end_line is_word
end_ascii = line_ascii (codes "end") [] refl tt

direction_short : (version : Version) (a : Arc) (numbers : List ℕ) → a.dir < 2 ^ 32 → AllShort numbers → AllShort (with_direction version a numbers)
direction_short One a numbers small short = short
direction_short Two a numbers small short = (omega (arith, small), short)

arc_ascii : (version : Version) (nodes : ℕ) (a : Arc) (more : List ℕ) → nodes ≤ CERT_NODES_MAX → a.from < nodes → a.to < nodes → IsGoodArc a → AllShort more → IsAsciiText (arc_line version a more)
unfolding arc_line is_word
arc_ascii version nodes a more few from to good short =
    let numbers = a.from ∷ a.to ∷ a.room ∷ a.cost ∷ more in
    line_ascii (codes "arc") (with_direction version a numbers) refl
    (direction_short version a numbers good.direction (omega (arith, few, from), (omega (arith, few, to), (omega (arith, good.most_room), (omega (arith, good.most_cost), short)))))

kind_ascii : (answer : Solved) → is_word (kind_of answer) ≡ true
unfolding is_word
kind_ascii (Flow flow potentials) = refl
kind_ascii (Cut side) = refl

problem_ascii : (c : Certificate) → IsCertificate c → IsAsciiText (problem_line c.net c.answer)
unfolding problem_line
problem_ascii c good = line_ascii (kind_of c.answer) (c.net.nodes ∷ length c.net.arcs ∷ c.net.source ∷ c.net.destination ∷ c.net.demand ∷ []) (kind_ascii c.answer)
    (omega (arith, good.ranges.few_nodes), (omega (arith, few_arcs c.version (length c.net.arcs) good.ranges.few_arcs), (omega (arith, good.ranges.few_nodes, good.ranges.ends.source_in), (omega (arith, good.ranges.few_nodes, good.ranges.ends.destination_in), (omega (arith, good.ranges.most_demand), tt)))))

arcs_ascii : (version : Version) (net : Net) (answer : Solved) → IsCertificate (record { version = version; net = net; answer = answer }) → All IsAsciiText (arc_lines version net answer)
arcs_ascii version net (Flow flow potentials) c = All-map IsAsciiText (λ (l : Arc × ℕ). arc_line version l.0 (l.1 ∷ [])) (zip net.arcs flow) λ k d l.
    let from = All-zip (λ a. a.from < net.nodes) net.arcs flow c.ranges.ends.froms k d l in
    let to = All-zip (λ a. a.to < net.nodes) net.arcs flow c.ranges.ends.tos k d l in
    let units = All-units (λ n. n ≤ MAX) net.arcs flow c.answer.1 k d l in
    arc_ascii version net.nodes _ _ c.ranges.few_nodes from to (All-zip IsGoodArc net.arcs flow c.ranges.good_arcs k d l) (omega (arith, units), tt)
arcs_ascii version net (Cut side) c = All-map IsAsciiText (λ (a : Arc). arc_line version a []) net.arcs (λ k d l. arc_ascii version net.nodes _ [] c.ranges.few_nodes (c.ranges.ends.froms k d l) (c.ranges.ends.tos k d l) (c.ranges.good_arcs k d l) tt)

nodes_ascii : (net : Net) (answer : Solved) → IsAnswerFor net answer → All IsAsciiText (node_lines answer)
nodes_ascii net (Flow flow potentials) h = All-map IsAsciiText potential_line potentials (All-weaker IsSmall (λ z. IsAsciiText (potential_line z)) potential_ascii potentials h.3)
nodes_ascii net (Cut side) h = All-map IsAsciiText side_line side (λ k d l. side_ascii _)

pub text_ascii : (c : Certificate) (text : List ℕ) → text ≡ certificate_text c → IsCertificate c → All (λ byte. byte < 128) text
text_ascii c text is good =
    let answer = node_lines c.answer ++ end_line ∷ [] in
    let body = arc_lines c.version c.net c.answer ++ answer in
    let last = All-cons IsAsciiText end_line [] end_ascii (All-nil IsAsciiText) in
    let nodes = All-append IsAsciiText (node_lines c.answer) (end_line ∷ []) (nodes_ascii c.net c.answer good.answer) last in
    let arcs = All-append IsAsciiText (arc_lines c.version c.net c.answer) answer (arcs_ascii c.version c.net c.answer good) nodes in
    let problem = All-cons IsAsciiText (problem_line c.net c.answer) body (problem_ascii c good) arcs in
    subst IsAsciiText (sym is) (concat_ascii (certificate_lines c) (All-cons IsAsciiText (head_line c.version) (problem_line c.net c.answer ∷ body) (head_ascii c.version) problem))
