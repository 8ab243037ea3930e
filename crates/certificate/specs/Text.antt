-- The one text of a certificate, line by line.
use Rattle.std.specs.Prelude.{ℕ, List, [], ◌∷◌, ◌++◌, length, map, decimal, codes, cond, Bool, ℤ}
use Rattle.std.specs.List.{concat}
use Rattle.std.specs.Fmt.{signed_decimal}
use Rattle.certificate.specs.declared.version.Version.{Version}
use Rattle.certificate.specs.declared.version.Version.TheVariants.{One, Two}
use Rattle.flow_model.specs.declared.instance.Arc.{Arc}
use Rattle.flow_model.specs.declared.solve.Solved.{Solved}
use Rattle.flow_model.specs.declared.solve.Solved.TheVariants.{Flow, Cut}
use Rattle.flow_model.specs.Instance.{Net}
use Rattle.flow_model.specs.Flow.{loads}
use Rattle.certificate.specs.Certificate.{Certificate}

-- numbers in decimal, each after one space, and the LF
abbrev pub fields : List ℕ → List ℕ
fields [] = 10 ∷ []
fields (n ∷ ns) = 32 ∷ (decimal n ++ fields ns)

-- a line of a word and numbers
abbrev pub text_line : List ℕ → List ℕ → List ℕ
text_line word numbers = word ++ fields numbers

abbrev pub version_number : Version → ℕ
version_number One = 1
version_number Two = 2

unfoldable pub head_line : Version → List ℕ
head_line version = text_line (codes "askrene-certificate") (version_number version ∷ [])

abbrev pub kind_of : Solved → List ℕ
kind_of (Flow flow potentials) = codes "flow"
kind_of (Cut side) = codes "cut"

unfoldable pub problem_line : Net → Solved → List ℕ
problem_line net answer = text_line (kind_of answer) (net.nodes ∷ length net.arcs ∷ net.source ∷ net.destination ∷ net.demand ∷ [])

-- the numbers of an arc's line, which begin with its direction in version 2
abbrev pub with_direction : Version → Arc → List ℕ → List ℕ
with_direction One a numbers = numbers
with_direction Two a numbers = a.dir ∷ numbers

unfoldable pub arc_line : Version → Arc → List ℕ → List ℕ
arc_line version a more = text_line (codes "arc") (with_direction version a (a.from ∷ a.to ∷ a.room ∷ a.cost ∷ more))

-- an arc's line ends with its units, if there is a flow
abbrev pub arc_lines : Version → Net → Solved → List (List ℕ)
arc_lines version net (Flow flow potentials) = map (λ (l : Arc × ℕ). arc_line version l.0 (l.1 ∷ [])) (loads net flow)
arc_lines version net (Cut side) = map (λ (a : Arc). arc_line version a []) net.arcs

unfoldable pub potential_line : ℤ → List ℕ
potential_line p = codes "potential " ++ (signed_decimal p ++ 10 ∷ [])

unfoldable pub side_line : Bool → List ℕ
side_line on = text_line (codes "side") (cond on 1 0 ∷ [])

abbrev pub node_lines : Solved → List (List ℕ)
node_lines (Flow flow potentials) = map potential_line potentials
node_lines (Cut side) = map side_line side

unfoldable pub end_line : List ℕ
end_line = text_line (codes "end") []

abbrev pub certificate_lines : Certificate → List (List ℕ)
certificate_lines c = head_line c.version ∷ problem_line c.net c.answer ∷ (arc_lines c.version c.net c.answer ++ (node_lines c.answer ++ end_line ∷ []))

abbrev pub certificate_text : Certificate → List ℕ
certificate_text c = concat (certificate_lines c)
