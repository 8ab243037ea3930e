-- Each line is read if and only if the grammar has it.
use Rattle.std.proofs.Common.{ℕ, zero, suc, ◌-◌, ◌^◌, ◌<◌, ◌≤◌, ◌≡◌, Bool, List, [], ◌∷◌, ◌++◌, true, false, cond, drop, get_or, Option, Some, None, refl, sym, ap, ◌∙◌, subst, arith, append_assoc}
use Rattle.std.specs.Prelude.{◌==◌, decimal, codes, nat_lt, slice_index, ℤ, pos, negsuc, ◌-ℤ◌, option_map, option_and_then}
use Rattle.std.specs.Fmt.{signed_decimal}
use Rattle.std.proofs.lemmas.Bool.{eqb-true, eqb-false, ne_eqb, ltb-false, le-ltb}
use Rattle.std.proofs.lemmas.Option.{none-some, same_Some}
use Rattle.std.proofs.lemmas.Int.{ints}
use Rattle.std.proofs.lemmas.List.Elements.{All-nil}
use Rattle.plan_base.specs.declared.amount.TheConstants.{MAX}
use Rattle.flow_model.specs.Instance.{IsGoodArc}
use Rattle.flow_model.specs.Potentials.{IsSmall}
use Rattle.flow_model.specs.declared.limits.TheConstants.{COST_MAX, POTENTIAL_MAX}
use Rattle.certificate.specs.declared.limits.TheConstants.{CERT_ARCS_MAX, CERT_NODES_MAX, DIRECTION_MAX, POTENTIAL_DIGITS_MAX}
use Rattle.certificate.specs.declared.version.Version.{Version}
use Rattle.certificate.specs.declared.version.Version.TheVariants.{One, Two}
use Rattle.certificate.specs.Certificate.{most_arcs}
use Rattle.flow_model.specs.declared.instance.Arc.{Arc}
use Rattle.certificate.specs.declared.problem.Problem.{Problem}
use Rattle.certificate.specs.declared.problem.CertificateKind.{CertificateKind}
use Rattle.certificate.specs.declared.problem.CertificateKind.TheVariants as Kinds
use Rattle.certificate.specs.Cert.{IsGoodProblem, IsLoad}
use Rattle.certificate.specs.Text.{fields, version_number, head_line, with_direction, arc_line, potential_line, side_line, end_line}
use Rattle.certificate.specs.Reading.{version_of, read_head, read_kind, read_problem, read_units, read_direction, read_arc, read_negative, read_signed, read_potential, read_side, read_end, read_field, read_word, read_byte, read_number}
use Rattle.certificate.proofs.Chains.{cond_none, and_then_some, same_parts}
use Rattle.std.proofs.lemmas.Fmt.{decimal_is_IsNumeral_wide}
use Rattle.std.proofs.lemmas.List.{get_or_append_left}
use Rattle.std.specs.List.{starts_with}
use Rattle.std.specs.Prelude.{nat_eq, if◌then◌else◌}
use Rattle.certificate.proofs.Decimals.{own, digit_at}
use Rattle.certificate.proofs.Written.{NoDigit, digit_range, first_digit, read_number_sound, read_number_complete}
use Rattle.certificate.proofs.Words.{starts_sound, read_word_sound, read_word_complete, read_byte_sound, read_field_sound, read_field_complete, fields_step}

-- the version with this number
version_is : (n : ℕ) (version : Version) → version_of n ≡ Some version → n ≡ version_number version
version_is n version e = by (n == 1) (n == 2) refl refl e
  where
    by : (b c : Bool) → (n == 1) ≡ b → (n == 2) ≡ c → ◌≡◌ {A = Option Version} (if b then Some One else (if c then Some Two else None)) (Some version) → n ≡ version_number version
    by true c is _ f = eqb-true n 1 is ∙ ap version_number (same_Some One version f)
    by false true _ is f = eqb-true n 2 is ∙ ap version_number (same_Some Two version f)
    by false false _ _ f = absurd (none-some version f)

pub read_head_sound : (text rest : List ℕ) (version : Version) → read_head text ≡ Some (version, rest) → text ≡ head_line version ++ rest
unfolding read_head head_line
read_head_sound text rest version e =
    and_then_some _ (read_word (codes "askrene-certificate") text) _ e λ a word e1.
    and_then_some _ (read_field 2 a) _ e1 λ n field e2.
    and_then_some _ (read_byte 10 n.1) _ e2 λ b byte e3.
    and_then_some _ (version_of n.0) _ e3 λ v is e4.
    let h = same_parts v version b rest e4 in
    let number : n.0 ≡ version_number version = version_is n.0 v is ∙ ap version_number h.0 in
    let f = read_field_sound 2 a n.1 n.0 field in
    let step = fields_step n.0 [] a n.1 rest f.1 (read_byte_sound 10 n.1 b byte ∙ ap (λ r. 10 ∷ r) h.1) in
    read_word_sound (codes "askrene-certificate") text a word ∙ ap (λ r. codes "askrene-certificate" ++ r) (step ∙ ap (λ v. fields (v ∷ []) ++ rest) number) ∙ sym (append_assoc (codes "askrene-certificate") (fields (version_number version ∷ [])) rest)

pub read_head_complete : (version : Version) (rest : List ℕ) → read_head (head_line version ++ rest) ≡ Some (version, rest)
unfolding read_head head_line
read_head_complete version rest =
    rw (append_assoc (codes "askrene-certificate") (fields (version_number version ∷ [])) rest, read_word_complete (codes "askrene-certificate") (fields (version_number version ∷ []) ++ rest), read_field_complete 2 (version_number version) [] rest (small version) (omega arith)) (back version)
  where
    small : (v : Version) → version_number v ≤ 2
    small One = omega arith
    small Two = omega arith

    back : (v : Version) → option_and_then {U = Version × List ℕ} (λ w. Some (w, rest)) (version_of (version_number v)) ≡ Some (v, rest)
    back One = refl
    back Two = refl

pub read_end_sound : (text rest : List ℕ) → read_end text ≡ Some rest → text ≡ end_line ++ rest
unfolding read_end end_line
read_end_sound text rest e =
    and_then_some _ (read_word (codes "end") text) _ e λ a word e1.
    read_word_sound (codes "end") text a word ∙ ap (λ r. codes "end" ++ r) (read_byte_sound 10 a rest e1)

pub read_end_complete : (rest : List ℕ) → read_end (end_line ++ rest) ≡ Some rest
unfolding read_end end_line
read_end_complete rest = rw (read_word_complete (codes "end") (10 ∷ rest)) refl

pub read_side_sound : (text rest : List ℕ) (on : Bool) → read_side text ≡ Some (on, rest) → text ≡ side_line on ++ rest
unfolding read_side side_line
read_side_sound text rest on e =
    and_then_some _ (read_word (codes "side") text) _ e λ a word e1.
    and_then_some _ (read_field 1 a) _ e1 λ n field e2.
    and_then_some _ (read_byte 10 n.1) _ e2 λ b byte e3.
    let h = same_parts (n.0 == 1) on b rest e3 in
    let f = read_field_sound 1 a n.1 n.0 field in
    let step = fields_step n.0 [] a n.1 rest f.1 (read_byte_sound 10 n.1 b byte ∙ ap (λ r. 10 ∷ r) h.1) in
    read_word_sound (codes "side") text a word ∙ ap (λ r. codes "side" ++ r) (step ∙ ap (λ v. fields (v ∷ []) ++ rest) (bit n.0 on f.0 h.0)) ∙ sym (append_assoc (codes "side") (fields (cond on 1 0 ∷ [])) rest)
  where
    bit : (n : ℕ) (on : Bool) → n ≤ 1 → (n == 1) ≡ on → n ≡ cond on 1 0
    bit n true le e = eqb-true n 1 e
    bit n false le e = let ne = eqb-false n 1 e in omega (arith, le, ne)

pub read_side_complete : (on : Bool) (rest : List ℕ) → read_side (side_line on ++ rest) ≡ Some (on, rest)
unfolding read_side side_line
read_side_complete on rest =
    rw (append_assoc (codes "side") (fields (cond on 1 0 ∷ [])) rest, read_word_complete (codes "side") (fields (cond on 1 0 ∷ []) ++ rest), read_field_complete 1 (cond on 1 0) [] rest (small on) (omega arith)) (bit on)
  where
    small : (on : Bool) → cond on 1 0 ≤ 1
    small true = omega arith
    small false = omega arith

    bit : (on : Bool) → ◌≡◌ {A = Option (Bool × List ℕ)} (Some (cond on 1 0 == 1, rest)) (Some (on, rest))
    bit true = refl
    bit false = refl

most_potential : (n : ℕ) → n ≤ POTENTIAL_MAX → n < 10 ^ 24
most_potential n le = omega (arith, le)

minus : (n : ℕ) → 0 < n → signed_decimal (pos 0 -ℤ pos n) ≡ 45 ∷ decimal n
minus zero l = absurd (omega arith)
minus (suc n) l = let e : pos 0 -ℤ pos (suc n) ≡ negsuc n = omega (arith, ints) in ap signed_decimal e

pub read_signed_sound : (text rest : List ℕ) (z : ℤ) → read_signed text ≡ Some (z, rest) → IsSmall z × (text ≡ signed_decimal z ++ rest)
unfolding read_signed read_negative
read_signed_sound text rest z e = by (slice_index text 0 == 45) refl e
  where
    plain : (o : Option (ℕ × List ℕ)) → read_number POTENTIAL_DIGITS_MAX POTENTIAL_MAX text ≡ o → ◌≡◌ {A = Option (ℤ × List ℕ)} (option_map (λ n. (pos n.0, n.1)) o) (Some (z, rest)) → IsSmall z × (text ≡ signed_decimal z ++ rest)
    plain None _ g = absurd (none-some _ g)
    plain (Some n) number g =
        let h = same_parts (pos n.0) z n.1 rest g in
        let s = read_number_sound POTENTIAL_DIGITS_MAX POTENTIAL_MAX text n.1 n.0 (omega arith) number in
        (subst IsSmall h.0 (omega (arith, ints, s.0), omega (arith, ints, s.0)), s.1 ∙ (λ i. signed_decimal (h.0 i) ++ h.1 i))

    front : (t : List ℕ) → slice_index t 0 ≡ 45 → t ≡ 45 ∷ drop 1 t
    front [] is = absurd (omega (arith, is))
    front (c ∷ t) is = ap (λ d. d ∷ t) is

    by : (b : Bool) → (slice_index text 0 == 45) ≡ b → ◌≡◌ {A = Option (ℤ × List ℕ)} (if b then read_negative (drop 1 text) else option_map (λ n. (pos n.0, n.1)) (read_number POTENTIAL_DIGITS_MAX POTENTIAL_MAX text)) (Some (z, rest)) → IsSmall z × (text ≡ signed_decimal z ++ rest)
    by true is f =
        and_then_some _ (read_number POTENTIAL_DIGITS_MAX POTENTIAL_MAX (drop 1 text)) _ f λ n number g.
        let some = cond_none (n.0 == 0) _ _ g in
        let h = same_parts (pos 0 -ℤ pos n.0) z n.1 rest some.1 in
        let s = read_number_sound POTENTIAL_DIGITS_MAX POTENTIAL_MAX (drop 1 text) n.1 n.0 (omega arith) number in
        let positive = eqb-false n.0 0 some.0 in (
          subst IsSmall h.0 (omega (arith, ints, s.0), omega (arith, ints, s.0)),
          front text (eqb-true (slice_index text 0) 45 is) ∙ ap (λ r. 45 ∷ r) s.1 ∙ ap (λ w. w ++ n.1) (sym (minus n.0 (omega (arith, positive)))) ∙ (λ i. signed_decimal (h.0 i) ++ h.1 i),
        )
    by false is f = plain (read_number POTENTIAL_DIGITS_MAX POTENTIAL_MAX text) refl f

pub read_signed_complete : (z : ℤ) (rest : List ℕ) → IsSmall z → NoDigit rest → read_signed (signed_decimal z ++ rest) ≡ Some (z, rest)
unfolding read_signed read_negative
read_signed_complete (pos n) rest small stop =
    let few : n < 10 ^ 24 = omega (arith, ints, small.1) in
    let wide : n < 10 ^ 64 = omega (arith, few) in
    let some = (first_digit n wide).0 in
    let digit = digit_range (get_or (decimal n) 0 0) (digit_at (decimal n) 0 (own.from (decimal n) (decimal_is_IsNumeral_wide n wide).0.1) some) in
    let same = get_or_append_left (decimal n) rest 0 0 some in
    rw (
      ne_eqb (slice_index (decimal n ++ rest) 0) 45 (λ e. omega (arith, digit.0, same, e)),
      read_number_complete POTENTIAL_DIGITS_MAX POTENTIAL_MAX n rest (omega arith) (omega arith) (omega (arith, few)) few stop,
    ) refl
read_signed_complete (negsuc m) rest small stop =
    let few : suc m < 10 ^ 24 = omega (arith, ints, small.0) in
    let below : pos 0 -ℤ pos (suc m) ≡ negsuc m = omega (arith, ints) in
    rw (
      read_number_complete POTENTIAL_DIGITS_MAX POTENTIAL_MAX (suc m) rest (omega arith) (omega arith) (omega (arith, few)) few stop,
      ne_eqb (suc m) 0 (λ e. omega (arith, e)),
    ) (ap (λ z. Some (z, rest)) below)

pub read_potential_sound : (text rest : List ℕ) (z : ℤ) → read_potential text ≡ Some (z, rest) → IsSmall z × (text ≡ potential_line z ++ rest)
unfolding read_potential potential_line
read_potential_sound text rest z e =
    and_then_some _ (read_word (codes "potential ") text) _ e λ a word e1.
    and_then_some _ (read_signed a) _ e1 λ p signed e2.
    and_then_some _ (read_byte 10 p.1) _ e2 λ b byte e3.
    let h = same_parts p.0 z b rest e3 in
    let s = read_signed_sound a p.1 p.0 signed in
    let behind : p.1 ≡ 10 ∷ rest = read_byte_sound 10 p.1 b byte ∙ ap (λ r. 10 ∷ r) h.1 in (
      subst IsSmall h.0 s.0,
      read_word_sound (codes "potential ") text a word
          ∙ ap (λ r. codes "potential " ++ r) (s.1 ∙ ap (λ r. signed_decimal p.0 ++ r) behind ∙ ap (λ w. signed_decimal w ++ (10 ∷ rest)) h.0 ∙ sym (append_assoc (signed_decimal z) (10 ∷ []) rest)),
    )

pub read_potential_complete : (z : ℤ) (rest : List ℕ) → IsSmall z → read_potential (potential_line z ++ rest) ≡ Some (z, rest)
unfolding read_potential potential_line
read_potential_complete z rest small =
    rw (read_word_complete (codes "potential ") (signed_decimal z ++ 10 ∷ [] ++ rest), append_assoc (signed_decimal z) (10 ∷ []) rest, read_signed_complete z (10 ∷ rest) small refl) refl

abbrev pub kind_word : CertificateKind → List ℕ
kind_word Kinds.Flow = codes "flow"
kind_word Kinds.Cut = codes "cut"

unfoldable pub problem_fields : Problem → List ℕ
problem_fields p = fields (p.nodes ∷ p.arcs ∷ p.source ∷ p.destination ∷ p.demand ∷ [])

pub read_kind_sound : (text rest : List ℕ) (kind : CertificateKind) → read_kind text ≡ Some (kind, rest) → text ≡ kind_word kind ++ rest
unfolding read_kind
read_kind_sound text rest kind e = by (starts_with nat_eq text (codes "flow")) (starts_with nat_eq text (codes "cut")) refl refl e
  where
    by : (b c : Bool) → starts_with nat_eq text (codes "flow") ≡ b → starts_with nat_eq text (codes "cut") ≡ c → ◌≡◌ {A = Option (CertificateKind × List ℕ)} (if b then Some (Kinds.Flow, drop 4 text) else (if c then Some (Kinds.Cut, drop 3 text) else None)) (Some (kind, rest)) → text ≡ kind_word kind ++ rest
    by true c is _ f = let h = same_parts _ kind _ rest f in starts_sound (codes "flow") text is ∙ (λ i. kind_word (h.0 i) ++ h.1 i)
    by false true _ is f = let h = same_parts _ kind _ rest f in starts_sound (codes "cut") text is ∙ (λ i. kind_word (h.0 i) ++ h.1 i)
    by false false _ _ f = absurd (none-some _ f)

pub read_kind_complete : (kind : CertificateKind) (rest : List ℕ) → read_kind (kind_word kind ++ rest) ≡ Some (kind, rest)
unfolding read_kind
read_kind_complete Kinds.Flow rest = refl
read_kind_complete Kinds.Cut rest = refl

-- the source and the destination are two nodes
pub some_nodes : (p : Problem) → IsGoodProblem p → 2 ≤ p.nodes
some_nodes p good = by p.nodes p.source p.destination good.ranges.ends.source_in good.ranges.ends.destination_in good.ranges.ends.apart
  where
    by : (n s d : ℕ) → s < n → d < n → (s ≡ d → ⊥) → 2 ≤ n
    by n s d sn dn ne = omega (arith, sn, dn, ne)

pub few_arcs : (version : Version) (n : ℕ) → n ≤ most_arcs version → n ≤ CERT_ARCS_MAX
few_arcs One n le = omega (arith, le)
few_arcs Two n le = le

pub read_problem_sound : (version : Version) (text rest : List ℕ) (p : Problem) → read_problem version text ≡ Some (p, rest) → IsGoodProblem p × (p.version ≡ version) × (text ≡ problem_fields p ++ rest)
unfolding read_problem problem_fields
read_problem_sound version text rest p e =
    and_then_some _ (read_field CERT_NODES_MAX text) _ e λ n field1 e1.
    and_then_some _ (read_field (most_arcs version) n.1) _ e1 λ m field2 e2.
    and_then_some _ (read_field (n.0 - 1) m.1) _ e2 λ s field3 e3.
    and_then_some _ (read_field (n.0 - 1) s.1) _ e3 λ d field4 e4.
    and_then_some _ (read_field MAX d.1) _ e4 λ u field5 e5.
    and_then_some _ (read_byte 10 u.1) _ e5 λ b byte e6.
    let some = cond_none (nat_lt n.0 2) _ _ e6 in
    let apart = cond_none (s.0 == d.0) _ _ some.1 in
    let demand = cond_none (u.0 == 0) _ _ apart.1 in
    let h = same_parts _ p b rest demand.1 in
    let f1 = read_field_sound CERT_NODES_MAX text n.1 n.0 field1 in
    let f2 = read_field_sound (most_arcs version) n.1 m.1 m.0 field2 in
    let f3 = read_field_sound (n.0 - 1) m.1 s.1 s.0 field3 in
    let f4 = read_field_sound (n.0 - 1) s.1 d.1 d.0 field4 in
    let f5 = read_field_sound MAX d.1 u.1 u.0 field5 in
    let two = ltb-false n.0 2 some.0 in
    let none_of = eqb-false u.0 0 demand.0 in
    subst (λ q. IsGoodProblem q × (q.version ≡ version) × (text ≡ problem_fields q ++ rest)) h.0 (
      record {
        ranges = record {
          ends = record {
            source_in = omega (arith, f3.0, two);
            destination_in = omega (arith, f4.0, two);
            apart = eqb-false s.0 d.0 apart.0;
            froms = All-nil _;
            tos = All-nil _;
          };
          few_nodes = f1.0;
          few_arcs = omega arith;
          some_demand = omega (arith, none_of);
          most_demand = f5.0;
          good_arcs = All-nil _;
        };
        few_arcs = f2.0;
      },
      refl,
      fields_step n.0 (m.0 ∷ s.0 ∷ d.0 ∷ u.0 ∷ []) text n.1 rest f1.1 (fields_step m.0 (s.0 ∷ d.0 ∷ u.0 ∷ []) n.1 m.1 rest f2.1 (fields_step s.0 (d.0 ∷ u.0 ∷ []) m.1 s.1 rest f3.1 (fields_step d.0 (u.0 ∷ []) s.1 d.1 rest f4.1 (fields_step u.0 [] d.1 u.1 rest f5.1 (read_byte_sound 10 u.1 b byte ∙ ap (λ r. 10 ∷ r) h.1))))),
    )

pub read_problem_complete : (p : Problem) (rest : List ℕ) → IsGoodProblem p → read_problem p.version (problem_fields p ++ rest) ≡ Some (p, rest)
unfolding read_problem problem_fields
read_problem_complete p rest good =
    let ranges = good.ranges in
    let nodes : p.nodes - 1 < 10 ^ 19 = omega (arith, ranges.few_nodes) in
    rw (
      read_field_complete CERT_NODES_MAX p.nodes _ rest ranges.few_nodes (omega arith),
      read_field_complete (most_arcs p.version) p.arcs _ rest good.few_arcs (omega (arith, few_arcs p.version (most_arcs p.version) (omega arith))),
      read_field_complete (p.nodes - 1) p.source _ rest (omega (arith, ranges.ends.source_in)) nodes,
      read_field_complete (p.nodes - 1) p.destination _ rest (omega (arith, ranges.ends.destination_in)) nodes,
      read_field_complete MAX p.demand [] rest ranges.most_demand (omega arith),
      le-ltb p.nodes 2 (some_nodes p good),
      ne_eqb p.source p.destination ranges.ends.apart,
      ne_eqb p.demand 0 (λ e. omega (arith, ranges.some_demand, e)),
    ) refl

-- the direction of an arc on this line
abbrev pub IsDirectionAt : Version → ℕ → ℕ → Type 0
IsDirectionAt One line dir = dir ≡ line - 3
IsDirectionAt Two line dir = dir ≤ DIRECTION_MAX

-- an arc on this line, which is good but for its direction
pub record IsGoodLine (version : Version) (kind : CertificateKind) (nodes line : ℕ) (l : Arc × ℕ) : Type 0 where
  pub from_in : l.0.from ≤ nodes - 1
  pub to_in : l.0.to ≤ nodes - 1
  pub good : IsGoodArc record l.0 { dir = 0 }
  pub direction : IsDirectionAt version line l.0.dir
  pub load : IsLoad kind l

abbrev pub units_field : CertificateKind → Arc × ℕ → List ℕ
units_field Kinds.Flow l = l.1 ∷ []
units_field Kinds.Cut l = []

abbrev pub load_line : Version → CertificateKind → Arc × ℕ → List ℕ
load_line version kind l = arc_line version l.0 (units_field kind l)

read_direction_sound : (version : Version) (line : ℕ) (text after rest : List ℕ) (dir : ℕ) (a : Arc) (ns : List ℕ) → read_direction version line text ≡ Some (dir, after) → a.dir ≡ dir → after ≡ fields ns ++ rest → IsDirectionAt version line a.dir × (text ≡ fields (with_direction version a ns) ++ rest)
unfolding read_direction
read_direction_sound One line text after rest dir a ns e is behind =
    let h = same_parts (line - 3) dir text after e in
    (is ∙ sym h.0, h.1 ∙ behind)
read_direction_sound Two line text after rest dir a ns e is behind =
    let f = read_field_sound DIRECTION_MAX text after dir e in
    (omega (arith, f.0, is), fields_step a.dir ns text after rest (f.1 ∙ ap (λ n. 32 ∷ (decimal n ++ after)) (sym is)) behind)

read_direction_complete : (version : Version) (line : ℕ) (a : Arc) (ns rest : List ℕ) → IsDirectionAt version line a.dir → read_direction version line (fields (with_direction version a ns) ++ rest) ≡ Some (a.dir, fields ns ++ rest)
unfolding read_direction
read_direction_complete One line a ns rest is = ap (λ n. Some (n, fields ns ++ rest)) (sym is)
read_direction_complete Two line a ns rest is = read_field_complete DIRECTION_MAX a.dir ns rest is (omega arith)

read_units_sound : (kind : CertificateKind) (text after rest : List ℕ) (u : ℕ) (a : Arc × ℕ) → read_units kind text ≡ Some (u, after) → after ≡ 10 ∷ rest → a.1 ≡ u → IsLoad kind a × (text ≡ fields (units_field kind a) ++ rest)
unfolding read_units
read_units_sound Kinds.Flow text after rest u a e behind is =
    let f = read_field_sound MAX text after u e in
    (omega (arith, f.0, is), fields_step a.1 [] text after rest (f.1 ∙ ap (λ n. 32 ∷ (decimal n ++ after)) (sym is)) behind)
read_units_sound Kinds.Cut text after rest u a e behind is =
    let h = same_parts 0 u text after e in
    (is ∙ sym h.0, h.1 ∙ behind)

read_units_complete : (kind : CertificateKind) (a : Arc × ℕ) (rest : List ℕ) → IsLoad kind a → read_units kind (fields (units_field kind a) ++ rest) ≡ Some (a.1, 10 ∷ rest)
unfolding read_units
read_units_complete Kinds.Flow a rest load = read_field_complete MAX a.1 [] rest load (omega arith)
read_units_complete Kinds.Cut a rest load = ap (λ n. Some (n, 10 ∷ rest)) (sym load)

pub read_arc_sound : (version : Version) (kind : CertificateKind) (nodes line : ℕ) (text rest : List ℕ) (a : Arc × ℕ) → read_arc version kind nodes line text ≡ Some (a, rest) → IsGoodLine version kind nodes line a × (text ≡ load_line version kind a ++ rest)
unfolding read_arc arc_line
read_arc_sound version kind nodes line text rest a e =
    and_then_some _ (read_word (codes "arc") text) _ e λ w word e0.
    and_then_some _ (read_direction version line w) _ e0 λ v field0 e1.
    and_then_some _ (read_field (nodes - 1) v.1) _ e1 λ f field1 e2.
    and_then_some _ (read_field (nodes - 1) f.1) _ e2 λ t field2 e3.
    and_then_some _ (read_field MAX t.1) _ e3 λ r field3 e4.
    and_then_some _ (read_field COST_MAX r.1) _ e4 λ c field4 e5.
    and_then_some _ (read_units kind c.1) _ e5 λ u field5 e6.
    and_then_some _ (read_byte 10 u.1) _ e6 λ b byte e7.
    let apart = cond_none (f.0 == t.0) _ _ e7 in
    let room = cond_none (r.0 == 0) _ _ apart.1 in
    let cost = cond_none (c.0 == 0) _ _ room.1 in
    let h = same_parts _ a b rest cost.1 in
    let q : Arc × ℕ = (record { from = f.0; to = t.0; room = r.0; cost = c.0; dir = v.0 }, u.0) in
    let f1 = read_field_sound (nodes - 1) v.1 f.1 f.0 field1 in
    let f2 = read_field_sound (nodes - 1) f.1 t.1 t.0 field2 in
    let f3 = read_field_sound MAX t.1 r.1 r.0 field3 in
    let f4 = read_field_sound COST_MAX r.1 c.1 c.0 field4 in
    let f5 = read_units_sound kind c.1 u.1 rest u.0 q field5 (read_byte_sound 10 u.1 b byte ∙ ap (λ s. 10 ∷ s) h.1) refl in
    let ends = f.0 ∷ t.0 ∷ r.0 ∷ c.0 ∷ units_field kind q in
    let after = fields_step f.0 (t.0 ∷ r.0 ∷ c.0 ∷ units_field kind q) v.1 f.1 rest f1.1 (fields_step t.0 (r.0 ∷ c.0 ∷ units_field kind q) f.1 t.1 rest f2.1 (fields_step r.0 (c.0 ∷ units_field kind q) t.1 r.1 rest f3.1 (fields_step c.0 (units_field kind q) r.1 c.1 rest f4.1 f5.1))) in
    let f0 = read_direction_sound version line w v.1 rest v.0 q.0 ends field0 refl after in
    let no_room = eqb-false r.0 0 room.0 in
    let no_cost = eqb-false c.0 0 cost.0 in
    subst (λ x. IsGoodLine version kind nodes line x × (text ≡ load_line version kind x ++ rest)) h.0 (
      record {
        from_in = f1.0;
        to_in = f2.0;
        good = record {
          apart = eqb-false f.0 t.0 apart.0;
          some_room = omega (arith, no_room);
          most_room = f3.0;
          some_cost = omega (arith, no_cost);
          most_cost = omega (arith, f4.0);
          direction = omega arith;
        };
        direction = f0.0;
        load = f5.0;
      },
      read_word_sound (codes "arc") text w word ∙ ap (λ s. codes "arc" ++ s) f0.1 ∙ sym (append_assoc (codes "arc") (fields (with_direction version q.0 ends)) rest),
    )

pub read_arc_complete : (version : Version) (kind : CertificateKind) (nodes line : ℕ) (a : Arc × ℕ) (rest : List ℕ) → nodes ≤ CERT_NODES_MAX → IsGoodLine version kind nodes line a → read_arc version kind nodes line (load_line version kind a ++ rest) ≡ Some (a, rest)
unfolding read_arc arc_line
read_arc_complete version kind nodes line a rest few good =
    let ends : nodes - 1 < 10 ^ 19 = omega (arith, few) in
    let arc = good.good in
    let numbers = a.0.from ∷ a.0.to ∷ a.0.room ∷ a.0.cost ∷ units_field kind a in
    rw (
      append_assoc (codes "arc") (fields (with_direction version a.0 numbers)) rest,
      read_word_complete (codes "arc") (fields (with_direction version a.0 numbers) ++ rest),
      read_direction_complete version line a.0 numbers rest good.direction,
      read_field_complete (nodes - 1) a.0.from _ rest good.from_in ends,
      read_field_complete (nodes - 1) a.0.to _ rest good.to_in ends,
      read_field_complete MAX a.0.room _ rest arc.most_room (omega arith),
      read_field_complete COST_MAX a.0.cost _ rest (omega (arith, arc.most_cost)) (omega arith),
      read_units_complete kind a rest good.load,
      ne_eqb a.0.from a.0.to arc.apart,
      ne_eqb a.0.room 0 (λ e. omega (arith, arc.some_room, e)),
      ne_eqb a.0.cost 0 (λ e. omega (arith, arc.some_cost, e)),
    ) refl

pub good_problem : (version : Version) (text rest : List ℕ) (p : Problem) → Some (p, rest) ≡ read_problem version text → IsGoodProblem p
good_problem version text rest p e = (read_problem_sound version text rest p (sym e)).0
