-- Whole texts: what is read is the one certificate with that text, and a fault is the first line that is in none.
use Rattle.std.proofs.Common.{ℕ, zero, suc, ◌+◌, ◌-◌, ◌<◌, ◌≤◌, ◌≡◌, List, [], ◌∷◌, ◌++◌, length, take, Result, Ok, Err, refl, sym, ap, ◌∙◌, subst, arith, append_assoc}
use Rattle.std.specs.Prelude.{ℤ, Bool, All, pos, false}
use Rattle.std.specs.List.{concat}
use Rattle.std.proofs.lemmas.List.{append-nil}
use Rattle.flow_model.specs.declared.solve.Solved.{Solved}
use Rattle.flow_model.specs.declared.solve.Solved.TheVariants.{Flow, Cut}
use Rattle.flow_model.specs.Instance.{Net}
use Rattle.flow_model.specs.Potentials.{IsSmall}
use Rattle.std.proofs.lemmas.List.Elements.{All-nil}
use Rattle.std.proofs.lemmas.Int.{ints}
use Rattle.flow_model.specs.declared.instance.Arc.{Arc}
use Rattle.certificate.specs.declared.version.Version.{Version}
use Rattle.certificate.specs.declared.version.Version.TheVariants.{Two}
use Rattle.certificate.specs.declared.problem.Problem.{Problem}
use Rattle.certificate.specs.declared.problem.CertificateKind.{CertificateKind}
use Rattle.certificate.specs.declared.problem.CertificateKind.TheVariants as Kinds
use Rattle.certificate.specs.Certificate.{Certificate, IsCertificate}
use Rattle.certificate.specs.Text.{head_line, potential_line, side_line, certificate_lines, certificate_text}
use Rattle.certificate.specs.Line.{BeginsLike, IsFirstBadLine}
use Rattle.certificate.specs.Laws.{TextIsReadBack}
use Rattle.certificate.specs.Reading.{read_text, read_head, read_kind, read_problem, read_body, read_potential, read_side, read_lines, read_arc, read_answer, then_read, or_line}
use Rattle.certificate.specs.Cert.{IsGoodProblem, IsLoad, certificate_of}
use Rattle.certificate.proofs.Outcomes.{ok-err, same_Ok, then_ok, then_err, or_line_ok, or_line_err}
use Rattle.certificate.proofs.Grammar.{IsGoodLine, kind_word, problem_fields, read_head_sound, read_head_complete, read_kind_sound, read_kind_complete, read_problem_sound, read_problem_complete, read_potential_sound, read_potential_complete, read_side_sound, read_side_complete}
use Rattle.certificate.proofs.ManyLines.{Form, good_at, lines_sound}
use Rattle.certificate.proofs.Bodies.{load_form, body_lines, IsBody, read_parts, body}
use Rattle.certificate.proofs.Shapes.{flow_cert, cut_cert, IsAnyBool, IsSmallAt, flow_lines, cut_lines, read_flow, read_cut, flow_is_certificate, cut_is_certificate, flow_form, cut_form}

abbrev behind_head : CertificateKind → Problem → List ℕ → List ℕ
behind_head kind p text = kind_word kind ++ (problem_fields p ++ text)

-- the reading after the first line, and after the word of the second
abbrev third_of : Version → CertificateKind × List ℕ → Result Certificate ℕ
third_of version k = then_read (λ (q : Problem × List ℕ). read_body k.0 q.0 q.1) (or_line 2 (read_problem version k.1))

abbrev second_of : Version × List ℕ → Result Certificate ℕ
second_of head = then_read (third_of head.0) (or_line 2 (read_kind head.1))

-- the first two lines are read
front_read : (kind : CertificateKind) (p : Problem) (text : List ℕ) → IsGoodProblem p → read_text (head_line p.version ++ behind_head kind p text) ≡ read_body kind p text
unfolding read_text
front_read kind p text good =
    let third = third_of p.version in
    ap (λ o. then_read second_of (or_line 1 o)) (read_head_complete p.version (behind_head kind p text))
    ∙ ap (λ o. then_read third (or_line 2 o)) (read_kind_complete kind (problem_fields p ++ text))
    ∙ ap (λ o. then_read (λ (q : Problem × List ℕ). read_body kind q.0 q.1) (or_line 2 o)) (read_problem_complete p text good)

-- certificates of one kind, with items of one form for each node
record Shape {B : Type 0} (form : Form B) (kind : CertificateKind) : Type 0 where
  make : Problem → List (Arc × ℕ) → List B → Certificate
  lines : (p : Problem) (arcs : List (Arc × ℕ)) (bs : List B) → length arcs ≡ p.arcs → certificate_lines (make p arcs bs) ≡ head_line p.version ∷ (kind_word kind ++ problem_fields p) ∷ body_lines p.version kind form.line arcs bs
  reads : (p : Problem) (text : List ℕ) → read_body kind p text ≡ then_read (λ q. Ok (make p q.0 q.1)) (read_parts kind form.read p 3 text)
  certifies : (p : Problem) (arcs : List (Arc × ℕ)) (bs : List B) → IsGoodProblem p → IsBody kind form.Good p 3 arcs bs → IsCertificate (make p arcs bs)

module _ {B : Type 0} (form : Form B) (kind : CertificateKind) (shape : Shape form kind) where
  -- the first lines of such a certificate
  first_lines : (p : Problem) (arcs : List (Arc × ℕ)) (bs : List B) (k : ℕ) → length arcs ≡ p.arcs → concat (take (2 + k) (certificate_lines (shape.make p arcs bs))) ≡ head_line p.version ++ behind_head kind p (concat (take k (body_lines p.version kind form.line arcs bs)))
  first_lines p arcs bs k long =
      let n : 2 + k ≡ suc (suc k) = omega arith in
      let body = take k (body_lines p.version kind form.line arcs bs) in
      ap (λ ls. concat (take (2 + k) ls)) (shape.lines p arcs bs long)
      ∙ ap (λ j. concat (take j (head_line p.version ∷ (kind_word kind ++ problem_fields p) ∷ body_lines p.version kind form.line arcs bs))) n
      ∙ ap (λ w. head_line p.version ++ w) (append_assoc (kind_word kind) (problem_fields p) (concat body))

  length-lines : (p : Problem) (arcs : List (Arc × ℕ)) (bs : List B) → length arcs ≡ p.arcs → length (certificate_lines (shape.make p arcs bs)) ≡ 2 + length (body_lines p.version kind form.line arcs bs)
  length-lines p arcs bs long = ap length (shape.lines p arcs bs long) ∙ omega arith

  -- the text of such a certificate
  whole : (p : Problem) (arcs : List (Arc × ℕ)) (bs : List B) → length arcs ≡ p.arcs → certificate_text (shape.make p arcs bs) ≡ head_line p.version ++ behind_head kind p (concat (body_lines p.version kind form.line arcs bs))
  whole p arcs bs long = ap concat (shape.lines p arcs bs long) ∙ ap (λ w. head_line p.version ++ w) (append_assoc (kind_word kind) (problem_fields p) (concat (body_lines p.version kind form.line arcs bs)))

  form_complete : (p : Problem) (arcs : List (Arc × ℕ)) (bs : List B) → IsGoodProblem p → IsBody kind form.Good p 3 arcs bs → read_text (certificate_text (shape.make p arcs bs)) ≡ Ok (shape.make p arcs bs)
  form_complete p arcs bs good is =
      ap read_text (whole p arcs bs is.0)
      ∙ front_read kind p (concat (body_lines p.version kind form.line arcs bs)) good
      ∙ shape.reads p (concat (body_lines p.version kind form.line arcs bs))
      ∙ ap (then_read (λ q. Ok (shape.make p q.0 q.1))) ((body form kind p good).complete 3 (arcs, bs) is)

  form_sound : (p : Problem) (text : List ℕ) (c : Certificate) → IsGoodProblem p → read_body kind p text ≡ Ok c → IsCertificate c × (certificate_text c ≡ head_line p.version ++ behind_head kind p text)
  form_sound p text c good e =
      then_ok (λ q. Ok (shape.make p q.0 q.1)) (read_parts kind form.read p 3 text) c (sym (shape.reads p text) ∙ e) λ q were f.
      let same = same_Ok (shape.make p q.0 q.1) c f in
      let h = (body form kind p good).sound 3 text q were in
      subst (λ d. IsCertificate d × (certificate_text d ≡ head_line p.version ++ behind_head kind p text)) same
      (shape.certifies p q.0 q.1 good h.0, whole p q.0 q.1 h.0.0 ∙ ap (λ t. head_line p.version ++ behind_head kind p t) (sym h.1))

  form_failed : (p : Problem) (text : List ℕ) (m : ℕ) → IsGoodProblem p → read_body kind p text ≡ Err m → (3 ≤ m) × ((c : Certificate) × (IsCertificate c × BeginsLike c (m - 1) (head_line p.version ++ behind_head kind p text)))
  form_failed p text m good e =
      then_err (λ q. Ok (shape.make p q.0 q.1)) (read_parts kind form.read p 3 text) m (sym (shape.reads p text) ∙ e)
      (λ here.
      let (z, k, after, is, few, stands, place) = (body form kind p good).failed 3 m text here in
      let (arcs, bs) = z in
      let at : m - 1 ≡ 2 + k = omega (arith, place) in
      let c = shape.make p arcs bs in
      let front = concat (take k (body_lines p.version kind form.line arcs bs)) in
      let begins : head_line p.version ++ behind_head kind p text ≡ concat (take (2 + k) (certificate_lines c)) ++ after =
      ap (λ t. head_line p.version ++ behind_head kind p t) stands
      ∙ spread kind p front after
      ∙ ap (λ w. w ++ after) (sym (first_lines p arcs bs k is.0)) in (
        (omega (arith, place)),
        (
          c,
          (
            shape.certifies p arcs bs good is,
            subst (λ j. BeginsLike c j (head_line p.version ++ behind_head kind p text)) (sym at)
                (omega (arith, few, length-lines p arcs bs is.0), (after, begins)),
          ),
        ),
      ))
      (λ q were f. absurd (ok-err (shape.make p q.0 q.1) m f))
    where
      spread : (k : CertificateKind) (p : Problem) (front after : List ℕ) → head_line p.version ++ behind_head k p (front ++ after) ≡ head_line p.version ++ behind_head k p front ++ after
      spread k p front after =
          ap (λ w. head_line p.version ++ (kind_word k ++ w)) (sym (append_assoc (problem_fields p) front after))
          ∙ ap (λ w. head_line p.version ++ w) (sym (append_assoc (kind_word k) (problem_fields p ++ front) after))
          ∙ sym (append_assoc (head_line p.version) (behind_head k p front) after)

zero_small : IsSmall (pos 0)
zero_small = (omega (arith, ints), omega (arith, ints))

abbrev potential_form : Form ℤ
potential_form = record { read = λ _. read_potential; line = potential_line; Good = IsSmallAt; sound = λ _. read_potential_sound; complete = λ _. read_potential_complete; filler = λ _. pos 0; filler_good = λ _. zero_small }

abbrev side_form : Form Bool
side_form = record { read = λ _. read_side; line = side_line; Good = IsAnyBool; sound = λ _ text rest b e. (tt, read_side_sound text rest b e); complete = λ _ b rest _. read_side_complete b rest; filler = λ _. false; filler_good = λ _. tt }

abbrev flow_shape : Shape potential_form Kinds.Flow
flow_shape = record { make = flow_cert; lines = flow_lines; reads = read_flow; certifies = flow_is_certificate }

abbrev cut_shape : Shape side_form Kinds.Cut
cut_shape = record { make = cut_cert; lines = cut_lines; reads = read_cut; certifies = cut_is_certificate }

-- a body that isn't read
body_failed_at : (kind : CertificateKind) (p : Problem) (text : List ℕ) (m : ℕ) → IsGoodProblem p → read_body kind p text ≡ Err m → (3 ≤ m) × ((c : Certificate) × (IsCertificate c × BeginsLike c (m - 1) (head_line p.version ++ behind_head kind p text)))
body_failed_at Kinds.Flow = form_failed potential_form Kinds.Flow flow_shape
body_failed_at Kinds.Cut = form_failed side_form Kinds.Cut cut_shape

body_sound_at : (kind : CertificateKind) (p : Problem) (text : List ℕ) (c : Certificate) → IsGoodProblem p → read_body kind p text ≡ Ok c → IsCertificate c × (certificate_text c ≡ head_line p.version ++ behind_head kind p text)
body_sound_at Kinds.Flow = form_sound potential_form Kinds.Flow flow_shape
body_sound_at Kinds.Cut = form_sound side_form Kinds.Cut cut_shape

-- the arcs that were read, and the certificate that they and the answer make
pub record AreRead (kind : CertificateKind) (p : Problem) (arcs : List (Arc × ℕ)) : Type 0 where
  pub long : length arcs ≡ p.arcs
  pub froms : All (λ (l : Arc × ℕ). l.0.from < p.nodes) arcs
  pub tos : All (λ (l : Arc × ℕ). l.0.to < p.nodes) arcs
  pub units : All (IsLoad kind) arcs

pub arcs_read : (kind : CertificateKind) (p : Problem) (text rest : List ℕ) (arcs : List (Arc × ℕ)) → IsGoodProblem p → read_lines (read_arc p.version kind p.nodes) p.arcs 3 text ≡ Ok (arcs, rest) → AreRead kind p arcs
arcs_read kind p text rest arcs good e =
    let h = lines_sound (load_form kind p good) p.arcs 3 text rest arcs e in
    let line = good_at (IsGoodLine p.version kind p.nodes) 3 arcs h.1 in
    record {
      long = h.0;
      froms = λ k d l. omega (arith, (line k d l).from_in, good.ranges.ends.source_in);
      tos = λ k d l. omega (arith, (line k d l).to_in, good.ranges.ends.source_in);
      units = λ k d l. (line k d l).load;
    }

pub body_read : (kind : CertificateKind) (p : Problem) (text rest : List ℕ) (arcs : List (Arc × ℕ)) (answer : Solved) → IsGoodProblem p → read_lines (read_arc p.version kind p.nodes) p.arcs 3 text ≡ Ok (arcs, rest) → read_answer kind p.nodes arcs (3 + p.arcs) rest ≡ Ok answer → IsCertificate (certificate_of p arcs answer)
unfolding read_body
body_read kind p text rest arcs answer good lines nodes =
    (body_sound_at kind p text (certificate_of p arcs answer) good
    (ap (then_read (λ (r : List (Arc × ℕ) × List ℕ). then_read (λ s. Ok (certificate_of p r.0 s)) (read_answer kind p.nodes r.0 (3 + p.arcs) r.1))) lines
    ∙ ap (then_read (λ s. Ok (certificate_of p arcs s))) nodes)).0

-- what was read before a body that isn't
pub record Begun (text : List ℕ) : Type 0 where
  pub kind : CertificateKind
  pub p : Problem
  pub rest : List ℕ
  pub good : IsGoodProblem p
  pub stands : text ≡ head_line p.version ++ behind_head kind p rest

-- what a failure of the whole text is: at the first line, at the second, or after them
failed_where : {P : Type 0} (text : List ℕ) (m : ℕ) → read_text text ≡ Err m → (m ≡ 1 → P) → ((version : Version) (rest : List ℕ) → text ≡ head_line version ++ rest → m ≡ 2 → P) → ((b : Begun text) → read_body b.kind b.p b.rest ≡ Err m → P) → P
unfolding read_text
failed_where text m e first second behind =
    then_err second_of (or_line 1 (read_head text)) m e
    (λ here. first (or_line_err 1 m (read_head text) here).1)
    (λ v was e1.
    let head = read_head_sound text v.1 v.0 (or_line_ok 1 (read_head text) v was) in
    then_err (third_of v.0) (or_line 2 (read_kind v.1)) m e1
    (λ here. second v.0 v.1 head (or_line_err 2 m (read_kind v.1) here).1)
    (λ k word e2.
    then_err (λ (q : Problem × List ℕ). read_body k.0 q.0 q.1) (or_line 2 (read_problem v.0 k.1)) m e2
    (λ here. second v.0 v.1 head (or_line_err 2 m (read_problem v.0 k.1) here).1)
    (λ q numbers e3.
    let h = read_problem_sound v.0 k.1 q.1 q.0 (or_line_ok 2 (read_problem v.0 k.1) q numbers) in
    behind record {
      kind = k.0;
      p = q.0;
      rest = q.1;
      good = h.0;
      stands = head ∙ ap (λ w. head_line v.0 ++ w) (read_kind_sound v.1 k.1 k.0 (or_line_ok 2 (read_kind v.1) k word) ∙ ap (λ w. kind_word k.0 ++ w) h.2) ∙ ap (λ w. head_line w ++ behind_head k.0 q.0 q.1) (sym h.1);
    } e3)))

err_some : (text : List ℕ) (m : ℕ) → read_text text ≡ Err m → 1 ≤ m
err_some text m e = failed_where text m e (λ one. omega (arith, one)) (λ version rest head two. omega (arith, two)) (λ b body. omega (arith, (body_failed_at b.kind b.p b.rest m b.good body).0))

err_behind_head : (version : Version) (text : List ℕ) (m : ℕ) → read_text (head_line version ++ text) ≡ Err m → 2 ≤ m
unfolding read_text
err_behind_head version text m e =
    let second : second_of (version, text) ≡ Err m = sym (ap (λ o. then_read second_of (or_line 1 o)) (read_head_complete version text)) ∙ e in
    then_err (third_of version) (or_line 2 (read_kind text)) m second
    (λ here. omega (arith, (or_line_err 2 m (read_kind text) here).1))
    (λ k word e2.
    then_err (λ (q : Problem × List ℕ). read_body k.0 q.0 q.1) (or_line 2 (read_problem version k.1)) m e2
    (λ here. omega (arith, (or_line_err 2 m (read_problem version k.1) here).1))
    (λ q numbers e3. omega (arith, (body_failed_at k.0 q.0 q.1 m (read_problem_sound version k.1 q.1 q.0 (or_line_ok 2 (read_problem version k.1) q numbers)).0 e3).0)))

module _ {B : Type 0} (form : Form B) (kind : CertificateKind) (shape : Shape form kind) where
  -- no failure is within the first lines of such a certificate
  form_later : (p : Problem) (arcs : List (Arc × ℕ)) (bs : List B) (n m : ℕ) (text : List ℕ) → IsGoodProblem p → IsBody kind form.Good p 3 arcs bs → BeginsLike (shape.make p arcs bs) n text → read_text text ≡ Err m → n < m
  form_later p arcs bs zero m text good is begins e = omega (arith, err_some text m e)
  form_later p arcs bs (suc zero) m text good is begins e =
      let (few, (after, stands)) = begins in
      let one : concat (take 1 (certificate_lines (shape.make p arcs bs))) ≡ head_line p.version = ap (λ ls. concat (take 1 ls)) (shape.lines p arcs bs is.0) ∙ append-nil (head_line p.version) in
      let h = err_behind_head p.version after m (ap read_text (sym (stands ∙ ap (λ w. w ++ after) one)) ∙ e) in
      omega (arith, h)
  form_later p arcs bs (suc (suc k)) m text good is begins e =
      let (few, (after, stands)) = begins in
      let n : suc (suc k) ≡ 2 + k = omega arith in
      let front = concat (take k (body_lines p.version kind form.line arcs bs)) in
      let text_is : text ≡ head_line p.version ++ behind_head kind p (front ++ after) =
      stands
      ∙ ap (λ j. concat (take j (certificate_lines (shape.make p arcs bs))) ++ after) n
      ∙ ap (λ w. w ++ after) (first_lines form kind shape p arcs bs k is.0)
      ∙ gather kind p front after in
      let body_err : read_body kind p (front ++ after) ≡ Err m = sym (front_read kind p (front ++ after) good) ∙ ap read_text (sym text_is) ∙ e in
      then_err (λ q. Ok (shape.make p q.0 q.1)) (read_parts kind form.read p 3 (front ++ after)) m (sym (shape.reads p (front ++ after)) ∙ body_err)
      (λ here. let h = (body form kind p good).later 3 m k (arcs, bs) after is (omega (arith, few, length-lines form kind shape p arcs bs is.0)) here in omega (arith, h))
      (λ q were f. absurd (ok-err (shape.make p q.0 q.1) m f))
    where
      gather : (k : CertificateKind) (p : Problem) (front after : List ℕ) → head_line p.version ++ behind_head k p front ++ after ≡ head_line p.version ++ behind_head k p (front ++ after)
      gather k p front after =
          append_assoc (head_line p.version) (behind_head k p front) after
          ∙ ap (λ w. head_line p.version ++ w) (append_assoc (kind_word k) (problem_fields p ++ front) after)
          ∙ ap (λ w. head_line p.version ++ (kind_word k ++ w)) (append_assoc (problem_fields p) front after)

-- the whole of it

later_flow : (p : Problem) (arcs : List (Arc × ℕ)) (ps : List ℤ) (n m : ℕ) (text : List ℕ) → IsGoodProblem p → IsBody Kinds.Flow IsSmallAt p 3 arcs ps → BeginsLike (flow_cert p arcs ps) n text → read_text text ≡ Err m → n < m
later_flow = form_later potential_form Kinds.Flow flow_shape

later_cut : (p : Problem) (arcs : List (Arc × ℕ)) (side : List Bool) (n m : ℕ) (text : List ℕ) → IsGoodProblem p → IsBody Kinds.Cut IsAnyBool p 3 arcs side → BeginsLike (cut_cert p arcs side) n text → read_text text ≡ Err m → n < m
later_cut = form_later side_form Kinds.Cut cut_shape

later : (version : Version) (net : Net) (answer : Solved) (n m : ℕ) (text : List ℕ) → IsCertificate (record { version = version; net = net; answer = answer }) → BeginsLike (record { version = version; net = net; answer = answer }) n text → read_text text ≡ Err m → n < m
later version net (Flow flow ps) n m text c begins e =
    let (p, arcs, form) = flow_form version net flow ps c in
    later_flow p arcs ps n m text form.good form.body (subst (λ d. BeginsLike d n text) (sym form.same) begins) e
later version net (Cut side) n m text c begins e =
    let (p, arcs, form) = cut_form version net side c in
    later_cut p arcs side n m text form.good form.body (subst (λ d. BeginsLike d n text) (sym form.same) begins) e

complete_at : (version : Version) (net : Net) (answer : Solved) → IsCertificate (record { version = version; net = net; answer = answer }) → read_text (certificate_text (record { version = version; net = net; answer = answer })) ≡ Ok (record { version = version; net = net; answer = answer })
complete_at version net (Flow flow ps) c =
    let (p, arcs, form) = flow_form version net flow ps c in
    subst (λ d. read_text (certificate_text d) ≡ Ok d) form.same (form_complete potential_form Kinds.Flow flow_shape p arcs ps form.good form.body)
complete_at version net (Cut side) c =
    let (p, arcs, form) = cut_form version net side c in
    subst (λ d. read_text (certificate_text d) ≡ Ok d) form.same (form_complete side_form Kinds.Cut cut_shape p arcs side form.good form.body)

-- a certificate's text is read as the certificate
pub text_complete : (c : Certificate) → IsCertificate c → read_text (certificate_text c) ≡ Ok c
text_complete c good = complete_at c.version c.net c.answer good

-- what is read is a certificate with that text
pub text_sound : (text : List ℕ) (c : Certificate) → read_text text ≡ Ok c → IsCertificate c × (certificate_text c ≡ text)
unfolding read_text
text_sound text c e =
    then_ok second_of (or_line 1 (read_head text)) c e λ v was e1.
    then_ok (third_of v.0) (or_line 2 (read_kind v.1)) c e1 λ k word e2.
    then_ok (λ (q : Problem × List ℕ). read_body k.0 q.0 q.1) (or_line 2 (read_problem v.0 k.1)) c e2 λ q numbers e3.
    let head = read_head_sound text v.1 v.0 (or_line_ok 1 (read_head text) v was) in
    let second = read_kind_sound v.1 k.1 k.0 (or_line_ok 2 (read_kind v.1) k word) in
    let p = read_problem_sound v.0 k.1 q.1 q.0 (or_line_ok 2 (read_problem v.0 k.1) q numbers) in
    let h = body_sound_at k.0 q.0 q.1 c p.0 e3 in
    (h.0, h.1 ∙ ap (λ w. head_line w ++ behind_head k.0 q.0 q.1) p.1 ∙ sym (head ∙ ap (λ w. head_line v.0 ++ w) (second ∙ ap (λ w. kind_word k.0 ++ w) p.2)))

-- a certificate of each version
abbrev smallest_problem : Version → Problem
smallest_problem version = record { version = version; nodes = 2; arcs = 0; source = 0; destination = 1; demand = 1 }

smallest : Version → Certificate
smallest version = flow_cert (smallest_problem version) [] (pos 0 ∷ pos 0 ∷ [])

smallest_good : (version : Version) → IsCertificate (smallest version)
unfolding smallest
smallest_good version = flow_is_certificate (smallest_problem version) [] (pos 0 ∷ pos 0 ∷ [])
    record {
      ranges = record {
        ends = record { source_in = omega arith; destination_in = omega arith; apart = λ e. omega (arith, e); froms = All-nil _; tos = All-nil _ };
        few_nodes = omega arith;
        few_arcs = omega arith;
        some_demand = omega arith;
        most_demand = omega arith;
        good_arcs = All-nil _;
      };
      few_arcs = omega arith;
    }
    (refl, tt, (refl, (zero_small, (zero_small, tt)), tt))

-- a fault names the first line that no certificate has there
pub text_failed : (text : List ℕ) (line : ℕ) → read_text text ≡ Err line → IsFirstBadLine text line
unfolding smallest
text_failed text line e = record {
  from_one = err_some text line e;
  before = failed_where text line e
      (λ one. (smallest Two, (smallest_good Two, subst (λ j. BeginsLike (smallest Two) j text) {x = 0} (omega (arith, one)) (omega arith, (text, refl)))))
      (λ version rest head two. (smallest version, (smallest_good version, subst (λ j. BeginsLike (smallest version) j text) {x = 1} (omega (arith, two)) (omega arith, (rest, head ∙ ap (λ w. w ++ rest) (sym (append-nil (head_line version))))))))
      (λ b body. let h = (body_failed_at b.kind b.p b.rest line b.good body).1 in (h.0, (h.1.0, subst (BeginsLike h.0 (line - 1)) (sym b.stands) h.1.1)));
  there = λ c good begins. let l = later c.version c.net c.answer line line text good begins e in omega (arith, l);
  no_certificate = λ c good same. ok-err c line (sym (text_complete c good) ∙ ap read_text same ∙ e);
}

pub text_is_read_back : TextIsReadBack
text_is_read_back c d good other same = same_Ok c d (sym (text_complete c good) ∙ ap read_text same ∙ text_complete d other)
