-- Serves private clauses only: what the functions that read a certificate compute. `proofs/` shows that they read the
-- grammar.
use Rattle.std.specs.Prelude.{ℕ, zero, suc, ◌+◌, ◌-◌, ◌*◌, Bool, ◌&&◌, List, [], ◌∷◌, length, take, drop, codes, slice_index, Option, Some, None, Result, Ok, Err, option_map, option_and_then, ◌==◌, nat_lt, if◌then◌else◌, ℤ, pos, ◌-ℤ◌}
use Rattle.std.specs.List.{prefix_len, starts_with}
use Rattle.std.specs.Prelude.{nat_eq}
use Rattle.std.specs.Char.{is_ascii_digit}
use Rattle.std.specs.Borrow.{Bor}
use Rattle.plan_base.specs.declared.amount.TheConstants.{MAX}
use Rattle.flow_model.specs.declared.limits.TheConstants.{COST_MAX, POTENTIAL_MAX}
use Rattle.certificate.specs.declared.limits.TheConstants.{CERT_NODES_MAX, DIRECTION_MAX, AMOUNT_DIGITS_MAX, POTENTIAL_DIGITS_MAX}
use Rattle.certificate.specs.declared.version.Version.{Version}
use Rattle.certificate.specs.declared.version.Version.TheVariants.{One, Two}
use Rattle.flow_model.specs.declared.instance.Arc.{Arc}
use Rattle.certificate.specs.declared.problem.Problem.{Problem}
use Rattle.certificate.specs.declared.problem.CertificateKind.{CertificateKind}
use Rattle.certificate.specs.declared.problem.CertificateKind.TheVariants as Kinds
use Rattle.flow_model.specs.declared.solve.Solved.{Solved}
use Rattle.flow_model.specs.declared.solve.Solved.TheVariants.{Flow, Cut}
use Rattle.certificate.specs.Certificate.{Certificate, most_arcs}
use Rattle.certificate.specs.Text.{version_number}
use Rattle.certificate.specs.Cert.{units_in, certificate_of}

-- a value and the text after it
abbrev pub Read : Type 0 → Type 0
Read A = Option (A × List ℕ)

-- what a function read, with the text after it as a list
abbrev pub read_view : {A : Type 0} → Option (A × Bor (List ℕ)) → Read A
read_view r = option_map (λ p. (p.0, p.1.now)) r

-- the same for a number, whose value is a natural number
abbrev pub value_view : {A : Type 0} → (A → ℕ) → Option (A × Bor (List ℕ)) → Read ℕ
value_view value r = option_map (λ p. (value p.0, p.1.now)) r

abbrev pub text_view : Option (Bor (List ℕ)) → Option (List ℕ)
text_view r = option_map (λ t. t.now) r

infixl 10 ◌>>=◌
abbrev ◌>>=◌ : {A B : Type 0} → Option A → (A → Option B) → Option B
o >>= f = option_and_then f o

-- the text after the word, if the text begins with it
unfoldable pub read_word : List ℕ → List ℕ → Option (List ℕ)
read_word word text = if starts_with nat_eq text word then Some (drop (length word) text) else None

-- the text after the byte, if the text begins with it
abbrev pub read_byte : ℕ → List ℕ → Option (List ℕ)
read_byte byte [] = None
read_byte byte (first ∷ rest) = if first == byte then Some rest else None

-- the number that digits write, after the digits of a number
abbrev pub read_on : ℕ → List ℕ → ℕ
read_on n [] = n
read_on n (c ∷ cs) = read_on (n * 10 + (c - 48)) cs

abbrev pub digit_count : List ℕ → ℕ
digit_count text = prefix_len is_ascii_digit text

-- a number of at most so many digits, with no leading zero
unfoldable pub read_number : ℕ → ℕ → List ℕ → Read ℕ
read_number places most text =
    let front = take places text in
    let len = digit_count front in
    let value = read_on 0 (take len front) in
    if len == 0 then None else (if nat_lt 1 len && (slice_index text 0 == 48) then None else (if nat_lt most value then None else Some (value, drop len text)))

-- a space and a number
unfoldable pub read_field : ℕ → List ℕ → Read ℕ
read_field most text = do
  number ← read_byte 32 text
  read_number AMOUNT_DIGITS_MAX most number

abbrev pub version_of : ℕ → Option Version
version_of n = if n == 1 then Some One else (if n == 2 then Some Two else None)

unfoldable pub read_head : List ℕ → Read Version
read_head text = do
  number ← read_word (codes "askrene-certificate") text
  n ← read_field (version_number Two) number
  after ← read_byte 10 n.1
  version ← version_of n.0
  Some (version, after)

unfoldable pub read_kind : List ℕ → Read CertificateKind
read_kind text = if starts_with nat_eq text (codes "flow") then Some (Kinds.Flow, drop 4 text) else (if starts_with nat_eq text (codes "cut") then Some (Kinds.Cut, drop 3 text) else None)

unfoldable pub read_problem : Version → List ℕ → Read Problem
read_problem version text = do
  nodes ← read_field CERT_NODES_MAX text
  arcs ← read_field (most_arcs version) nodes.1
  source ← read_field (nodes.0 - 1) arcs.1
  destination ← read_field (nodes.0 - 1) source.1
  demand ← read_field MAX destination.1
  after ← read_byte 10 demand.1
  if nat_lt nodes.0 2 then None else (if source.0 == destination.0 then None else (if demand.0 == 0 then None else Some (record { version = version; nodes = nodes.0; arcs = arcs.0; source = source.0; destination = destination.0; demand = demand.0 }, after)))

-- the units at the end of an arc's line, if the certificate has a flow
unfoldable pub read_units : CertificateKind → List ℕ → Read ℕ
read_units Kinds.Flow text = read_field MAX text
read_units Kinds.Cut text = Some (0, text)

-- the direction of an arc on this line: in version 1 each arc is a direction of its own
unfoldable pub read_direction : Version → ℕ → List ℕ → Read ℕ
read_direction One line text = Some (line - 3, text)
read_direction Two line text = read_field DIRECTION_MAX text

unfoldable pub read_arc : Version → CertificateKind → ℕ → ℕ → List ℕ → Read (Arc × ℕ)
read_arc version kind nodes line text = do
  numbers ← read_word (codes "arc") text
  dir ← read_direction version line numbers
  from ← read_field (nodes - 1) dir.1
  to ← read_field (nodes - 1) from.1
  room ← read_field MAX to.1
  cost ← read_field COST_MAX room.1
  units ← read_units kind cost.1
  after ← read_byte 10 units.1
  if from.0 == to.0 then None else (if room.0 == 0 then None else (if cost.0 == 0 then None else Some ((record { from = from.0; to = to.0; room = room.0; cost = cost.0; dir = dir.0 }, units.0), after)))

-- a number below zero, whose minus was read
unfoldable pub read_negative : List ℕ → Read ℤ
read_negative text = do
  n ← read_number POTENTIAL_DIGITS_MAX POTENTIAL_MAX text
  if n.0 == 0 then None else Some (pos 0 -ℤ pos n.0, n.1)

unfoldable pub read_signed : List ℕ → Read ℤ
read_signed text = if slice_index text 0 == 45 then read_negative (drop 1 text) else option_map (λ n. (pos n.0, n.1)) (read_number POTENTIAL_DIGITS_MAX POTENTIAL_MAX text)

unfoldable pub read_potential : List ℕ → Read ℤ
read_potential text = do
  number ← read_word (codes "potential ") text
  p ← read_signed number
  after ← read_byte 10 p.1
  Some (p.0, after)

unfoldable pub read_side : List ℕ → Read Bool
read_side text = do
  number ← read_word (codes "side") text
  n ← read_field 1 number
  after ← read_byte 10 n.1
  Some (n.0 == 1, after)

unfoldable pub read_end : List ℕ → Option (List ℕ)
read_end text = do
  after ← read_word (codes "end") text
  read_byte 10 after

-- the next step, if this one succeeded; else the line at which it failed
abbrev pub then_read : {A B : Type 0} → (A → Result B ℕ) → Result A ℕ → Result B ℕ
then_read f (Ok x) = f x
then_read f (Err line) = Err line

abbrev pub or_line : {A : Type 0} → ℕ → Option A → Result A ℕ
or_line line (Some x) = Ok x
or_line line None = Err line

abbrev pub prepend : {A : Type 0} → A → Result (List A × List ℕ) ℕ → Result (List A × List ℕ) ℕ
prepend x (Ok r) = Ok (x ∷ r.0, r.1)
prepend x (Err line) = Err line

abbrev pub prepend_all : {A : Type 0} → List A → Result (List A × List ℕ) ℕ → Result (List A × List ℕ) ℕ
prepend_all [] r = r
prepend_all (x ∷ xs) r = prepend x (prepend_all xs r)

abbrev pub line_then : {A : Type 0} → ℕ → (List ℕ → Result (List A × List ℕ) ℕ) → Read A → Result (List A × List ℕ) ℕ
line_then line more (Some p) = prepend p.0 (more p.1)
line_then line more None = Err line

-- this many lines, the first of which has this number
abbrev pub read_lines : {A : Type 0} → (ℕ → List ℕ → Read A) → ℕ → ℕ → List ℕ → Result (List A × List ℕ) ℕ
read_lines read zero line text = Ok ([], text)
read_lines read (suc n) line text = line_then line (read_lines read n (line + 1)) (read line text)

abbrev pub nothing_after : ℕ → List ℕ → Result (Unit {0}) ℕ
nothing_after line [] = Ok tt
nothing_after line (c ∷ text) = Err line

-- the last line, with nothing after it
unfoldable pub read_last : ℕ → List ℕ → Result (Unit {0}) ℕ
read_last line text = then_read (nothing_after (line + 1)) (or_line line (read_end text))

-- the lines of the nodes and the last one
unfoldable pub read_nodes : {A : Type 0} → (ℕ → List ℕ → Read A) → ℕ → ℕ → List ℕ → Result (List A) ℕ
read_nodes read nodes line text = then_read (λ r. then_read (λ _. Ok r.0) (read_last (line + nodes) r.1)) (read_lines read nodes line text)

unfoldable pub read_answer : CertificateKind → ℕ → List (Arc × ℕ) → ℕ → List ℕ → Result Solved ℕ
read_answer Kinds.Flow nodes loads line text = then_read (λ p. Ok (Flow (units_in loads) p)) (read_nodes (λ _. read_potential) nodes line text)
read_answer Kinds.Cut nodes loads line text = then_read (λ s. Ok (Cut s)) (read_nodes (λ _. read_side) nodes line text)

-- the lines after the second
unfoldable pub read_body : CertificateKind → Problem → List ℕ → Result Certificate ℕ
read_body kind problem text =
    then_read (λ r. then_read (λ answer. Ok (certificate_of problem r.0 answer)) (read_answer kind problem.nodes r.0 (3 + problem.arcs) r.1)) (read_lines (read_arc problem.version kind problem.nodes) problem.arcs 3 text)

unfoldable pub read_text : List ℕ → Result Certificate ℕ
read_text text =
    then_read (λ head. then_read (λ k. then_read (λ p. read_body k.0 p.0 p.1) (or_line 2 (read_problem head.0 k.1))) (or_line 2 (read_kind head.1))) (or_line 1 (read_head text))
