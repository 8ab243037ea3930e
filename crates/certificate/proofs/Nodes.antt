-- The lines of the nodes and the last line.
use Rattle.std.proofs.Common.{ℕ, zero, suc, ◌+◌, ◌≤◌, ◌≡◌, List, [], ◌∷◌, ◌++◌, length, map, take, Ok, Err, refl, sym, ap, ◌∙◌, arith}
use Rattle.std.specs.List.{concat}
use Rattle.std.proofs.lemmas.List.{append-nil}
use Rattle.certificate.specs.Text.{end_line}
use Rattle.certificate.specs.Reading.{read_nodes, read_last, read_end, then_read, or_line, nothing_after}
use Rattle.certificate.proofs.Outcomes.{ok-err, same_Err, then_ok, then_err, or_line_ok, or_line_err}
use Rattle.certificate.proofs.Grammar.{read_end_sound, read_end_complete}
use Rattle.certificate.proofs.ManyLines.{Form, AreGoodFrom}
use Rattle.certificate.proofs.Parts.{IsEnd, both}

last_sound : (start : ℕ) (text : List ℕ) (u : Unit {0}) → read_last start text ≡ Ok u → text ≡ end_line
unfolding read_last
last_sound start text u e =
    then_ok (nothing_after (start + 1)) (or_line start (read_end text)) u e λ rest was behind.
    read_end_sound text rest (or_line_ok start (read_end text) rest was) ∙ ap (λ r. end_line ++ r) (none rest behind) ∙ append-nil end_line
  where
    none : (rest : List ℕ) → nothing_after (start + 1) rest ≡ Ok u → rest ≡ []
    none [] f = refl
    none (c ∷ rest) f = absurd (ok-err u (start + 1) (sym f))

last_complete : (start : ℕ) → read_last start end_line ≡ Ok tt
unfolding read_last
last_complete start = ap (λ t. then_read (nothing_after (start + 1)) (or_line start (read_end t))) (sym (append-nil end_line)) ∙ ap (λ o. then_read (nothing_after (start + 1)) (or_line start o)) (read_end_complete [])

behind_last : (line m : ℕ) (rest : List ℕ) → nothing_after line rest ≡ Err m → line ≡ m
behind_last line m [] f = absurd (ok-err tt m f)
behind_last line m (c ∷ rest) f = same_Err line m f

-- the last line is missing, or something is after it
last_failed : (start m : ℕ) (text : List ℕ) → read_last start text ≡ Err m → (j : ℕ) × (after : List ℕ) × (j ≤ 1) × (text ≡ concat (take j (end_line ∷ [])) ++ after) × (m ≡ start + j)
unfolding read_last
last_failed start m text e =
    then_err (nothing_after (start + 1)) (or_line start (read_end text)) m e
    (λ here. (0, text, omega arith, refl, (or_line_err start m (read_end text) here).1 ∙ omega arith))
    (λ rest was behind. (1, rest, omega arith, read_end_sound text rest (or_line_ok start (read_end text) rest was) ∙ ap (λ w. w ++ rest) (sym (append-nil end_line)), sym (behind_last (start + 1) m rest behind)))

last_later : (start m : ℕ) (after : List ℕ) → read_last start (end_line ++ after) ≡ Err m → start + 1 ≡ m
unfolding read_last
last_later start m after e = behind_last (start + 1) m after (sym (ap (λ o. then_read (nothing_after (start + 1)) (or_line start o)) (read_end_complete after)) ∙ e)

last_end : IsEnd read_last (λ _. end_line ∷ []) (λ _ _. Unit {0})
last_end = record {
  sound = λ n text u e. (tt, last_sound n text u e ∙ sym (append-nil end_line));
  complete = λ n u good. ap (read_last n) (append-nil end_line) ∙ last_complete n;
  failed = λ n m text e. let (k, after, few, stands, place) = last_failed n m text e in (tt, k, after, tt, few, stands, place);
  later = λ n m k u after good few e. at n m k after few e;
}
  where
    at : (n m k : ℕ) (after : List ℕ) → k ≤ 1 → read_last n (concat (take k (end_line ∷ [])) ++ after) ≡ Err m → n + k ≤ m
    at n m zero after few e = let (k, rest, most, stands, place) = last_failed n m after e in omega (arith, place)
    at n m (suc zero) after few e = let h = last_later n m after (ap (λ t. read_last n (t ++ after)) (sym (append-nil end_line)) ∙ e) in omega (arith, h)
    at n m (suc (suc k)) after few e = absurd (omega (arith, few))

-- the lines of the nodes, and the last one
abbrev pub node_rest : {B : Type 0} → (B → List ℕ) → List B → List (List ℕ)
node_rest line bs = map line bs ++ end_line ∷ []

abbrev pub AreNodes : {B : Type 0} → (ℕ → B → Type 0) → ℕ → ℕ → List B → Type 0
AreNodes Good n start bs = (length bs ≡ n) × AreGoodFrom Good start bs × Unit {0}

pub nodes : {B : Type 0} (form : Form B) (n : ℕ) → IsEnd (λ start text. read_nodes form.read n start text) (node_rest form.line) (AreNodes form.Good n)
unfolding read_nodes
nodes form n = both form read_last (λ _. end_line ∷ []) (λ _ _. Unit {0}) last_end (λ _. tt) (λ _. tt) (λ bs _. bs) (λ bs. bs) (λ _. tt) (λ bs. refl) (λ bs u. refl) (λ bs u. refl) n
