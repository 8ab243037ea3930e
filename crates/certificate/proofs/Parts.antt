-- Forms of lines, and the end of a text that is made of such lines.
use Rattle.std.proofs.Common.{ℕ, ◌+◌, ◌-◌, ◌≤◌, ◌≡◌, List, ◌++◌, length, map, take, Result, Ok, Err, refl, sym, ap, ◌∙◌, subst, arith, append_assoc, inl, inr}
use Rattle.std.specs.List.{concat}
use Rattle.std.proofs.Math.Seq.{take-append-add}
use Rattle.std.proofs.lemmas.Bool.{cases_lt}
use Rattle.std.proofs.lemmas.List.{length-map, take-append-le, take-map, take_at, length-take-le}
use Rattle.std.proofs.lemmas.List.Folds.{concat-append}
use lib.ListN.{length-append}
use Rattle.certificate.specs.Reading.{read_lines, then_read}
use Rattle.certificate.proofs.Outcomes.{ok-err, same_Ok, then_ok, then_err}
use Rattle.certificate.proofs.ManyLines.{Form, AreGoodFrom, good_append, good_take, fillers, length-fillers, good_fillers, lines_sound, lines_complete, lines_failed, lines_later}

-- a reader of all that is left of a text, from a line with some number on: it reads what has these lines, and fails at
-- the first line that nothing good has
pub record IsEnd {Z : Type 0} (read : ℕ → List ℕ → Result Z ℕ) (lines : Z → List (List ℕ)) (Good : ℕ → Z → Type 0) : Type 0 where
  pub sound : (n : ℕ) (text : List ℕ) (z : Z) → read n text ≡ Ok z → Good n z × (text ≡ concat (lines z))
  pub complete : (n : ℕ) (z : Z) → Good n z → read n (concat (lines z)) ≡ Ok z
  pub failed : (n m : ℕ) (text : List ℕ) → read n text ≡ Err m → (z : Z) × (k : ℕ) × (after : List ℕ) × Good n z × (k ≤ length (lines z)) × (text ≡ concat (take k (lines z)) ++ after) × (m ≡ n + k)
  pub later : (n m k : ℕ) (z : Z) (after : List ℕ) → Good n z → k ≤ length (lines z) → read n (concat (take k (lines z)) ++ after) ≡ Err m → n + k ≤ m

-- lines of one form before such an end are such an end
module _ {A Y Z : Type 0} (f : Form A) (read_end : ℕ → List ℕ → Result Y ℕ) (end_lines : Y → List (List ℕ)) (GoodEnd : ℕ → Y → Type 0) (end : IsEnd read_end end_lines GoodEnd) (spare : ℕ → Y) (spare_good : (n : ℕ) → GoodEnd n (spare n)) (join : List A → Y → Z) (first : Z → List A) (second : Z → Y) (joined : (z : Z) → join (first z) (second z) ≡ z) (firsts : (xs : List A) (y : Y) → first (join xs y) ≡ xs) (seconds : (xs : List A) (y : Y) → second (join xs y) ≡ y) (count : ℕ) where
  abbrev pub read_both : ℕ → List ℕ → Result Z ℕ
  read_both n text = then_read (λ r. then_read (λ y. Ok (join r.0 y)) (read_end (n + count) r.1)) (read_lines f.read count n text)

  abbrev pub both_lines : Z → List (List ℕ)
  both_lines z = map f.line (first z) ++ end_lines (second z)

  abbrev pub AreGood : ℕ → Z → Type 0
  AreGood n z = (length (first z) ≡ count) × AreGoodFrom f.Good n (first z) × GoodEnd (n + count) (second z)

  lines_at : (xs : List A) (y : Y) → both_lines (join xs y) ≡ map f.line xs ++ end_lines y
  lines_at xs y = λ i. map f.line (firsts xs y i) ++ end_lines (seconds xs y i)

  length_at : (xs : List A) (y : Y) → length (map f.line xs ++ end_lines y) ≡ length xs + length (end_lines y)
  length_at xs y = omega (arith, length-append (map f.line xs) (end_lines y), length-map xs f.line)

  good_both : (n : ℕ) (xs : List A) (y : Y) → length xs ≡ count → AreGoodFrom f.Good n xs → GoodEnd (n + count) y → AreGood n (join xs y)
  good_both n xs y long all good = (ap length (firsts xs y) ∙ long, subst (AreGoodFrom f.Good n) (sym (firsts xs y)) all, subst (GoodEnd (n + count)) (sym (seconds xs y)) good)

  front_read : (n : ℕ) (xs : List A) (after : List ℕ) → length xs ≡ count → AreGoodFrom f.Good n xs → read_lines f.read count n (concat (map f.line xs) ++ after) ≡ Ok (xs, after)
  front_read n xs after long all = ap (λ c. read_lines f.read c n (concat (map f.line xs) ++ after)) (sym long) ∙ lines_complete f xs n after all

  front : (xs : List A) (y : Y) (k : ℕ) → k ≤ length xs → take k (map f.line xs ++ end_lines y) ≡ map f.line (take k xs)
  front xs y k l = take-append-le k (map f.line xs) (end_lines y) (omega (arith, l, length-map xs f.line)) ∙ take-map f.line k xs

  after_front : (xs : List A) (y : Y) (j : ℕ) (after : List ℕ) → concat (take (length xs + j) (map f.line xs ++ end_lines y)) ++ after ≡ concat (map f.line xs) ++ (concat (take j (end_lines y)) ++ after)
  after_front xs y j after =
      let ls = map f.line xs in
      ap (λ n. concat (take (n + j) (ls ++ end_lines y)) ++ after) (sym (length-map xs f.line))
      ∙ ap (λ qs. concat qs ++ after) (take-append-add ls (end_lines y) j)
      ∙ ap (λ w. w ++ after) (concat-append ls (take j (end_lines y)))
      ∙ append_assoc (concat ls) (concat (take j (end_lines y))) after

  both_sound : (n : ℕ) (text : List ℕ) (z : Z) → read_both n text ≡ Ok z → AreGood n z × (text ≡ concat (both_lines z))
  both_sound n text z e =
      then_ok (λ r. then_read (λ y. Ok (join r.0 y)) (read_end (n + count) r.1)) (read_lines f.read count n text) z e λ r were g.
      then_ok (λ y. Ok (join r.0 y)) (read_end (n + count) r.1) z g λ y was same.
      let h = lines_sound f count n text r.1 r.0 were in
      let k = end.sound (n + count) r.1 y was in
      subst (λ w. AreGood n w × (text ≡ concat (both_lines w))) (same_Ok (join r.0 y) z same)
      (good_both n r.0 y h.0 h.1 k.0, h.2 ∙ ap (λ s. concat (map f.line r.0) ++ s) k.1 ∙ sym (concat-append (map f.line r.0) (end_lines y)) ∙ ap concat (sym (lines_at r.0 y)))

  both_complete : (n : ℕ) (z : Z) → AreGood n z → read_both n (concat (both_lines z)) ≡ Ok z
  both_complete n z good =
      let step = λ (r : List A × List ℕ). then_read (λ y. Ok (join r.0 y)) (read_end (n + count) r.1) in
      ap (λ t. then_read step (read_lines f.read count n t)) (concat-append (map f.line (first z)) (end_lines (second z)))
      ∙ ap (then_read step) (front_read n (first z) (concat (end_lines (second z))) good.0 good.1)
      ∙ ap (then_read (λ y. Ok (join (first z) y))) (end.complete (n + count) (second z) good.2)
      ∙ ap Ok (joined z)

  both_failed : (n m : ℕ) (text : List ℕ) → read_both n text ≡ Err m → (z : Z) × (k : ℕ) × (after : List ℕ) × AreGood n z × (k ≤ length (both_lines z)) × (text ≡ concat (take k (both_lines z)) ++ after) × (m ≡ n + k)
  both_failed n m text e =
      then_err (λ r. then_read (λ y. Ok (join r.0 y)) (read_end (n + count) r.1)) (read_lines f.read count n text) m e
      (λ here.
      let (done, rest, all, stands, few, place) = lines_failed f count n text m here in
      let more = fillers f (count - length done) (n + length done) in
      let counted = length-fillers f (count - length done) (n + length done) in
      let last = spare (n + count) in
      let xs = done ++ more in
      let begins : take (length done) (both_lines (join xs last)) ≡ map f.line done =
      ap (take (length done)) (lines_at xs last)
      ∙ front xs last (length done) (omega (arith, length-append done more))
      ∙ ap (map f.line) (take_at done more (length done) refl) in (
        join xs last,
        length done,
        rest,
        good_both n xs last (omega (arith, length-append done more, counted, few)) (good_append f.Good n done more all (good_fillers f (count - length done) (n + length done))) (spare_good (n + count)),
        (omega (arith, ap length (lines_at xs last), length_at xs last, length-append done more)),
        stands ∙ ap (λ ls. concat ls ++ rest) (sym begins),
        place,
      ))
      (λ r were g.
      then_err (λ y. Ok (join r.0 y)) (read_end (n + count) r.1) m g
      (λ bad.
      let h = lines_sound f count n text r.1 r.0 were in
      let (y, j, after, good, few, stands, place) = end.failed (n + count) m r.1 bad in (
        join r.0 y,
        length r.0 + j,
        after,
        good_both n r.0 y h.0 h.1 good,
        (omega (arith, ap length (lines_at r.0 y), length_at r.0 y, few)),
        h.2 ∙ ap (λ t. concat (map f.line r.0) ++ t) stands ∙ sym (after_front r.0 y j after) ∙ ap (λ ls. concat (take (length r.0 + j) ls) ++ after) (sym (lines_at r.0 y)),
        (omega (arith, place, h.0)),
      ))
      (λ y was same. absurd (ok-err (join r.0 y) m same)))

  both_later : (n m k : ℕ) (z : Z) (after : List ℕ) → AreGood n z → k ≤ length (both_lines z) → read_both n (concat (take k (both_lines z)) ++ after) ≡ Err m → n + k ≤ m
  both_later n m k z after good few e = elim (cases_lt (length (first z)) k) [
    | inr le ↦
        let text = concat (take k (both_lines z)) ++ after in
        let text_is : text ≡ concat (map f.line (take k (first z))) ++ after = ap (λ ls. concat ls ++ after) (front (first z) (second z) k le) in
        then_err (λ r. then_read (λ y. Ok (join r.0 y)) (read_end (n + count) r.1)) (read_lines f.read count n text) m e
        (λ here.
        let h = lines_later f count n (take k (first z)) after m (good_take f.Good n k (first z) good.1) (omega (arith, length-take-le k (first z) le, le, good.0)) (ap (read_lines f.read count n) (sym text_is) ∙ here) in
        omega (arith, h, length-take-le k (first z) le))
        (λ r were g.
        then_err (λ y. Ok (join r.0 y)) (read_end (n + count) r.1) m g
        (λ bad. let (y, j, a, h, w, s, place) = end.failed (n + count) m r.1 bad in omega (arith, place, le, good.0))
        (λ y was same. absurd (ok-err (join r.0 y) m same)))
    | inl lt ↦
        let xs = first z in
        let j = k - length xs in
        let all : k ≡ length xs + j = omega (arith, lt) in
        let behind = concat (take j (end_lines (second z))) ++ after in
        let step = λ (r : List A × List ℕ). then_read (λ y. Ok (join r.0 y)) (read_end (n + count) r.1) in
        let text_is : concat (take k (both_lines z)) ++ after ≡ concat (map f.line xs) ++ behind = ap (λ i. concat (take i (both_lines z)) ++ after) all ∙ after_front xs (second z) j after in
        let were : read_lines f.read count n (concat (take k (both_lines z)) ++ after) ≡ Ok (xs, behind) = ap (read_lines f.read count n) text_is ∙ front_read n xs behind good.0 good.1 in
        let rest : then_read (λ y. Ok (join xs y)) (read_end (n + count) behind) ≡ Err m = sym (ap (then_read step) were) ∙ e in
        then_err (λ y. Ok (join xs y)) (read_end (n + count) behind) m rest
        (λ bad. let h = end.later (n + count) m j (second z) after good.2 (omega (arith, few, length_at xs (second z), all)) bad in omega (arith, h, all, good.0))
        (λ y was same. absurd (ok-err (join xs y) m same))
  ]

  pub both : IsEnd read_both both_lines AreGood
  both = record { sound = both_sound; complete = both_complete; failed = both_failed; later = both_later }
