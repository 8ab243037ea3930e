-- Turns of the loop that reads lines.
use Rattle.std.proofs.Common.{ℕ, suc, ◌+◌, ◌-◌, ◌<◌, ◌≤◌, ◌≡◌, List, [], ◌∷◌, ◌++◌, Option, Some, None, Result, Ok, Err, refl, sym, ap, ◌∙◌, arith}
use Rattle.certificate.specs.Reading.{read_lines, line_then, prepend, prepend_all}

module _ {A : Type 0} (read : ℕ → List ℕ → Option (A × List ℕ)) where
  push : (xs : List A) (x : A) (r : Result (List A × List ℕ) ℕ) → prepend_all (xs ++ x ∷ []) r ≡ prepend_all xs (prepend x r)
  push [] x r = refl
  push (y ∷ xs) x r = ap (prepend y) (push xs x r)

  at_err : (xs : List A) (line : ℕ) → ◌≡◌ {A = Result (List A × List ℕ) ℕ} (prepend_all xs (Err line)) (Err line)
  at_err [] line = refl
  at_err (x ∷ xs) line = ap (prepend x) (at_err xs line)

  at_ok : (xs : List A) (rest : List ℕ) → ◌≡◌ {A = Result (List A × List ℕ) ℕ} (prepend_all xs (Ok ([], rest))) (Ok (xs, rest))
  at_ok [] rest = refl
  at_ok (x ∷ xs) rest = ap (prepend x) (at_ok xs rest)

  one_more : (n line : ℕ) (text : List ℕ) (o : Option (A × List ℕ)) → read line text ≡ o → read_lines read (suc n) line text ≡ line_then line (read_lines read n (line + 1)) o
  one_more n line text o e = ap (line_then line (read_lines read n (line + 1))) e

  pub lines_turn : (count first i : ℕ) (xs ys : List A) (x : A) (text after : List ℕ) → i < count → Some (x, after) ≡ read (first + i) text → ys ≡ xs ++ x ∷ [] → prepend_all ys (read_lines read (count - (i + 1)) (first + (i + 1)) after) ≡ prepend_all xs (read_lines read (count - i) (first + i) text)
  lines_turn count first i xs ys x text after l was grows =
      let left : suc (count - (i + 1)) ≡ count - i = omega (arith, l) in
      let place : first + (i + 1) ≡ first + i + 1 = omega arith in
      ap (λ zs. prepend_all zs (read_lines read (count - (i + 1)) (first + (i + 1)) after)) grows
      ∙ push xs x (read_lines read (count - (i + 1)) (first + (i + 1)) after)
      ∙ ap (λ n. prepend_all xs (prepend x (read_lines read (count - (i + 1)) n after))) place
      ∙ ap (prepend_all xs) (sym (one_more (count - (i + 1)) (first + i) text (Some (x, after)) (sym was)))
      ∙ ap (λ n. prepend_all xs (read_lines read n (first + i) text)) left

  pub lines_stop : (count first i : ℕ) (xs : List A) (text : List ℕ) → i < count → None ≡ read (first + i) text → prepend_all xs (read_lines read (count - i) (first + i) text) ≡ Err (first + i)
  lines_stop count first i xs text l was =
      let left : count - i ≡ suc (count - (i + 1)) = omega (arith, l) in
      ap (λ n. prepend_all xs (read_lines read n (first + i) text)) left
      ∙ ap (prepend_all xs) (one_more (count - (i + 1)) (first + i) text None (sym was))
      ∙ at_err xs (first + i)

  pub lines_done : (count first i : ℕ) (xs : List A) (text : List ℕ) → count ≤ i → prepend_all xs (read_lines read (count - i) (first + i) text) ≡ Ok (xs, text)
  lines_done count first i xs text l =
      let none : count - i ≡ 0 = omega (arith, l) in
      ap (λ n. prepend_all xs (read_lines read n (first + i) text)) none ∙ at_ok xs text
