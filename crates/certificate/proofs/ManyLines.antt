-- Lines of one kind, one after another.
use Rattle.std.proofs.Common.{ℕ, zero, suc, ◌+◌, ◌<◌, ◌≤◌, ◌≡◌, List, [], ◌∷◌, ◌++◌, length, map, take, Option, Some, None, Ok, Err, refl, sym, ap, ◌∙◌, subst, arith, append_assoc}
use Rattle.std.specs.Prelude.{slice_index_or}
use Rattle.std.specs.List.{concat}
use Rattle.certificate.specs.Reading.{read_lines, line_then, prepend}
use Rattle.certificate.proofs.Outcomes.{ok-err, same_Ok, same_Err, prepend_ok, prepend_err}

-- the values of lines, of which the first has this number: each is good at its line
abbrev pub AreGoodFrom : {A : Type 0} → (ℕ → A → Type 0) → ℕ → List A → Type 0
AreGoodFrom Good n [] = Unit {0}
AreGoodFrom Good n (x ∷ xs) = Good n x × AreGoodFrom Good (n + 1) xs

module _ {A : Type 0} (Good : ℕ → A → Type 0) where
  pub good_at : (n : ℕ) (xs : List A) → AreGoodFrom Good n xs → (k : ℕ) (d : A) → k < length xs → Good (n + k) (slice_index_or xs k d)
  good_at n [] all k d l = absurd (omega arith)
  good_at n (x ∷ xs) all zero d l = let same : n ≡ n + 0 = omega arith in subst (λ m. Good m x) same all.0
  good_at n (x ∷ xs) all (suc k) d l =
      let same : n + 1 + k ≡ n + suc k = omega arith in
      subst (λ m. Good m (slice_index_or xs k d)) same (good_at (n + 1) xs all.1 k d (omega arith))

  pub good_from : (n : ℕ) (xs : List A) → ((k : ℕ) (d : A) → k < length xs → Good (n + k) (slice_index_or xs k d)) → AreGoodFrom Good n xs
  good_from n [] all = tt
  good_from n (x ∷ xs) all =
      let first : n + 0 ≡ n = omega arith in (
        subst (λ m. Good m x) first (all 0 x (omega arith)),
        good_from (n + 1) xs (λ k d l. let same : n + suc k ≡ n + 1 + k = omega arith in subst (λ m. Good m (slice_index_or xs k d)) same (all (suc k) d (omega arith))),
      )

  pub good_append : (n : ℕ) (xs ys : List A) → AreGoodFrom Good n xs → AreGoodFrom Good (n + length xs) ys → AreGoodFrom Good n (xs ++ ys)
  good_append n [] ys all more = let same : n + 0 ≡ n = omega arith in subst (λ m. AreGoodFrom Good m ys) same more
  good_append n (x ∷ xs) ys all more =
      let same : n + suc (length xs) ≡ n + 1 + length xs = omega arith in
      (all.0, good_append (n + 1) xs ys all.1 (subst (λ m. AreGoodFrom Good m ys) same more))

  pub good_take : (n k : ℕ) (xs : List A) → AreGoodFrom Good n xs → AreGoodFrom Good n (take k xs)
  good_take n zero xs all = tt
  good_take n (suc k) [] all = tt
  good_take n (suc k) (x ∷ xs) all = (all.0, good_take (n + 1) k xs all.1)

-- a form of line: what reads a line with some number, what the line is for each value, the values that it is read for,
-- and one of them for each number
pub record Form (A : Type 0) : Type 1 where
  pub read : ℕ → List ℕ → Option (A × List ℕ)
  pub line : A → List ℕ
  pub Good : ℕ → A → Type 0
  pub sound : (n : ℕ) (text rest : List ℕ) (x : A) → read n text ≡ Some (x, rest) → Good n x × (text ≡ line x ++ rest)
  pub complete : (n : ℕ) (x : A) (rest : List ℕ) → Good n x → read n (line x ++ rest) ≡ Some (x, rest)
  pub filler : ℕ → A
  pub filler_good : (n : ℕ) → Good n (filler n)

module _ {A : Type 0} (form : Form A) where
  -- this many values, from this line on
  abbrev pub fillers : ℕ → ℕ → List A
  fillers zero n = []
  fillers (suc k) n = form.filler n ∷ fillers k (n + 1)

  pub length-fillers : (k n : ℕ) → length (fillers k n) ≡ k
  length-fillers zero n = refl
  length-fillers (suc k) n = ap suc (length-fillers k (n + 1))

  pub good_fillers : (k n : ℕ) → AreGoodFrom form.Good n (fillers k n)
  good_fillers zero n = tt
  good_fillers (suc k) n = (form.filler_good n, good_fillers k (n + 1))

  joined-cons : (x : A) (xs : List A) (rest : List ℕ) → form.line x ++ (concat (map form.line xs) ++ rest) ≡ concat (map form.line (x ∷ xs)) ++ rest
  joined-cons x xs rest = sym (append_assoc (form.line x) (concat (map form.line xs)) rest)

  -- this many lines were read: each is good, and the text begins with them
  pub lines_sound : (n start : ℕ) (text rest : List ℕ) (xs : List A) → read_lines form.read n start text ≡ Ok (xs, rest) → (length xs ≡ n) × AreGoodFrom form.Good start xs × (text ≡ concat (map form.line xs) ++ rest)
  lines_sound zero start text rest xs e =
      let same = same_Ok _ _ e in
      let none : [] ≡ xs = ap (λ p. p.0) same in
      subst (λ ys. (length ys ≡ 0) × AreGoodFrom form.Good start ys × (text ≡ concat (map form.line ys) ++ rest)) none (refl, tt, ap (λ p. p.1) same)
  lines_sound (suc n) start text rest xs e = by (form.read start text) refl e (lines_sound n (start + 1))
    where
      Claim : ℕ → ℕ → List ℕ → List A → Type 0
      Claim m from t ys = (length ys ≡ m) × AreGoodFrom form.Good from ys × (t ≡ concat (map form.line ys) ++ rest)

      by : (o : Option (A × List ℕ)) → form.read start text ≡ o → line_then start (read_lines form.read n (start + 1)) o ≡ Ok (xs, rest) → ((t r : List ℕ) (ys : List A) → read_lines form.read n (start + 1) t ≡ Ok (ys, r) → (length ys ≡ n) × AreGoodFrom form.Good (start + 1) ys × (t ≡ concat (map form.line ys) ++ r)) → Claim (suc n) start text xs
      by None is f before = absurd (ok-err _ start (sym f))
      by (Some (x, t)) is f before =
          let (ys, inner, whole) = prepend_ok x (read_lines form.read n (start + 1) t) xs rest f in
          let h = before t rest ys inner in
          let s = form.sound start text t x is in
          subst (Claim (suc n) start text) whole (ap suc h.0, (s.0, h.1), s.1 ∙ ap (λ r. form.line x ++ r) h.2 ∙ joined-cons x ys rest)

  pub lines_complete : (xs : List A) (start : ℕ) (rest : List ℕ) → AreGoodFrom form.Good start xs → read_lines form.read (length xs) start (concat (map form.line xs) ++ rest) ≡ Ok (xs, rest)
  lines_complete [] start rest good = refl
  lines_complete (x ∷ xs) start rest good =
      ap (λ t. line_then start (read_lines form.read (length xs) (start + 1)) (form.read start t)) (sym (joined-cons x xs rest))
      ∙ ap (line_then start (read_lines form.read (length xs) (start + 1))) (form.complete start x (concat (map form.line xs) ++ rest) good.0)
      ∙ ap (prepend x) (lines_complete xs (start + 1) rest good.1)

  -- a failure comes after some good lines
  pub lines_failed : (n start : ℕ) (text : List ℕ) (fault : ℕ) → read_lines form.read n start text ≡ Err fault → (done : List A) × (rest : List ℕ) × AreGoodFrom form.Good start done × (text ≡ concat (map form.line done) ++ rest) × (length done < n) × (fault ≡ start + length done)
  lines_failed zero start text fault e = absurd (ok-err _ fault e)
  lines_failed (suc n) start text fault e = by (form.read start text) refl e (lines_failed n (start + 1))
    where
      by : (o : Option (A × List ℕ)) → form.read start text ≡ o → line_then start (read_lines form.read n (start + 1)) o ≡ Err fault → ((t : List ℕ) (m : ℕ) → read_lines form.read n (start + 1) t ≡ Err m → (done : List A) × (rest : List ℕ) × AreGoodFrom form.Good (start + 1) done × (t ≡ concat (map form.line done) ++ rest) × (length done < n) × (m ≡ start + 1 + length done)) → (done : List A) × (rest : List ℕ) × AreGoodFrom form.Good start done × (text ≡ concat (map form.line done) ++ rest) × (length done < suc n) × (fault ≡ start + length done)
      by None is f before = ([], text, tt, refl, omega arith, sym (same_Err start fault f) ∙ omega arith)
      by (Some (x, t)) is f before =
          let (done, rest, good, stands, few, place) = before t fault (prepend_err x (read_lines form.read n (start + 1) t) fault f) in
          let s = form.sound start text t x is in
          (x ∷ done, rest, (s.0, good), s.1 ∙ ap (λ r. form.line x ++ r) stands ∙ joined-cons x done rest, omega (arith, few), omega (arith, place))

  -- no failure comes before the end of good lines at the front
  pub lines_later : (n start : ℕ) (xs : List A) (rest : List ℕ) (fault : ℕ) → AreGoodFrom form.Good start xs → length xs ≤ n → read_lines form.read n start (concat (map form.line xs) ++ rest) ≡ Err fault → start + length xs ≤ fault
  lines_later n start [] rest fault good few e = let (done, r, g, s, l, place) = lines_failed n start rest fault e in omega (arith, place)
  lines_later zero start (x ∷ xs) rest fault good few e = absurd (omega arith)
  lines_later (suc n) start (x ∷ xs) rest fault good few e =
      let read_x = ap (λ t. line_then start (read_lines form.read n (start + 1)) (form.read start t)) (sym (joined-cons x xs rest)) ∙ ap (line_then start (read_lines form.read n (start + 1))) (form.complete start x (concat (map form.line xs) ++ rest) good.0) in
      let inner = prepend_err x (read_lines form.read n (start + 1) (concat (map form.line xs) ++ rest)) fault (sym read_x ∙ e) in
      let h = lines_later n (start + 1) xs rest fault good.1 (omega arith) inner in
      omega (arith, h)
