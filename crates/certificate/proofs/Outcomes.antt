-- What a step of the reading gave, at a value and at a line.
use Rattle.std.proofs.Common.{◌≡◌, ℕ, List, ◌∷◌, Option, Some, None, Result, Ok, Err, refl, sym, ap}
use Rattle.std.specs.Prelude.{is_ok}
use Rattle.std.proofs.lemmas.Bool.{false≢true}
use Rattle.certificate.specs.Reading.{then_read, or_line, prepend}

pub ok-err : {A : Type 0} (x : A) (line : ℕ) → ◌≡◌ {A = Result A ℕ} (Ok x) (Err line) → ⊥
ok-err x line e = false≢true (sym (ap is_ok e))

pub same_Ok : {A : Type 0} (x y : A) → ◌≡◌ {A = Result A ℕ} (Ok x) (Ok y) → x ≡ y
same_Ok x y e = ap (λ r. elim r [ Ok z ↦ z | Err _ ↦ x ]) e

pub same_Err : {A : Type 0} (m n : ℕ) → ◌≡◌ {A = Result A ℕ} (Err m) (Err n) → m ≡ n
same_Err m n e = ap (λ r. elim r [ Ok _ ↦ m | Err line ↦ line ]) e

pub then_ok : {A B P : Type 0} (f : A → Result B ℕ) (r : Result A ℕ) (y : B) → then_read f r ≡ Ok y → ((x : A) → r ≡ Ok x → f x ≡ Ok y → P) → P
then_ok f (Ok x) y e k = k x refl e
then_ok f (Err line) y e k = absurd (ok-err y line (sym e))

-- a failure is this step's, or the next one's
pub then_err : {A B P : Type 0} (f : A → Result B ℕ) (r : Result A ℕ) (line : ℕ) → then_read f r ≡ Err line → (r ≡ Err line → P) → ((x : A) → r ≡ Ok x → f x ≡ Err line → P) → P
then_err f (Ok x) line e here later = later x refl e
then_err f (Err m) line e here later = here (ap Err (same_Err m line e))

pub or_line_ok : {A : Type 0} (line : ℕ) (o : Option A) (x : A) → or_line line o ≡ Ok x → o ≡ Some x
or_line_ok line (Some z) x e = ap Some (same_Ok z x e)
or_line_ok line None x e = absurd (ok-err x line (sym e))

pub or_line_err : {A : Type 0} (line m : ℕ) (o : Option A) → or_line line o ≡ Err m → (o ≡ None) × (m ≡ line)
or_line_err line m (Some z) e = absurd (ok-err z m e)
or_line_err line m None e = (refl, sym (same_Err line m e))

pub prepend_ok : {A : Type 0} (x : A) (r : Result (List A × List ℕ) ℕ) (ys : List A) (rest : List ℕ) → prepend x r ≡ Ok (ys, rest) → (xs : List A) × (r ≡ Ok (xs, rest)) × (x ∷ xs ≡ ys)
prepend_ok x (Ok (xs, t)) ys rest e = let same = same_Ok _ _ e in (xs, ap (λ s. Ok (xs, s)) (ap (λ p. p.1) same), ap (λ p. p.0) same)
prepend_ok x (Err line) ys rest e = absurd (ok-err _ line (sym e))

pub prepend_err : {A : Type 0} (x : A) (r : Result (List A × List ℕ) ℕ) (line : ℕ) → prepend x r ≡ Err line → r ≡ Err line
prepend_err x (Ok p) line e = absurd (ok-err _ line e)
prepend_err x (Err m) line e = ap Err (same_Err m line e)
