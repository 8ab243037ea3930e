-- Reading a number gives what `decimal` wrote.
use Rattle.std.proofs.Common.{rules, ℕ, zero, suc, ◌+◌, ◌-◌, ◌*◌, ◌^◌, ◌<◌, ◌≤◌, ◌≡◌, List, [], ◌∷◌, ◌++◌, true, false, length, take, get_or, refl, sym, ap, ◌∙◌, subst, arith}
use Rattle.std.specs.Prelude.{◌&&◌}
use Rattle.std.specs.Str.{all_ascii_digits}
use Rattle.std.specs.Char.{is_ascii_digit}
use Rattle.std.proofs.lemmas.Bool.{and_parts}
use Rattle.std.proofs.lemmas.List.{take_more, length-take-le, length-take, get_or-take}
use Rattle.std.proofs.lemmas.List.Sums.{prefix_len_is}
use Rattle.std.proofs.lemmas.Str.Parse.{IsNumeralModel, numerals_by_fold, digits_value_short}
use Rattle.certificate.specs.Reading.{read_on, digit_count}

pub own : IsNumeralModel (λ ds. all_ascii_digits ds ≡ true) (read_on 0)
own = numerals_by_fold _ (search rules) read_on (search rules)

digits-push : (ds : List ℕ) (c : ℕ) → all_ascii_digits ds ≡ true → is_ascii_digit c ≡ true → all_ascii_digits (ds ++ c ∷ []) ≡ true
digits-push [] c all is = ap (λ b. b && true) is
digits-push (d ∷ ds) c all is = let h = and_parts _ _ all in ap (λ b. b && all_ascii_digits (ds ++ c ∷ [])) h.0 ∙ digits-push ds c h.1 is

value-push : (n : ℕ) (ds : List ℕ) (c : ℕ) → read_on n (ds ++ c ∷ []) ≡ read_on n ds * 10 + (c - 48)
value-push n [] c = refl
value-push n (d ∷ ds) c = value-push (n * 10 + (d - 48)) ds c

-- one digit more
pub digits_more : (s : List ℕ) (i : ℕ) → i < length s → all_ascii_digits (take i s) ≡ true → is_ascii_digit (get_or s i 0) ≡ true → all_ascii_digits (take (i + 1) s) ≡ true
digits_more s i l all is = subst (λ ds. all_ascii_digits ds ≡ true) (sym (take_more s i 0 l)) (digits-push (take i s) (get_or s i 0) all is)

pub value_more : (s : List ℕ) (i : ℕ) → i < length s → read_on 0 (take (i + 1) s) ≡ read_on 0 (take i s) * 10 + (get_or s i 0 - 48)
value_more s i l = ap (read_on 0) (take_more s i 0 l) ∙ value-push 0 (take i s) (get_or s i 0)

pub digit_at : (ds : List ℕ) (k : ℕ) → all_ascii_digits ds ≡ true → k < length ds → is_ascii_digit (get_or ds k 0) ≡ true
digit_at [] k all l = absurd (omega arith)
digit_at (d ∷ ds) zero all l = (and_parts _ _ all).0
digit_at (d ∷ ds) (suc k) all l = digit_at ds k (and_parts _ _ all).1 (omega arith)

-- the digits end if the next byte is none
pub digits_end : (s : List ℕ) (i : ℕ) → i ≤ length s → all_ascii_digits (take i s) ≡ true → (i < length s → is_ascii_digit (get_or s i 0) ≡ false) → digit_count s ≡ i
digits_end s i l all stop = prefix_len_is is_ascii_digit s i 0 l (λ k h. let inside : k < length (take i s) = omega (arith, length-take-le i s l) in sym (ap is_ascii_digit (get_or-take i s k 0 h)) ∙ digit_at (take i s) k all inside) stop

-- the value of at most n digits
pub value_small : (s : List ℕ) (i n : ℕ) → i ≤ n → all_ascii_digits (take i s) ≡ true → read_on 0 (take i s) < 10 ^ n
value_small s i n l all = digits_value_short own (take i s) n all (omega (arith, l, length-take i s))

-- a turn of the loop that reads digits
pub digits_turn : (s : List ℕ) (i j value byte : ℕ) → i ≡ j → j < length s → byte ≡ get_or s j 0 → is_ascii_digit byte ≡ true → all_ascii_digits (take i s) ≡ true → value ≡ read_on 0 (take i s) → (all_ascii_digits (take (i + 1) s) ≡ true) × (value * 10 + (byte - 48) ≡ read_on 0 (take (i + 1) s))
digits_turn s i j value byte same l at is all read =
    let here : byte ≡ get_or s i 0 = at ∙ ap (λ k. get_or s k 0) (sym same) in
    (digits_more s i (omega arith) all (ap is_ascii_digit (sym here) ∙ is), ap (λ v. v * 10 + (byte - 48)) read ∙ ap (λ b. read_on 0 (take i s) * 10 + (b - 48)) here ∙ sym (value_more s i (omega arith)))
