-- The numbers of arguments, read from their texts.
use Rattle.std.proofs.Common.{◌≡◌, ℕ, ◌<◌, ◌≤◌, ◌+◌, ◌-◌, ◌/◌, ◌%◌, ◌^◌, [], ◌∷◌, ◌++◌, Bool, true, false, Some, None, Result, Ok, Err, refl, sym, subst, ap, ◌∙◌, arith, if◌then◌else◌, decimal}
use Rattle.std.specs.Result.{result_ok}
use Rattle.std.specs.Str.Parse.{IsNumeral, ParsesUnsigned, digits_value, without_leading_plus}
use Rattle.std.proofs.lemmas.Fmt.{decimal_is_IsNumeral, decimal_by_steps}
use Rattle.std.proofs.lemmas.Str.Parse.{without_leading_plus_none}
use Rattle.clap.specs.Matches.{first_value}
use Rattle.clap.specs.Walk.{rows_of, first_of}
use Rattle.clap.specs.ValueTests.{accepts}
use Rattle.clap.specs.declared.builder.value_parser.ValueParser.TheVariants as vp
use Rattle.clap.specs.declared.parser.matches.Found.{Found}
use Rattle.clap.proofs.ValueTestLemmas.{accepts-Accepts, Accepts-accepts}
use Rattle.clap.proofs.WalkLemmas.{first_value-rows}
use Rattle.askrened.specs.Form.{Bytes, number_in}
use Rattle.askrened.specs.Words.{IsPlainName}

-- a text that no number can be read from
unread : (text : Bytes) (taken : Bool) → accepts false (vp.Unsigned 0 (2 ^ 64 - 1)) text ≡ taken → (taken ≡ true → ⊥)
    → None ≡ (if taken then Some (digits_value 10 (without_leading_plus text)) else None)
unread text true is none = absurd (none refl)
unread text false is none = refl

pub parsed_number : {E : Type 0} (text : Bytes) (r : Result ℕ E) → ParsesUnsigned 64 10 text r → result_ok r ≡ number_in text
unfolding number_in
parsed_number text (Ok number) h =
    let most : digits_value 10 (without_leading_plus text) ≤ 2 ^ 64 - 1 = omega (arith, h.0.1) in
    let taken : accepts false (vp.Unsigned 0 (2 ^ 64 - 1)) text ≡ true = Accepts-accepts false (vp.Unsigned 0 (2 ^ 64 - 1)) text (h.0.0, h.0.1, omega arith, most) in
    rw taken (ap (λ n. Some n) h.1)
parsed_number text (Err fault) h =
    unread text (accepts false (vp.Unsigned 0 (2 ^ 64 - 1)) text) refl (λ taken.
    let good = accepts-Accepts false (vp.Unsigned 0 (2 ^ 64 - 1)) text taken in h (good.0, good.1))

-- the first text of an argument
pub first_text : (f : Found) (name : Bytes) → first_value f name ≡ first_of name (rows_of f)
first_text f name = first_value-rows f name

-- ---- numbers as they are written

-- the first byte is a digit
abbrev BeginsWithDigit : ℕ → Bytes → Type 0
BeginsWithDigit n [] = ⊥
BeginsWithDigit n (x ∷ xs) = (48 ≤ x) × (x ≤ 57)

one_digit : (n : ℕ) → n < 10 → BeginsWithDigit n ((48 + n) ∷ [])
one_digit n few = (omega arith, omega (arith, few))

more_digits : (n : ℕ) (ds : Bytes) → 10 ≤ n → BeginsWithDigit (n / 10) ds → BeginsWithDigit n (ds ++ ((48 + n % 10) ∷ []))
more_digits n [] many begins = absurd begins
more_digits n (x ∷ xs) many begins = begins

begins_with_digit : (n : ℕ) → n < 2 ^ 64 → BeginsWithDigit n (decimal n)
begins_with_digit n small = decimal_by_steps BeginsWithDigit one_digit more_digits n small

digit_is_plain : (n : ℕ) (text : Bytes) → BeginsWithDigit n text → IsPlainName text
digit_is_plain n [] begins = absurd begins
digit_is_plain n (x ∷ xs) begins = λ (same : x ≡ 45). omega (arith, same, begins.0)

no_plus : (n : ℕ) (text : Bytes) → BeginsWithDigit n text → without_leading_plus text ≡ text
no_plus n [] begins = absurd begins
no_plus n (x ∷ xs) begins = without_leading_plus_none (x ∷ xs) (λ (same : x ≡ 43). omega (arith, same, begins.0))

pub decimal_is_plain : (n : ℕ) → n < 2 ^ 64 → IsPlainName (decimal n)
decimal_is_plain n small = digit_is_plain n (decimal n) (begins_with_digit n small)

decimal_no_plus : (n : ℕ) → n < 2 ^ 64 → without_leading_plus (decimal n) ≡ decimal n
decimal_no_plus n small = no_plus n (decimal n) (begins_with_digit n small)

taken_text : (low high n : ℕ) (text : Bytes) → without_leading_plus text ≡ text → IsNumeral 10 text → digits_value 10 text ≡ n → n < 2 ^ 64 → low ≤ n → n ≤ high → accepts false (vp.Unsigned low high) text ≡ true
taken_text low high n text same numeral is small least most =
    let value_is : digits_value 10 (without_leading_plus text) ≡ n = ap (digits_value 10) same ∙ is in
    Accepts-accepts false (vp.Unsigned low high) text (subst (IsNumeral 10) (sym same) numeral, rw value_is small, rw value_is least, rw value_is most)

pub decimal_taken : (low high n : ℕ) → n < 2 ^ 64 → low ≤ n → n ≤ high → accepts false (vp.Unsigned low high) (decimal n) ≡ true
decimal_taken low high n small least most =
    let is = decimal_is_IsNumeral n small in taken_text low high n (decimal n) (decimal_no_plus n small) is.0 is.1 small least most

read_text : (text : Bytes) (n : ℕ) → accepts false (vp.Unsigned 0 (2 ^ 64 - 1)) text ≡ true → digits_value 10 (without_leading_plus text) ≡ n → number_in text ≡ Some n
unfolding number_in
read_text text n taken is = rw (taken, is) refl

pub number_of_decimal : (n : ℕ) → n < 2 ^ 64 → number_in (decimal n) ≡ Some n
number_of_decimal n small =
    let is = decimal_is_IsNumeral n small in
    read_text (decimal n) n (decimal_taken 0 (2 ^ 64 - 1) n small (omega arith) (omega (arith, small))) (ap (digits_value 10) (decimal_no_plus n small) ∙ is.1)
