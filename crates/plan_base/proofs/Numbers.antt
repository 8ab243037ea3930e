-- Decimal texts, read and written.
use Rattle.std.proofs.Common.{◌≡◌, ℕ, ◌<◌, ◌≤◌, ◌^◌, true, List, length, Some, Result, refl, arith, rules}
use Rattle.std.specs.Prelude.{decimal, nat_lt, nat_le}
use Rattle.std.specs.List.{list_all}
use Rattle.std.specs.Char.{is_ascii_digit}
use Rattle.std.specs.Result.{result_ok}
use Rattle.std.specs.Str.Parse.{digits_value, ParsesUnsigned}
use Rattle.std.proofs.lemmas.Bool.{and_parts, ltb-true, leb-true, lt-ltb, le-leb}
use Rattle.std.proofs.lemmas.Str.Parse.{IsNumeralModel, numerals_by_value, digits_value_short, parse_gives}
use Rattle.std.proofs.lemmas.Fmt.{digits_decimal, digits_value-decimal, length-decimal-le, decimal_nonempty}
use Rattle.plan_base.specs.Number.{is_number, number_of}

pub own : IsNumeralModel (λ ds. list_all is_ascii_digit ds ≡ true) (digits_value 10)
own = numerals_by_value _ (search rules)

-- the result of `parse` for a number's text
pub parsed_number : {E : Type 0} (text : List ℕ) (r : Result ℕ E) → ParsesUnsigned 128 10 text r → is_number text ≡ true
    → result_ok r ≡ number_of text
unfolding number_of
parsed_number text r h good =
    let parts = and_parts _ _ good in
    let more = and_parts _ _ parts.1 in
    let some : 0 < length text = ltb-true _ _ parts.0 in
    let short : length text ≤ 20 = leb-true _ _ more.0 in
    let fits : digits_value 10 text < 2 ^ 128 = omega (arith, digits_value_short own text 20 more.1 short) in
    rw (parse_gives own 128 text r h more.1 some fits, good) refl

-- a number that is written is read back
pub written_number : (n : ℕ) → n < 2 ^ 64 → number_of (decimal n) ≡ Some n
unfolding number_of
written_number n small =
    let some : nat_lt 0 (length (decimal n)) ≡ true = lt-ltb _ _ (decimal_nonempty n small) in
    let short : nat_le (length (decimal n)) 20 ≡ true = le-leb _ _ (length-decimal-le 20 n (omega arith) (omega arith) small) in
    rw (some, short, digits_decimal own n small, digits_value-decimal own n small) refl
