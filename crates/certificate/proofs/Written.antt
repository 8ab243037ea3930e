-- A number is read if and only if `decimal` wrote it.
use Rattle.std.proofs.Common.{ℕ, zero, suc, ◌+◌, ◌-◌, ◌*◌, ◌/◌, ◌%◌, ◌^◌, ◌<◌, ◌≤◌, ◌≡◌, Bool, List, [], ◌∷◌, ◌++◌, true, false, cond, length, take, drop, get_or, Option, Some, None, refl, sym, ap, ◌∙◌, inl, inr, arith, append_assoc, take-append-drop, le-ltb, lt-ltb, lt_of_lt_of_le}
use Rattle.std.proofs.Math.Nat.{pow-le-pow_right}
use Rattle.std.specs.Prelude.{◌&&◌, ◌==◌, decimal, slice_index, nat_lt, if◌then◌else◌}
use Rattle.std.specs.Str.{all_ascii_digits}
use Rattle.std.specs.Char.{is_ascii_digit}
use Rattle.std.proofs.lemmas.Bool.{and_parts, leb-true, cases_lt, false≢true, eq-eqb, ne_eqb, eqb-false, ltb-false}
use Rattle.std.proofs.lemmas.Option.{none-some, same_Some}
use Rattle.std.proofs.lemmas.List.{append-nil, length-take, length-take-le, take_at, drop_at, get_or_append_left, get_or-take}
use Rattle.std.proofs.lemmas.List.Sums.{prefix_len-le-length}
use Rattle.std.proofs.lemmas.Str.Parse.{digits_value_short}
use Rattle.std.proofs.lemmas.Fmt.{decimal_is_IsNumeral_wide, decimal_step_wide, decimal_digit, decimal_by_steps_wide, length-decimal-le_wide}
use Rattle.certificate.specs.Reading.{read_on, digit_count, read_number}
use Rattle.certificate.proofs.Decimals.{own}

-- the text doesn't begin with a digit
abbrev pub NoDigit : List ℕ → Type 0
NoDigit text = is_ascii_digit (slice_index text 0) ≡ false

pub digit_range : (c : ℕ) → is_ascii_digit c ≡ true → (48 ≤ c) × (c ≤ 57)
digit_range c is = let h = and_parts _ _ is in (leb-true 48 c h.0, leb-true c 57 h.1)

read_on-le : (n : ℕ) (ds : List ℕ) → n ≤ read_on n ds
read_on-le n [] = omega arith
read_on-le n (c ∷ cs) = omega (arith, read_on-le (n * 10 + (c - 48)) cs)

written_after : (n : ℕ) (ds : List ℕ) → 0 < n → all_ascii_digits ds ≡ true → read_on n ds < 10 ^ 64 → decimal (read_on n ds) ≡ decimal n ++ ds
written_after n [] some all small = sym (append-nil (decimal n))
written_after n (c ∷ cs) some all small =
    let m : ℕ = n * 10 + (c - 48) in
    let h = and_parts _ _ all in
    let r = digit_range c h.0 in
    let front : m / 10 ≡ n = omega (arith, r.0, r.1) in
    let end : 48 + m % 10 ≡ c = omega (arith, r.0, r.1) in
    let fits : m < 10 ^ 64 = omega (arith, read_on-le m cs, small) in
    written_after m cs (omega arith) h.1 small
    ∙ ap (λ x. x ++ cs) (decimal_step_wide m (omega arith) fits ∙ (λ i. decimal (front i) ++ (end i ∷ [])))
    ∙ append_assoc (decimal n) (c ∷ []) cs

-- digits with no leading zero are what `decimal` writes of their value
written : (ds : List ℕ) → all_ascii_digits ds ≡ true → 0 < length ds → (get_or ds 0 0 ≡ 48 → length ds ≡ 1) → read_on 0 ds < 10 ^ 64 → decimal (read_on 0 ds) ≡ ds
written [] all some lead small = absurd (omega arith)
written (c ∷ []) all some lead small =
    let r = digit_range c (and_parts _ _ all).0 in
    decimal_digit (0 * 10 + (c - 48)) (omega (arith, r.0, r.1)) ∙ ap (λ x. x ∷ []) (omega (arith, r.0, r.1))
written (c ∷ e ∷ cs) all some lead small =
    let h = and_parts _ _ all in
    let r = digit_range c h.0 in
    let other : c ≡ 48 → ⊥ = λ z. omega (arith, lead z) in
    let is : 48 + (0 * 10 + (c - 48)) ≡ c = omega (arith, r.0) in
    written_after (0 * 10 + (c - 48)) (e ∷ cs) (omega (arith, r.0)) h.1 small
    ∙ ap (λ x. x ++ (e ∷ cs)) (decimal_digit (0 * 10 + (c - 48)) (omega (arith, r.1)) ∙ ap (λ x. x ∷ []) is)

counted : (s : List ℕ) → all_ascii_digits (take (digit_count s) s) ≡ true
counted [] = refl
counted (c ∷ s) = by (is_ascii_digit c) refl (counted s)
  where
    by : (b : Bool) → is_ascii_digit c ≡ b → all_ascii_digits (take (digit_count s) s) ≡ true → all_ascii_digits (take (cond b (1 + digit_count s) 0) (c ∷ s)) ≡ true
    by true e rest = let n : 1 + digit_count s ≡ suc (digit_count s) = omega arith in ap (λ k. all_ascii_digits (take k (c ∷ s))) n ∙ ap (λ b. b && all_ascii_digits (take (digit_count s) s)) e ∙ rest
    by false e rest = refl

take_front : (k n : ℕ) (s : List ℕ) → k ≤ n → take k (take n s) ≡ take k s
take_front zero n s l = refl
take_front (suc k) zero s l = absurd (omega arith)
take_front (suc k) (suc n) [] l = refl
take_front (suc k) (suc n) (c ∷ s) l = ap (λ r. c ∷ r) (take_front k n s (omega arith))

-- what was read stands at the front
pub read_number_sound : (places most : ℕ) (text rest : List ℕ) (n : ℕ) → places ≤ 64 → read_number places most text ≡ Some (n, rest) → (n ≤ most) × (text ≡ decimal n ++ rest)
unfolding read_number
read_number_sound places most text rest n few e =
    let front = take places text in
    let len = digit_count front in
    let ds = take len front in
    let one = cond_none (len == 0) _ _ e in
    let two = cond_none (nat_lt 1 len && (slice_index text 0 == 48)) _ _ one.1 in
    let three = cond_none (nat_lt most (read_on 0 ds)) _ _ two.1 in
    let same = same_Some _ _ three.1 in
    let value : read_on 0 ds ≡ n = ap (λ p. p.0) same in
    let after : drop len text ≡ rest = ap (λ p. p.1) same in
    let within : len ≤ length front = prefix_len-le-length is_ascii_digit front in
    let short : len ≤ places = omega (arith, within, length-take places text) in
    let long : length ds ≡ len = length-take-le len front within in
    let some : 0 < len = let z = eqb-false len 0 one.0 in omega (arith, z) in
    let begins : ds ≡ take len text = take_front len places text short in
    let alone : get_or ds 0 0 ≡ 48 → length ds ≡ 1 = λ z. single len ds text some long begins two.0 z in
    let small : read_on 0 ds < 10 ^ 64 = digits_value_short own ds 64 (counted front) (omega (arith, long, short)) in
    let spelled = written ds (counted front) (omega (arith, long, some)) alone small in (
      omega (arith, ltb-false most (read_on 0 ds) three.0, value),
      sym (take-append-drop len text) ∙ ap (λ x. x ++ drop len text) (sym begins ∙ sym spelled ∙ ap decimal value) ∙ ap (λ x. decimal n ++ x) after,
    )
  where
    cond_none : {A : Type 0} (b : Bool) (o : Option A) (y : A) → cond b None o ≡ Some y → (b ≡ false) × (o ≡ Some y)
    cond_none true o y e = absurd (none-some y e)
    cond_none false o y e = (refl, e)

    single : (len : ℕ) (ds text : List ℕ) → 0 < len → length ds ≡ len → ds ≡ take len text → (nat_lt 1 len && (slice_index text 0 == 48)) ≡ false → get_or ds 0 0 ≡ 48 → length ds ≡ 1
    single len ds text some long begins test zero_first = elim (cases_lt 1 len) [
      | inl more ↦
          let zero_there : slice_index text 0 ≡ 48 = sym (get_or-take len text 0 0 some) ∙ ap (λ xs. get_or xs 0 0) (sym begins) ∙ zero_first in
          absurd (false≢true (sym test ∙ ap (λ b. b && (slice_index text 0 == 48)) (lt-ltb 1 len more) ∙ eq-eqb (slice_index text 0) 48 zero_there))
      | inr one ↦ omega (arith, one, some, long)
    ]

count_is : (ds rest : List ℕ) (places : ℕ) → all_ascii_digits ds ≡ true → length ds ≤ places → NoDigit rest → digit_count (take places (ds ++ rest)) ≡ length ds
count_is [] [] zero all le stop = refl
count_is [] [] (suc places) all le stop = refl
count_is [] (c ∷ rest) zero all le stop = refl
count_is [] (c ∷ rest) (suc places) all le stop = ap (λ b. cond b (1 + digit_count (take places rest)) 0) stop
count_is (d ∷ ds) rest zero all le stop = absurd (omega arith)
count_is (d ∷ ds) rest (suc places) all le stop =
    let h = and_parts _ _ all in
    let more = count_is ds rest places h.1 (omega arith) stop in
    ap (λ b. cond b (1 + digit_count (take places (ds ++ rest))) 0) h.0 ∙ omega (arith, more)

pub first_digit : (n : ℕ) → n < 10 ^ 64 → (0 < length (decimal n)) × (0 < n → 48 < get_or (decimal n) 0 0)
first_digit = decimal_by_steps_wide (λ n ds. (0 < length ds) × (0 < n → 48 < get_or ds 0 0)) (λ n l. (omega arith, λ some. omega arith)) more
  where
    more : (n : ℕ) (ds : List ℕ) → 10 ≤ n → (0 < length ds) × (0 < n / 10 → 48 < get_or ds 0 0) → (0 < length (ds ++ ((48 + n % 10) ∷ []))) × (0 < n → 48 < get_or (ds ++ ((48 + n % 10) ∷ [])) 0 0)
    more n [] l h = absurd (omega (arith, h.0))
    more n (d ∷ ds) l h = (omega arith, λ some. h.1 (omega arith))

no_leading_zero : (n : ℕ) (rest : List ℕ) → n < 10 ^ 64 → (nat_lt 1 (length (decimal n)) && (slice_index (decimal n ++ rest) 0 == 48)) ≡ false
no_leading_zero n rest small = elim (cases_lt n 10) [
  | inl one ↦ ap (λ b. b && (slice_index (decimal n ++ rest) 0 == 48)) (le-ltb 1 (length (decimal n)) (omega (arith, ap length (decimal_digit n one))))
  | inr more ↦
      let first = first_digit n small in
      let some : 0 < n = omega (arith, more) in
      let same = get_or_append_left (decimal n) rest 0 0 first.0 in
      let other = ne_eqb (slice_index (decimal n ++ rest) 0) 48 (λ e. omega (arith, first.1 some, same, e)) in
      ap (λ b. nat_lt 1 (length (decimal n)) && b) other ∙ and-false (nat_lt 1 (length (decimal n)))
]
  where
    and-false : (b : Bool) → (b && false) ≡ false
    and-false true = refl
    and-false false = refl

-- what `decimal` wrote is read
pub read_number_complete : (places most n : ℕ) (rest : List ℕ) → 0 < places → places ≤ 64 → n ≤ most → n < 10 ^ places → NoDigit rest → read_number places most (decimal n ++ rest) ≡ Some (n, rest)
unfolding read_number
read_number_complete places most n rest some few le fits stop =
    let wide : n < 10 ^ 64 = lt_of_lt_of_le fits (pow-le-pow_right (omega arith) few) in
    let numeral = decimal_is_IsNumeral_wide n wide in
    let ds = decimal n in
    let all : all_ascii_digits ds ≡ true = own.from ds numeral.0.1 in
    let short : length ds ≤ places = length-decimal-le_wide places n some fits wide in
    let count : digit_count (take places (ds ++ rest)) ≡ length ds = count_is ds rest places all short stop in
    let begins : take (length ds) (take places (ds ++ rest)) ≡ ds = take_front (length ds) places (ds ++ rest) short ∙ take_at ds rest (length ds) refl in
    let value : read_on 0 ds ≡ n = own.same ds numeral.0.1 ∙ numeral.1 in
    let filled : (len : ℕ) → len ≡ length ds → answer (ds ++ rest) (take places (ds ++ rest)) most len ≡ answer (ds ++ rest) (take places (ds ++ rest)) most (length ds) = λ len e. ap (answer (ds ++ rest) (take places (ds ++ rest)) most) e in
    filled (digit_count (take places (ds ++ rest))) count ∙ final n rest most ds (take places (ds ++ rest)) begins value (first_digit n wide).0 (no_leading_zero n rest wide) le
  where
    answer : List ℕ → List ℕ → ℕ → ℕ → Option (ℕ × List ℕ)
    answer text front most len = if len == 0 then None else (if nat_lt 1 len && (slice_index text 0 == 48) then None else (if nat_lt most (read_on 0 (take len front)) then None else Some (read_on 0 (take len front), drop len text)))

    final : (n : ℕ) (rest : List ℕ) (most : ℕ) (ds front : List ℕ) → take (length ds) front ≡ ds → read_on 0 ds ≡ n → 0 < length ds → (nat_lt 1 (length ds) && (slice_index (ds ++ rest) 0 == 48)) ≡ false → n ≤ most → answer (ds ++ rest) front most (length ds) ≡ Some (n, rest)
    final n rest most ds front begins value some lead le =
        let number : read_on 0 (take (length ds) front) ≡ n = ap (read_on 0) begins ∙ value in
        let after : drop (length ds) (ds ++ rest) ≡ rest = drop_at ds rest (length ds) refl in
        rw (ne_eqb (length ds) 0 (λ e. omega (arith, some, e)), lead, number, le-ltb most n le, after) refl
