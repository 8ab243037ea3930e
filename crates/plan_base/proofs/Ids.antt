-- Ids, directions and amounts that are written are read back.
use Rattle.std.proofs.Common.{◌≡◌, ℕ, zero, suc, ◌+◌, ◌*◌, ◌/◌, ◌%◌, ◌<◌, ◌^◌, Bool, true, false, List, [], ◌∷◌, ◌++◌, length, Some, refl, arith}
use Rattle.std.specs.Prelude.{decimal, nat_le, ◌==◌}
use Rattle.std.specs.Fmt.{digits, digits_onto, digit_glyph}
use Rattle.std.specs.List.{list_all, before_first, after_first, position_or_len}
use Rattle.std.specs.Char.{is_ascii_digit}
use Rattle.std.proofs.Math.Seq.{take-append_seam, drop-append-add}
use Rattle.std.proofs.lemmas.Bool.{and_parts, and_from, both_ways, cond_both, eq-eqb, ne_eqb, lt-ltb}
use Rattle.std.proofs.lemmas.Bool.Decides.{nat_tests}
use Rattle.std.proofs.lemmas.List.Folds.{list_all-append}
use Rattle.plan_base.specs.Number.{number_of}
use Rattle.plan_base.specs.Scid.{scid_from, scid_new, scid_of, scid_text, block_of, transaction_of, output_of}
use Rattle.plan_base.specs.Dir.{Direction, dir_of, dir_text, side_of}
use Rattle.plan_base.proofs.Numbers.{written_number}

-- a mark after bytes that differ from it is the first one
place_of_mark : (p : ℕ → Bool) (mark : ℕ) (xs ys : List ℕ) → list_all p xs ≡ true → p mark ≡ false
    → position_or_len (λ c. c == mark) (xs ++ mark ∷ ys) ≡ length xs
place_of_mark p mark [] ys good apart = rw (eq-eqb mark mark refl) refl
place_of_mark p mark (x ∷ xs) ys good apart =
    let parts = and_parts (p x) (list_all p xs) good in
    let other : (x == mark) ≡ false = ne_eqb x mark (λ e. both_ways (p mark) apart (rw e at parts.0)) in
    rw (other, place_of_mark p mark xs ys parts.1 apart) (omega arith)

pub before_mark : (p : ℕ → Bool) (mark : ℕ) (xs ys : List ℕ) → list_all p xs ≡ true → p mark ≡ false
    → before_first (λ c. c == mark) (xs ++ mark ∷ ys) ≡ xs
before_mark p mark xs ys good apart = rw (place_of_mark p mark xs ys good apart) (take-append_seam xs (mark ∷ ys))

pub after_mark : (p : ℕ → Bool) (mark : ℕ) (xs ys : List ℕ) → list_all p xs ≡ true → p mark ≡ false
    → after_first (λ c. c == mark) (xs ++ mark ∷ ys) ≡ ys
after_mark p mark xs ys good apart = rw (place_of_mark p mark xs ys good apart) (drop-append-add xs (mark ∷ ys) 1)

-- `decimal` writes digits only
digits_onto_digits : (k n : ℕ) (acc : List ℕ) → list_all is_ascii_digit acc ≡ true
    → list_all is_ascii_digit (digits_onto k 10 false n acc) ≡ true
digits_onto_digits zero n acc good = good
digits_onto_digits (suc k) n acc good =
    let digit : is_ascii_digit (digit_glyph false (n % 10)) ≡ true = grind (arith, nat_tests) in
    let more : list_all is_ascii_digit (digit_glyph false (n % 10) ∷ acc) ≡ true = and_from _ _ digit good in
    cond_both (n / 10 == 0) (digit_glyph false (n % 10) ∷ acc) (digits_onto k 10 false (n / 10) (digit_glyph false (n % 10) ∷ acc))
    (λ ds. list_all is_ascii_digit ds ≡ true) (λ _. more) (λ _. digits_onto_digits k (n / 10) _ more)

pub decimal_digits : (n : ℕ) → list_all is_ascii_digit (decimal n) ≡ true
unfolding digits
decimal_digits n = digits_onto_digits 64 n [] refl

scid_of_parts : (a b c : List ℕ) → list_all is_ascii_digit a ≡ true → list_all is_ascii_digit b ≡ true
    → scid_of (a ++ 120 ∷ (b ++ 120 ∷ c)) ≡ scid_from (number_of a) (number_of b) (number_of c)
unfolding scid_of
scid_of_parts a b c first second =
    rw (
      before_mark is_ascii_digit 120 a (b ++ 120 ∷ c) first refl,
      after_mark is_ascii_digit 120 a (b ++ 120 ∷ c) first refl,
      before_mark is_ascii_digit 120 b c second refl,
      after_mark is_ascii_digit 120 b c second refl,
    ) refl

pub written_scid : (n : ℕ) → n < 2 ^ 64 → scid_of (scid_text n) ≡ Some n
unfolding scid_text scid_new
written_scid n small =
    let block : block_of n < 2 ^ 24 = omega arith in
    let transaction : transaction_of n < 2 ^ 24 = omega arith in
    let output : output_of n < 2 ^ 16 = omega arith in
    let same : block_of n * 2 ^ 40 + transaction_of n * 2 ^ 16 + output_of n ≡ n = omega arith in
    rw (
      scid_of_parts (decimal (block_of n)) (decimal (transaction_of n)) (decimal (output_of n)) (decimal_digits _) (decimal_digits _),
      written_number (block_of n) (omega arith),
      written_number (transaction_of n) (omega arith),
      written_number (output_of n) (omega arith),
      lt-ltb _ _ block,
      lt-ltb _ _ transaction,
      lt-ltb _ _ output,
      same,
    ) refl

above_slash : (xs : List ℕ) → list_all is_ascii_digit xs ≡ true → list_all (nat_le 48) xs ≡ true
above_slash [] good = refl
above_slash (x ∷ xs) good =
    let parts = and_parts (is_ascii_digit x) (list_all is_ascii_digit xs) good in
    let high : nat_le 48 x ≡ true = grind (arith, nat_tests, parts.0) in
    and_from _ _ high (above_slash xs parts.1)

scid_text_above_slash : (n : ℕ) → list_all (nat_le 48) (scid_text n) ≡ true
unfolding scid_text
scid_text_above_slash n =
    rw (
      list_all-append (nat_le 48) (decimal (block_of n)) _,
      above_slash (decimal (block_of n)) (decimal_digits _),
      list_all-append (nat_le 48) (decimal (transaction_of n)) _,
      above_slash (decimal (transaction_of n)) (decimal_digits _),
      above_slash (decimal (output_of n)) (decimal_digits _),
    ) refl

side_of_digit : (side : ℕ) → side < 2 → side_of ((48 + side) ∷ []) ≡ Some side
side_of_digit zero h = refl
side_of_digit (suc zero) h = refl
side_of_digit (suc (suc n)) h = absurd (omega arith)

-- a direction that is written is read back if its id is
pub written_dir : (dir : Direction) → dir.side < 2 → scid_of (scid_text dir.scid) ≡ Some dir.scid
    → dir_of (dir_text dir) ≡ Some dir
unfolding dir_of
written_dir dir good back =
    let text = scid_text dir.scid in
    let side = (48 + dir.side) ∷ [] in
    let high = scid_text_above_slash dir.scid in
    rw (before_mark (nat_le 48) 47 text side high refl, after_mark (nat_le 48) 47 text side high refl, back, side_of_digit dir.side good) refl
