-- Amounts that are written are read back.
use Rattle.std.proofs.Common.{◌≡◌, ℕ, ◌-◌, ◌≤◌, true, false, List, ◌++◌, length, Some, refl, sym, arith}
use Rattle.std.specs.Prelude.{decimal, codes, ◌≢◌}
use Rattle.std.specs.List.{list_all}
use Rattle.std.specs.Char.{is_ascii_digit}
use Rattle.std.proofs.Math.Seq.{drop-append_seam, take-append_seam}
use Rattle.std.proofs.lemmas.Bool.{and_parts, false≢true, le-leb}
use Rattle.std.proofs.lemmas.List.{length-append}
use Rattle.std.proofs.lemmas.List.Folds.{list_all-append}
use Rattle.std.proofs.lemmas.Str.Pattern.{ends_text}
use Rattle.plan_base.specs.Amount.{without_unit, msat_of}
use Rattle.plan_base.specs.declared.amount.TheConstants.{MAX}
use Rattle.plan_base.proofs.Numbers.{written_number}
use Rattle.plan_base.proofs.Ids.{decimal_digits}

-- a text with `msat` at its end
pub with_unit : (text digits : List ℕ) → text ≡ digits ++ codes "msat" → digits ≡ without_unit text
unfolding without_unit
with_unit text digits e =
    let front : length (digits ++ codes "msat") - 4 ≡ length digits = omega (arith, length-append digits (codes "msat")) in
    rw (e, front, drop-append_seam digits (codes "msat")) (sym (take-append_seam digits (codes "msat")))

-- a text that does not end with `msat`
pub with_no_unit : (text : List ℕ) → ((front : List ℕ) → text ≢ front ++ codes "msat") → text ≡ without_unit text
unfolding without_unit
with_no_unit text none = rw (sym (ends_text false (codes "msat") text none)) refl

pub written_msat : (n : ℕ) → n ≤ MAX → msat_of (decimal n) ≡ Some n
written_msat n small =
    let none : (front : List ℕ) → decimal n ≢ front ++ codes "msat" = λ front e.
    let digits : list_all is_ascii_digit (front ++ codes "msat") ≡ true = rw e at (decimal_digits n) in
    let parts = and_parts (list_all is_ascii_digit front) false (rw (list_all-append is_ascii_digit front (codes "msat")) at digits) in
    false≢true parts.1 in
    rw (← with_no_unit (decimal n) none, written_number n (omega arith), le-leb _ _ small) refl
