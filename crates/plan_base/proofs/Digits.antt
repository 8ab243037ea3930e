-- The table of digits has the value of each digit.
use Rattle.std.proofs.Common.{◌≡◌, ℕ, zero, suc, ◌+◌, ◌<◌, ◌==◌, ◌&&◌, List, [], ◌∷◌, length, get_or, Bool, true, refl, ap, ◌∙◌, arith, eqb-true}
use Rattle.std.specs.Prelude.{unwrap_or}
use Rattle.std.proofs.lemmas.Bool.{and_parts}
use Rattle.hex.specs.Hex.{hex_digit_value}
use Rattle.plan_base.specs.declared.node_id.TheConstants.{DIGIT_VALUES}

abbrev value_or_none : ℕ → ℕ
value_or_none c = unwrap_or (hex_digit_value c) 255

-- the values are those of c and the bytes after it
abbrev agree_from : ℕ → List ℕ → Bool
agree_from c [] = true
agree_from c (v ∷ vs) = (v == value_or_none c) && agree_from (suc c) vs

value_in : (c : ℕ) (vs : List ℕ) (k d : ℕ) → agree_from c vs ≡ true → k < length vs → get_or vs k d ≡ value_or_none (c + k)
value_in c [] k d e h = absurd (omega arith)
value_in c (v ∷ vs) zero d e h =
    let parts = and_parts (v == value_or_none c) (agree_from (suc c) vs) e in
    let same : c ≡ c + 0 = omega arith in
    eqb-true v (value_or_none c) parts.0 ∙ ap value_or_none same
value_in c (v ∷ vs) (suc k) d e h =
    let parts = and_parts (v == value_or_none c) (agree_from (suc c) vs) e in
    let same : suc c + k ≡ c + suc k = omega arith in
    value_in (suc c) vs k d parts.1 (omega arith) ∙ ap value_or_none same

pub value_in_table : (c d : ℕ) → c < 256 → get_or DIGIT_VALUES c d ≡ unwrap_or (hex_digit_value c) 255
value_in_table c d h =
    let same : 0 + c ≡ c = omega arith in
    value_in 0 DIGIT_VALUES c d refl h ∙ ap value_or_none same
