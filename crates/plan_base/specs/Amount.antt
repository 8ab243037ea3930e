-- Amounts in msat as texts: a number of at most MAX, with or without `msat` after it.
use Rattle.std.specs.Prelude.{ℕ, ◌-◌, nat_eq, nat_le, List, length, take, codes, Option, Some, None, option_and_then, if◌then◌else◌}
use Rattle.std.specs.List.{ends_with}
use Rattle.plan_base.specs.declared.amount.TheConstants.{MAX}
use Rattle.plan_base.specs.Number.{number_of}

-- the text without `msat` at its end
unfoldable pub without_unit : List ℕ → List ℕ
without_unit text = if ends_with nat_eq text (codes "msat") then take (length text - 4) text else text

-- the number that an amount's text represents, which may be above MAX
abbrev pub msat_number : List ℕ → Option ℕ
msat_number text = number_of (without_unit text)

-- the number if it is an amount
abbrev pub at_most_max : ℕ → Option ℕ
at_most_max number = if nat_le number MAX then Some number else None

-- the amount that a text represents
abbrev pub msat_of : List ℕ → Option ℕ
msat_of text = option_and_then at_most_max (msat_number text)
