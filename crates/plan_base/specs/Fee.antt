-- The fee of BOLT 7.
use Rattle.std.specs.Prelude.{ℕ, ◌+◌, ◌*◌, ◌/◌}

-- the fee for forwarding an amount
abbrev pub fee_on : ℕ → ℕ → ℕ → ℕ
fee_on carried base ppm = base + carried * ppm / 1000000
