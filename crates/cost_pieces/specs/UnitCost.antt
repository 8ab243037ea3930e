-- The cost of one unit over a piece.
use Rattle.std.specs.Prelude.{ℕ, ◌+◌, ◌-◌, ◌*◌, ◌/◌, ◌^◌, min, max, ℤ, pos, ◌-ℤ◌, nat_abs}
use Rattle.cost_pieces.specs.declared.unit.Terms.{Terms}
use Rattle.cost_pieces.specs.Scale.{slope_of, delay_factor}

-- the uncertainty of a piece: its slope over the width of the known bounds, at most 10^9
abbrev pub uncertainty_of : ℕ → ℕ → ℕ → ℕ
uncertainty_of piece lo hi = min (10 ^ 9) (slope_of piece * 10 ^ 12 / max 1 (hi - lo))

-- the weight of the fee for the asked amount, at most 10^9
abbrev pub fee_weight_of : ℕ → ℕ → ℕ → ℕ
fee_weight_of base ppm amount = min (10 ^ 9) (100 * ppm + base * 10 ^ 8 / amount)

-- how many hundredths a bias leaves of a cost
abbrev pub biased : ℤ → ℕ
biased bias = nat_abs (pos 100 -ℤ bias)

-- uncertainty, fee and delay, weighed by the levels, then the bias, and 1 more
abbrev pub unit_cost_of : ℕ → Terms → ℕ → ℕ → ℕ
unit_cost_of piece t fee_level delay_level =
    let m = 2 ^ fee_level in
    let uncertainty = uncertainty_of piece t.lo t.hi in
    let fee = fee_weight_of t.base t.ppm t.amount in
    (uncertainty * (256 - m) + fee * m + t.delay * delay_factor delay_level) * biased t.bias / 100 + 1
