-- The bounds of the cost of a unit.
use Rattle.std.proofs.Common.{ℕ, zero, suc, ◌*◌, ◌^◌, ◌≤◌, arith}
use Rattle.std.specs.Prelude.{ℤ, pos, negsuc, ◌≤ℤ◌}
use Rattle.std.proofs.lemmas.Nat.{mul-le}
use Rattle.std.proofs.lemmas.Int.{ints}
use Rattle.cost_pieces.specs.declared.unit.Terms.{Terms}
use Rattle.cost_pieces.specs.Scale.{delay_factor}
use Rattle.cost_pieces.specs.UnitCost.{uncertainty_of, fee_weight_of, biased, unit_cost_of}
use Rattle.cost_pieces.proofs.Bounds.{weighed}
use Rattle.cost_pieces.proofs.Rooms.{div_rises}
use Rattle.flow_model.specs.declared.limits.TheConstants.{COST_MAX}

power_most : (k : ℕ) → k ≤ 8 → 2 ^ k ≤ 256
power_most zero l = omega arith
power_most (suc zero) l = omega arith
power_most (suc (suc zero)) l = omega arith
power_most (suc (suc (suc zero))) l = omega arith
power_most (suc (suc (suc (suc zero)))) l = omega arith
power_most (suc (suc (suc (suc (suc zero))))) l = omega arith
power_most (suc (suc (suc (suc (suc (suc zero)))))) l = omega arith
power_most (suc (suc (suc (suc (suc (suc (suc zero))))))) l = omega arith
power_most (suc (suc (suc (suc (suc (suc (suc (suc zero)))))))) l = omega arith
power_most (suc (suc (suc (suc (suc (suc (suc (suc (suc k))))))))) l = absurd (omega (arith, l))

factor_most : (j : ℕ) → j ≤ 5 → delay_factor j ≤ 100000
factor_most zero l = omega arith
factor_most (suc zero) l = omega arith
factor_most (suc (suc zero)) l = omega arith
factor_most (suc (suc (suc zero))) l = omega arith
factor_most (suc (suc (suc (suc zero)))) l = omega arith
factor_most (suc (suc (suc (suc (suc zero))))) l = omega arith
factor_most (suc (suc (suc (suc (suc (suc j)))))) l = absurd (omega (arith, l))

biased_most : (b : ℤ) → negsuc 99 ≤ℤ b → b ≤ℤ pos 100 → biased b ≤ 200
biased_most b low high = omega (arith, ints, low, high)

pub cost_bounds : (p : ℕ) (t : Terms) (k j : ℕ) → k ≤ 8 → j ≤ 5 → t.delay ≤ 65535 → negsuc 99 ≤ℤ t.bias → t.bias ≤ℤ pos 100 → (1 ≤ unit_cost_of p t k j) × (unit_cost_of p t k j ≤ COST_MAX)
cost_bounds p t k j lk lj ld low high =
    let factor = factor_most j lj in
    let delay = mul-le t.delay (delay_factor j) 65535 100000 ld factor in
    let bias = biased_most t.bias low high in
    let power = power_most k lk in
    let u : uncertainty_of p t.lo t.hi ≤ 10 ^ 9 = omega arith in
    let f : fee_weight_of t.base t.ppm t.amount ≤ 10 ^ 9 = omega arith in
    let w = weighed (uncertainty_of p t.lo t.hi) (2 ^ k) (fee_weight_of t.base t.ppm t.amount) (t.delay * delay_factor j) (biased t.bias) u power f (omega (arith, delay)) bias in
    let r = div_rises _ _ 100 (omega arith) w in
    (omega arith, omega (arith, r))
