-- A unit's cost fits 64 bits at each step, and is below 2 * 10^12.
use Rattle.std.proofs.Common.{ℕ, ◌+◌, ◌-◌, ◌*◌, ◌^◌, ◌≤◌, arith}
use Rattle.std.proofs.lemmas.Nat.{mul-le}

pub weighed : (uncertainty weight fee delay hundredths : ℕ) → uncertainty ≤ 10 ^ 9 → weight ≤ 256 → fee ≤ 10 ^ 9 → delay ≤ 65535 * 100000 → hundredths ≤ 200 → (uncertainty * (256 - weight) + fee * weight + delay) * hundredths ≤ (10 ^ 9 * 256 + 65535 * 100000) * 200
weighed uncertainty weight fee delay hundredths u w f d h =
    let rest : 256 - weight ≤ 256 - weight = omega arith in
    let same : weight ≤ weight = omega arith in
    let a = mul-le uncertainty (256 - weight) (10 ^ 9) (256 - weight) u rest in
    let b = mul-le fee weight (10 ^ 9) weight f same in
    let sum : uncertainty * (256 - weight) + fee * weight + delay ≤ 10 ^ 9 * 256 + 65535 * 100000 = omega (arith, a, b, d, w) in
    mul-le (uncertainty * (256 - weight) + fee * weight + delay) hundredths (10 ^ 9 * 256 + 65535 * 100000) 200 sum h
