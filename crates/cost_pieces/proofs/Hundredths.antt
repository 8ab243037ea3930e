-- Hundredths of a gap, with its whole hundreds and the rest apart.
use Rattle.std.proofs.Common.{ℕ, ◌+◌, ◌*◌, ◌/◌, ◌%◌, ◌≡◌, ap, arith}
use Rattle.std.proofs.Math.Nat.{div-add-mod}

pub hundredths_apart : (gap part : ℕ) → gap / 100 * part + gap % 100 * part / 100 ≡ gap * part / 100
hundredths_apart gap part =
    let whole = ap (λ n. n * part) (div-add-mod gap 100) in
    let split : gap * part ≡ gap / 100 * part * 100 + gap % 100 * part = omega (arith, whole) in
    let quotient = ap (λ n. n / 100) split in
    omega (arith, quotient)
