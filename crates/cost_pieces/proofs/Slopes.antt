-- A unit over a later piece costs no less than one over an earlier piece.
use Rattle.std.proofs.Common.{ℕ, zero, suc, ◌+◌, ◌-◌, ◌*◌, ◌/◌, ◌^◌, ◌<◌, ◌≤◌, List, [], ◌∷◌, length, arith}
use Rattle.std.specs.Prelude.{max, slice_index}
use Rattle.std.proofs.lemmas.Nat.{mul-le}
use Rattle.cost_pieces.specs.declared.scale.TheConstants.{PIECES}
use Rattle.cost_pieces.specs.declared.unit.Terms.{Terms}
use Rattle.cost_pieces.specs.Scale.{slopes, slope_of, delay_factor}
use Rattle.cost_pieces.specs.UnitCost.{biased, fee_weight_of, uncertainty_of, unit_cost_of}
use Rattle.cost_pieces.proofs.Rooms.{Rises, div_rises}

first_least : (a : ℕ) (points : List ℕ) (k : ℕ) → Rises (a ∷ points) → k < length (a ∷ points) → a ≤ slice_index (a ∷ points) k
first_least a points zero r l = omega arith
first_least a [] (suc k) r l = absurd (omega arith)
first_least a (b ∷ points) (suc k) r l = let later = first_least b points k r.1 (omega arith) in omega (arith, r.0, later)

rises_at : (points : List ℕ) (i k : ℕ) → Rises points → i ≤ k → k < length points → slice_index points i ≤ slice_index points k
rises_at [] i k r le l = absurd (omega arith)
rises_at (a ∷ points) zero k r le l = first_least a points k r l
rises_at (a ∷ points) (suc i) zero r le l = absurd (omega arith)
rises_at (a ∷ []) (suc i) (suc k) r le l = absurd (omega arith)
rises_at (a ∷ b ∷ points) (suc i) (suc k) r le l = rises_at (b ∷ points) i k r.1 (omega arith) (omega arith)

slopes_rise : Rises slopes
slopes_rise = (omega arith, (omega arith, (omega arith, (omega arith, (omega arith, (omega arith, (omega arith, tt)))))))

slope_rises : (piece later : ℕ) → piece ≤ later → later < PIECES → slope_of piece ≤ slope_of later
slope_rises piece later le l = rises_at slopes piece later slopes_rise le l

uncertainty_rises : (piece later lo hi : ℕ) → piece ≤ later → later < PIECES → uncertainty_of piece lo hi ≤ uncertainty_of later lo hi
uncertainty_rises piece later lo hi le l =
    let slope = slope_rises piece later le l in
    let width = div_rises (slope_of piece * 10 ^ 12) (slope_of later * 10 ^ 12) (max 1 (hi - lo)) (omega arith) (omega (arith, slope)) in
    omega (arith, width)

weighed_rises : (u v weight fee delay hundredths : ℕ) → u ≤ v → (u * weight + fee + delay) * hundredths / 100 + 1 ≤ (v * weight + fee + delay) * hundredths / 100 + 1
weighed_rises u v weight fee delay hundredths le =
    let same : hundredths ≤ hundredths = omega arith in
    let weighed = mul-le u weight v weight le (omega arith) in
    let sum : u * weight + fee + delay ≤ v * weight + fee + delay = omega (arith, weighed) in
    let whole = mul-le (u * weight + fee + delay) hundredths (v * weight + fee + delay) hundredths sum same in
    let cut = div_rises ((u * weight + fee + delay) * hundredths) ((v * weight + fee + delay) * hundredths) 100 (omega arith) whole in
    omega (arith, cut)

pub cost_rises : (terms : Terms) (piece later fee_level delay_level : ℕ) → piece ≤ later → later < PIECES → unit_cost_of piece terms fee_level delay_level ≤ unit_cost_of later terms fee_level delay_level
cost_rises terms piece later fee_level delay_level le l = weighed_rises _ _ (256 - 2 ^ fee_level) (fee_weight_of terms.base terms.ppm terms.amount * 2 ^ fee_level) (terms.delay * delay_factor delay_level) (biased terms.bias) (uncertainty_rises piece later terms.lo terms.hi le l)
