-- The rooms of the pieces: each is at most the cap, and they sum to the known maximum, cut to the cap.
use Rattle.std.proofs.Common.{ℕ, ◌+◌, ◌-◌, ◌/◌, ◌<◌, ◌≤◌, ◌≡◌, List, [], ◌∷◌, map, arith}
use Rattle.std.specs.Prelude.{All, min, sum_by}
use Rattle.std.proofs.Math.Nat.{div-mul-le_self}
use Rattle.std.proofs.lemmas.Nat.{le-div}
use Rattle.std.proofs.lemmas.List.Elements.{All-cons, All-head, All-map, All-nil, All-tail}
use Rattle.std.proofs.lemmas.List.Sums.{sum_by-cons}
use Rattle.cost_pieces.specs.Pieces.{cut_points, rooms_of, steps}

-- a quotient never falls as the dividend rises
pub div_rises : (m n k : ℕ) → 0 < k → m ≤ n → m / k ≤ n / k
div_rises m n k some le = le-div (m / k) n k some (let low = div-mul-le_self m k in omega (arith, low, le))

-- numbers of which no later one is smaller than the one before
abbrev pub Rises : List ℕ → Type 0
Rises [] = Unit {0}
Rises (a ∷ []) = Unit {0}
Rises (a ∷ b ∷ points) = (a ≤ b) × Rises (b ∷ points)

abbrev later_points : List ℕ → List ℕ
later_points [] = []
later_points (a ∷ points) = points

abbrev last_from : ℕ → List ℕ → ℕ
last_from a [] = a
last_from a (b ∷ points) = last_from b points

cut_rises : (most : ℕ) (points : List ℕ) → Rises points → Rises (map (λ point. min point most) points)
cut_rises most [] r = tt
cut_rises most (a ∷ []) r = tt
cut_rises most (a ∷ b ∷ points) r = (omega (arith, r.0), cut_rises most (b ∷ points) r.1)

cut_most : (most : ℕ) (points : List ℕ) → All (λ point. point ≤ most) (map (λ point. min point most) points)
cut_most most points = All-map (λ point. point ≤ most) (λ point. min point most) points (λ k d l. omega arith)

steps_most : (most : ℕ) (points : List ℕ) → All (λ point. point ≤ most) points → All (λ room. room ≤ most) (steps points)
steps_most most [] few = All-nil (λ room. room ≤ most)
steps_most most (a ∷ []) few = All-nil (λ room. room ≤ most)
steps_most most (a ∷ b ∷ points) few =
    let later = All-tail (λ point. point ≤ most) a (b ∷ points) few in
    let first = All-head (λ point. point ≤ most) b points later in
    All-cons (λ room. room ≤ most) (b - a) (steps (b ∷ points)) (omega (arith, first)) (steps_most most (b ∷ points) later)

steps_sum : (a : ℕ) (points : List ℕ) → Rises (a ∷ points) → a + sum_by (λ room. room) (steps (a ∷ points)) ≡ last_from a points
steps_sum a [] r = omega arith
steps_sum a (b ∷ points) r = omega (arith, r.0, steps_sum b points r.1, sum_by-cons (λ room. room) (b - a) (steps (b ∷ points)))

points_rise : (lo hi unit : ℕ) → Rises (cut_points lo hi unit)
points_rise lo hi unit =
    (omega arith, (omega arith, (omega arith, (omega arith, (omega arith, (omega arith, (omega arith, (omega arith, tt))))))))

pub rooms_most : (lo hi unit most : ℕ) → All (λ room. room ≤ most) (rooms_of lo hi unit most)
rooms_most lo hi unit most = steps_most most (map (λ point. min point most) (cut_points lo hi unit)) (cut_most most (cut_points lo hi unit))

pub rooms_sum : (lo hi unit most : ℕ) → lo ≤ hi → 1 ≤ unit → sum_by (λ room. room) (rooms_of lo hi unit most) ≡ min (hi / unit) most
rooms_sum lo hi unit most order some =
    let h = steps_sum (min 0 most) (map (λ point. min point most) (later_points (cut_points lo hi unit))) (cut_rises most (cut_points lo hi unit) (points_rise lo hi unit)) in
    let up = div_rises lo hi unit some order in
    omega (arith, h, up)
