-- The rooms of a direction's pieces.
use Rattle.std.specs.Prelude.{ℕ, ◌+◌, ◌-◌, ◌*◌, ◌/◌, List, [], ◌∷◌, map, min}

-- where the cut points after the known minimum are, in hundredths of the way to the known maximum
abbrev pub hundredths : List ℕ
hundredths = 30 ∷ 50 ∷ 65 ∷ 80 ∷ 90 ∷ 95 ∷ 100 ∷ []

-- the cut points of the known liquidity between lo and hi, in units: 0, the known minimum, and those on the way to the
-- known maximum, which is the last
abbrev pub cut_points : ℕ → ℕ → ℕ → List ℕ
cut_points lo hi unit =
    let least = lo / unit in
    let most = hi / unit in
    0 ∷ least ∷ map (λ part. least + (most - least) * part / 100) hundredths

-- the distance of each point from the one before it
abbrev pub steps : List ℕ → List ℕ
steps [] = []
steps (a ∷ []) = []
steps (a ∷ b ∷ points) = (b - a) ∷ steps (b ∷ points)

-- the pieces' rooms: the points are taken first and then cut to the cap
abbrev pub rooms_of : ℕ → ℕ → ℕ → ℕ → List ℕ
rooms_of lo hi unit cap = steps (map (λ point. min point cap) (cut_points lo hi unit))
