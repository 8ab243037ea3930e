-- The scale of costs: slopes of pieces and weights of levels.
use Rattle.std.specs.Prelude.{ℕ, List, [], ◌∷◌, slice_index}

-- the slope of the uncertainty of each piece
abbrev pub slopes : List ℕ
slopes = 0 ∷ 1188 ∷ 1682 ∷ 2377 ∷ 3730 ∷ 6931 ∷ 13862 ∷ 20000 ∷ []

abbrev pub slope_of : ℕ → ℕ
slope_of piece = slice_index slopes piece

-- the weight of a block of delay at each delay level
abbrev pub delay_factors : List ℕ
delay_factors = 0 ∷ 10 ∷ 100 ∷ 1000 ∷ 10000 ∷ 100000 ∷ []

abbrev pub delay_factor : ℕ → ℕ
delay_factor level = slice_index delay_factors level
