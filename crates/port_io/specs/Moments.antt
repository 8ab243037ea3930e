-- The moments of a clock: it returns the first one, which it drops unless it is the last one, and 0 if it has none.
use Rattle.std.specs.Prelude.{ℕ, ◌≡◌, List, [], ◌∷◌, None, Some, ⊤}
use Rattle.std.specs.declared.option.Option.{Option}

-- the moment that a clock with these moments returns next
abbrev pub moment_of : List ℕ → ℕ
moment_of [] = 0
moment_of (first ∷ rest) = first

-- the moments that are left after that
abbrev pub later : List ℕ → List ℕ
later [] = []
later (first ∷ []) = first ∷ []
later (first ∷ second ∷ rest) = second ∷ rest

-- a clock whose moments are known returns the next one
abbrev pub Ticks : Option (List ℕ) → ℕ → Option (List ℕ) → Type 0
Ticks None moment after = ⊤
Ticks (Some moments) moment None = ⊥
Ticks (Some moments) moment (Some left) = (moment ≡ moment_of moments) × (left ≡ later moments)
