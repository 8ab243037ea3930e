-- Lists of the numbers of passes and notes.
use Rattle.std.specs.Prelude.{◌≡◌, ℕ, ◌==◌, ◌<◌, ◌≤◌, ◌+◌, cond, List, [], ◌∷◌}

-- how often a number is in a list
abbrev pub times_in : ℕ → List ℕ → ℕ
times_in number [] = 0
times_in number (n ∷ numbers) = cond (n == number) 1 0 + times_in number numbers

-- the number is in the list
abbrev pub IsAmong : ℕ → List ℕ → Type 0
IsAmong number numbers = 0 < times_in number numbers

-- no number is in the list twice
abbrev pub AreDistinct : List ℕ → Type 0
AreDistinct numbers = (number : ℕ) → times_in number numbers ≤ 1

-- no number is in both lists
abbrev pub AreApart : List ℕ → List ℕ → Type 0
AreApart numbers others = (number : ℕ) → IsAmong number numbers → times_in number others ≡ 0
