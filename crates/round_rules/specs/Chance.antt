-- How likely it is that all directions hold what is carried over them.
use Rattle.std.specs.Prelude.{ℕ, suc, ◌+◌, ◌-◌, ◌*◌, ◌/◌, ◌^◌, List, [], ◌∷◌, cond, nat_lt}
use Rattle.view_build.specs.declared.view.ViewDir.{ViewDir}

-- a direction holds from lo to hi, each amount as likely as the others
abbrev pub chance_of : ℕ → ℕ → ℕ → ℕ → ℕ
chance_of lo hi total p = cond (nat_lt lo total) (p * (hi + 1 - total) / (hi + 1 - lo)) p

-- from p, in the order of directions, each rounded down
abbrev pub chances : (ℕ → ℕ) → ℕ → ℕ → List ViewDir → ℕ
chances total dir p [] = p
chances total dir p (d ∷ dirs) = chances total (suc dir) (chance_of d.min d.max (total dir) p) dirs

-- in millionths
abbrev pub probability_of : (ℕ → ℕ) → List ViewDir → ℕ
probability_of total dirs = chances total 0 (10 ^ 6) dirs
