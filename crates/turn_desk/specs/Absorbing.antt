-- A pass that takes in others in its turn, and how many they are. It serves private clauses only.
use Rattle.std.specs.Prelude.{ℕ, ◌+◌, List, [], ◌∷◌, length}
use Rattle.std.specs.List.{sum_by}
use Rattle.turn_desk.specs.declared.view.View.{View}
use Rattle.turn_desk.specs.View.{after_join}
use Rattle.turn_desk.specs.Closing.{PassValue}

module _ {M : Type 0} where
  -- the view of a pass that has taken in these
  abbrev pub absorb : View M → List (PassValue M) → View M
  absorb v [] = v
  absorb v (p ∷ passes) = absorb (after_join v p.1) passes

  -- how many passes and notes these are, those that they have taken in included
  abbrev pub count_of : List (PassValue M) → ℕ
  count_of passes = sum_by (λ p. length p.1.taken_in + 1) passes
