-- Potentials in 64 or in 128 bits, and how a search moves them; these words serve private clauses only.
use Rattle.std.specs.Prelude.{ℕ, ◌+◌, ◌-◌, ◌≤◌, ◌<◌, ◌≡◌, List, length, map, Bool, true, false, min, slice_index, slice_index_or, ℤ, pos, ◌+ℤ◌, ◌-ℤ◌, ◌≤ℤ◌}
use Rattle.flow_solver.specs.declared.node_potentials.PotentialRow.{PotentialRow}
use Rattle.flow_solver.specs.declared.node_potentials.PotentialRow.TheVariants.{Short, Long}
use Rattle.flow_solver.specs.declared.node_potentials.TheConstants.{REACH_MAX}

-- the potential of each node
abbrev pub potentials_of : PotentialRow → List ℤ
potentials_of (Short numbers offset reach) = map (λ z. z +ℤ pos offset) numbers.items
potentials_of (Long potentials) = potentials.items

-- the number is at most so far from 0
abbrev pub IsWithin : ℤ → ℕ → Type 0
IsWithin z reach = ((pos 0 -ℤ pos reach) ≤ℤ z) × (z ≤ℤ pos reach)

-- the numbers and the offset reach so far, and there is room for so much more
pub record IsReaching (numbers : List ℤ) (offset reach more : ℕ) : Type 0 where
  pub within : (v : ℕ) → IsWithin (slice_index_or numbers v (pos 0)) reach
  pub offset_low : offset ≤ reach
  pub room : reach + more ≤ REACH_MAX

abbrev pub HasReach : PotentialRow → ℕ → Type 0
HasReach (Short numbers offset reach) more = IsReaching numbers.items offset reach more
HasReach (Long potentials) more = Unit {0}

-- by how much a label moves a number: as far as it is below the bound, up or down
abbrev pub move_of : ℕ → Bool → ℕ → ℤ
move_of bound true label = pos (bound - min label bound)
move_of bound false label = pos 0 -ℤ pos (bound - min label bound)

-- each number is moved by the label of its node
pub record IsMoved (numbers new : List ℤ) (labels : List ℕ) (bound : ℕ) (up : Bool) : Type 0 where
  pub long : length new ≡ length numbers
  pub each : (v : ℕ) → v < length numbers → slice_index_or new v (pos 0) ≡ slice_index_or numbers v (pos 0) +ℤ move_of bound up (slice_index labels v)

-- each number is moved down by the label from the source, and up by the one to the destination
pub record IsMovedTwice (numbers new : List ℤ) (d e : List ℕ) (a b : ℕ) : Type 0 where
  pub long : length new ≡ length numbers
  pub each : (v : ℕ) → v < length numbers → slice_index_or new v (pos 0) ≡ slice_index_or numbers v (pos 0) +ℤ move_of a false (slice_index d v) +ℤ move_of b true (slice_index e v)
