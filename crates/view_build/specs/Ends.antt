-- Serves private clauses only: the ends of directions, and their places among nodes.
use Rattle.std.specs.Prelude.{◌≡◌, ℕ, ◌<◌, ◌⊎◌, List, [], length, slice_index_or, Bool, true, false, Option, Some, None}
use Rattle.std.specs.List.{Contains}
use Rattle.view_build.specs.declared.view.ViewDir.{ViewDir}

-- the node stands at the place
pub record IsPlace (nodes : List (List ℕ)) (node : List ℕ) (place : ℕ) : Type 0 where
  pub within : place < length nodes
  pub is : slice_index_or nodes place [] ≡ node

-- where the node stands, if it is among the nodes
abbrev pub IsFound : List (List ℕ) → List ℕ → Option ℕ → Type 0
IsFound nodes node (Some place) = IsPlace nodes node place
IsFound nodes node None = ¬ (Contains nodes node)

-- a direction has the node as an end
pub record HasEnd (ids : List (List ℕ)) (dirs : List ViewDir) (node : List ℕ) : Type 0 where
  pub direction : ViewDir
  pub among : Contains dirs direction
  pub ends : (slice_index_or ids direction.from [] ≡ node) ⊎ (slice_index_or ids direction.to [] ≡ node)

-- both places of a direction are marked
pub record IsMarked (used : List Bool) (d : ViewDir) : Type 0 where
  pub from : slice_index_or used d.from false ≡ true
  pub to : slice_index_or used d.to false ≡ true

-- a direction begins or ends at the place
pub record IsEndPlace (dirs : List ViewDir) (place : ℕ) : Type 0 where
  pub direction : ViewDir
  pub among : Contains dirs direction
  pub is : (direction.from ≡ place) ⊎ (direction.to ≡ place)

-- the marks are at the places of the ends of the directions, and nowhere else
pub record AreUsed (dirs : List ViewDir) (used : List Bool) : Type 0 where
  pub all : (d : ViewDir) → Contains dirs d → IsMarked used d
  pub only : (place : ℕ) → slice_index_or used place false ≡ true → IsEndPlace dirs place
