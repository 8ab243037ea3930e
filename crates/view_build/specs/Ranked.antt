-- Serves private clauses only: the marked nodes, and their ranks among the marked ones.
use Rattle.std.specs.Prelude.{◌≡◌, ℕ, ◌<◌, List, [], All, length, take, slice_index, slice_index_or, Bool, true, false}
use Rattle.std.specs.List.{count_by}
use Rattle.std.specs.List.Sorted.{IsStrictlySortedBy}
use Rattle.std.specs.Ordering.{nat_cmp}
use Rattle.std.specs.Cmp.Lexicographic.{slice_cmp}
use Rattle.view_build.specs.declared.view.ViewDir.{ViewDir}
use Rattle.view_build.specs.Ends.{IsPlace}

abbrev pub is_set : Bool → Bool
is_set mark = mark

-- one of the first `n` nodes, with a mark
pub record IsKept (ids : List (List ℕ)) (used : List Bool) (n : ℕ) (node : List ℕ) : Type 0 where
  pub place : ℕ
  pub below : place < n
  pub marked : slice_index_or used place false ≡ true
  pub is : slice_index_or ids place [] ≡ node

-- of the first nodes those with a mark, in their order; and of each of these its rank
pub record AreRanked (ids : List (List ℕ)) (used : List Bool) (nodes : List (List ℕ)) (ranks : List ℕ) : Type 0 where
  pub ascend : IsStrictlySortedBy (slice_cmp nat_cmp) nodes
  pub few : length nodes ≡ count_by is_set (take (length ranks) used)
  pub ranked : (place : ℕ) → place < length ranks → slice_index_or used place false ≡ true → IsPlace nodes (slice_index_or ids place []) (slice_index ranks place)
  pub only : All (IsKept ids used (length ranks)) nodes

-- a direction with the ranks of its places
abbrev pub with_ranks : List ℕ → ViewDir → ViewDir
with_ranks ranks d = record d { from = slice_index ranks d.from; to = slice_index ranks d.to }
