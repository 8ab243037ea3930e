-- The directions of a map: their ranges and their order.
use Rattle.std.specs.Prelude.{◌≡◌, ◌≢◌, ℕ, ◌≤◌, List, length, map, All, if◌then◌else◌}
use Rattle.std.specs.Ordering.{nat_cmp, is_lt}
use Rattle.std.specs.Cmp.Lexicographic.{slice_cmp}
use Rattle.std.specs.List.Sorted.{IsStrictlySortedBy}
use Rattle.plan_base.specs.declared.amount.TheConstants.{MAX}
use Rattle.plan_base.specs.Dir.{Direction, dir_order}
use Rattle.channel_map.specs.declared.edge.Edge.{Edge}

-- the side of the direction from one node to another (BOLT 7): 0 if it leads from the lesser id
abbrev pub side_between : List ℕ → List ℕ → ℕ
side_between source destination = if is_lt (slice_cmp nat_cmp source destination) then 0 else 1

-- amounts are at most MAX, the ends differ, and the side is that of the ends
pub record IsGoodEdge (edge : Edge) : Type 0 where
  pub capacity_fits : edge.capacity ≤ MAX
  pub minimum_fits : edge.htlc_min ≤ MAX
  pub maximum_fits : edge.htlc_max ≤ MAX
  pub ends_differ : edge.source ≢ edge.destination
  pub side_fits : edge.dir.side ≡ side_between edge.source edge.destination

abbrev pub directions_of : List Edge → List Direction
directions_of edges = map (λ edge. edge.dir) edges

-- each direction is below all later ones, so no direction occurs twice
abbrev pub IsAscending : List Edge → Type 0
IsAscending edges = IsStrictlySortedBy dir_order (directions_of edges)

-- what callers know of a map: at most so many directions, ascending, each of them good
pub record IsGoodMap (most : ℕ) (edges : List Edge) : Type 0 where
  pub few : length edges ≤ most
  pub ascending : IsAscending edges
  pub good : All IsGoodEdge edges
