-- The nodes of a map, and the places of the ends of its directions among them.
use Rattle.std.specs.Prelude.{◌≡◌, ℕ, ◌<◌, ◌≤◌, ◌⊎◌, List, [], length, map, All, slice_index, slice_index_or}
use Rattle.std.specs.List.{Contains}
use Rattle.std.specs.List.Sorted.{IsPermutation, IsStrictlySortedBy}
use Rattle.std.specs.Ordering.{nat_cmp}
use Rattle.std.specs.Cmp.Lexicographic.{slice_cmp}
use Rattle.channel_map.specs.declared.channel_map.TheConstants.{MAP_NODES_MAX}
use Rattle.channel_map.specs.declared.edge.Edge.{Edge}
use Rattle.channel_map.specs.declared.nodes.Ends.{Ends}
use Rattle.channel_map.specs.declared.nodes.MapNodes.{MapNodes}

-- the node is an end of a direction
pub record IsEnd (edges : List Edge) (node : List ℕ) : Type 0 where
  pub edge : Edge
  pub among : Contains edges edge
  pub is : (edge.source ≡ node) ⊎ (edge.destination ≡ node)

-- both ends of the direction are among the nodes
pub record HasBothEnds (nodes : List (List ℕ)) (edge : Edge) : Type 0 where
  pub source : Contains nodes edge.source
  pub destination : Contains nodes edge.destination

-- both are places among so many nodes
pub record ArePlaces (nodes : ℕ) (ends : Ends) : Type 0 where
  pub from : ends.from < nodes
  pub to : ends.to < nodes

abbrev pub ends_of : Edge → List ℕ × List ℕ
ends_of edge = (edge.source, edge.destination)

-- the ids at two places
abbrev pub named_ends : List (List ℕ) → Ends → List ℕ × List ℕ
named_ends ids ends = (slice_index_or ids ends.from [], slice_index_or ids ends.to [])

-- the nodes of these directions: they ascend, each is an end of a direction, and the ends of each direction are at their
-- places
pub record AreNodesOf (edges : List Edge) (nodes : MapNodes) : Type 0 where
  pub few : length nodes.ids.items ≤ MAP_NODES_MAX
  pub ascend : IsStrictlySortedBy (slice_cmp nat_cmp) nodes.ids.items
  pub only : All (IsEnd edges) nodes.ids.items
  pub named : map (named_ends nodes.ids.items) nodes.ends.items ≡ map ends_of edges
  pub within : All (ArePlaces (length nodes.ids.items)) nodes.ends.items

abbrev pub id_at : List (List ℕ) → ℕ → List ℕ
id_at ids place = slice_index_or ids place []

-- the ends, where the node at each place has moved to another
abbrev pub ends_at : List ℕ → Ends → Ends
ends_at places ends = record { from = slice_index places ends.from; to = slice_index places ends.to }

-- the nodes in order, and the ends at their new places
pub record IsNumbered (nodes : List (List ℕ)) (ends : List Ends) (numbered : MapNodes) : Type 0 where
  pub same : IsPermutation nodes numbered.ids.items
  pub ascend : IsStrictlySortedBy (slice_cmp nat_cmp) numbered.ids.items
  pub named : map (named_ends numbered.ids.items) numbered.ends.items ≡ map (named_ends nodes) ends
  pub within : All (ArePlaces (length numbered.ids.items)) numbered.ends.items
