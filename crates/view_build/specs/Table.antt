-- Serves private clauses only: the nodes that directions of a view can touch.
use Rattle.std.specs.Prelude.{◌≡◌, ℕ, ◌<◌, ◌^◌, List, [], ◌∷◌, All, length, map, slice_index, slice_index_or}
use Rattle.std.specs.List.Sorted.{IsStrictlySortedBy}
use Rattle.std.specs.Ordering.{nat_cmp}
use Rattle.std.specs.Cmp.Lexicographic.{slice_cmp}
use Rattle.channel_map.specs.declared.edge.Edge.{Edge}
use Rattle.channel_map.specs.declared.nodes.Ends.{Ends}
use Rattle.channel_map.specs.Nodes.{HasBothEnds}
use Rattle.view_build.specs.declared.table.Table.{Table}

abbrev pub edge_ends : Edge → List (List ℕ)
edge_ends edge = edge.source ∷ edge.destination ∷ []

-- the nodes at the places
abbrev pub named_places : List (List ℕ) → List ℕ → List (List ℕ)
named_places ids places = map (λ place. slice_index_or ids place []) places

-- the nodes ascend; those of the map are at their places among them, and the ends of created directions are among them
pub record IsTable (nodes : List (List ℕ)) (created : List Edge) (table : Table) : Type 0 where
  pub ascend : IsStrictlySortedBy (slice_cmp nat_cmp) table.ids.items
  pub few : length table.ids.items < 2 ^ 32
  pub named : named_places table.ids.items table.moved.items ≡ nodes
  pub within : All (λ place. place < length table.ids.items) table.moved.items
  pub ends : All (HasBothEnds table.ids.items) created

-- the places of a direction's ends in the table, from their places among the nodes of the map
abbrev pub moved_ends : List ℕ → Ends → Ends
moved_ends moved ends = record { from = slice_index moved ends.from; to = slice_index moved ends.to }
