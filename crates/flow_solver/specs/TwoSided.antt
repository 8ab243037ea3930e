-- The two searches of a search from both ends, between two of its steps; these words serve private clauses only.
use Rattle.std.specs.Prelude.{ℕ, ◌+◌, ◌≡◌, List, length, ℤ}
use Rattle.flow_solver.specs.declared.lanes.Lanes.{Lanes}
use Rattle.flow_solver.specs.Lanes.{FitsLanes}
use Rattle.std.specs.BinaryHeap.{IsHeap, heap_items}
use Rattle.std.specs.Ordering.{nat_cmp}
use Rattle.residual_net.specs.Residual.{ResidualNet}
use Rattle.flow_solver.specs.declared.side.Side.{Side}
use Rattle.flow_solver.specs.Search.{IsSearchTree, sum_of_labels}
use Rattle.flow_solver.specs.Queue.{IsQueue}
use Rattle.flow_solver.specs.Turned.{turned, against}
use Rattle.flow_solver.specs.Meeting.{IsMeeting}

-- the source's search and the destination's, each with its tree and its queue, and their best meeting
pub record IsTwoSided (residual : ResidualNet) (p : List ℤ) (source destination : Side) (best node : ℕ) : Type 0 where
  pub tree : IsSearchTree residual p source.labels source.parents.items
  pub heap : IsHeap nat_cmp (heap_items source.heap)
  pub queue : IsQueue residual p source.labels best (heap_items source.heap)
  pub back : IsSearchTree (turned residual) (against p) destination.labels destination.parents.items
  pub back_heap : IsHeap nat_cmp (heap_items destination.heap)
  pub back_queue : IsQueue (turned residual) (against p) destination.labels best (heap_items destination.heap)
  pub meeting : IsMeeting residual.net.nodes source.labels destination.labels best node

-- a number that falls with each step of a search
abbrev pub size_of : Side → ℕ
size_of side = sum_of_labels side.labels + length (heap_items side.heap)

-- the lanes of a network's directions, and two searches over its nodes
pub record FitsSearch (residual : ResidualNet) (lanes : Lanes) (source destination : Side) : Type 0 where
  pub lanes_fit : FitsLanes residual lanes.heads.net lanes.starts.items lanes.lanes.items
  pub source_long : length source.parents.items ≡ residual.net.nodes
  pub source_labels : length source.labels ≡ residual.net.nodes
  pub destination_long : length destination.parents.items ≡ residual.net.nodes
  pub destination_labels : length destination.labels ≡ residual.net.nodes
