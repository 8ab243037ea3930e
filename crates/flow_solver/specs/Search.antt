-- Searches for a cheapest path over the arcs' rooms; these words serve private clauses only. The steps that a search may
-- use, labels of nodes and the tree that they come from, and what a solver keeps from search to search.
use Rattle.std.specs.Prelude.{ℕ, zero, suc, ◌+◌, ◌*◌, ◌<◌, ◌≤◌, ◌≡◌, ◌≢◌, List, [], ◌∷◌, length, All, Bool, true, false, cond, min, slice_index, slice_index_or, set, sum_by, ℤ, pos, ◌+ℤ◌, ◌-ℤ◌, ◌≤ℤ◌}
use Rattle.flow_model.specs.declared.limits.TheConstants.{COST_MAX, NODES_MAX}
use Rattle.flow_model.specs.declared.instance.Arc.{Arc}
use Rattle.flow_model.specs.Instance.{Net, arc_at}
use Rattle.flow_model.specs.Flow.{Sends, loads}
use Rattle.flow_model.specs.Potentials.{IsShown, reduced_cost}
use Rattle.residual_net.specs.Residual.{ResidualNet, IsResidualNet}
use Rattle.flow_solver.specs.declared.labels.TheConstants.{UNREACHED}

-- if the later of two arcs of one direction carries anything, the earlier one is full
abbrev pub InOrder : List Arc → List ℕ → Type 0
InOrder arcs flow = (i j : ℕ) → i < j → j < length arcs → (arc_at arcs i).dir ≡ (arc_at arcs j).dir → 0 < slice_index flow j → slice_index flow i ≡ (arc_at arcs i).room

-- the node at which a step starts, and the one at which it ends
abbrev pub tail_of : Arc → Bool → ℕ
tail_of a back = cond back a.to a.from

abbrev pub head_of : Arc → Bool → ℕ
head_of a back = cond back a.from a.to

-- the reduced cost of a step: forward that of its arc, backward the negated one
abbrev pub step_cost : List ℤ → Arc → Bool → ℤ
step_cost p a back = cond back (pos 0 -ℤ reduced_cost p a) (reduced_cost p a)

-- the next step forward of a direction: its first arc that has room
abbrev pub IsNextForward : List Arc → List ℕ → ℕ → Type 0
IsNextForward arcs flow i = (slice_index flow i < (arc_at arcs i).room) × ((h : ℕ) → h + 1 ≡ i → (arc_at arcs h).dir ≡ (arc_at arcs i).dir → slice_index flow h ≡ (arc_at arcs h).room)

-- the next step backward of a direction: its last arc that carries anything
abbrev pub IsNextBackward : List Arc → List ℕ → ℕ → Type 0
IsNextBackward arcs flow i = (0 < slice_index flow i) × (i + 1 < length arcs → (arc_at arcs (i + 1)).dir ≡ (arc_at arcs i).dir → slice_index flow (i + 1) ≡ 0)

abbrev pub IsNextOfDirection : List Arc → List ℕ → ℕ → Bool → Type 0
IsNextOfDirection arcs flow i true = IsNextBackward arcs flow i
IsNextOfDirection arcs flow i false = IsNextForward arcs flow i

-- a step that a search may use
pub record IsNextStep (residual : ResidualNet) (s : ℕ × Bool) : Type 0 where
  pub known : s.0 < length residual.net.arcs
  pub way : IsNextOfDirection residual.net.arcs residual.flow s.0 s.1

-- the step by which the search reached a node
abbrev pub parent_of : List (ℕ × Bool) → ℕ → ℕ × Bool
parent_of parents v = slice_index_or parents v (0, false)

-- the node at which that step starts
abbrev pub previous_node : List Arc → List (ℕ × Bool) → ℕ → ℕ
previous_node arcs parents v = tail_of (arc_at arcs (parent_of parents v).0) (parent_of parents v).1

-- the node is this number of parent steps away from the source
abbrev pub HasDepth : List Arc → List (ℕ × Bool) → ℕ → ℕ → ℕ → Type 0
HasDepth arcs parents source zero v = v ≡ source
HasDepth arcs parents source (suc k) v = (v ≢ source) × HasDepth arcs parents source k (previous_node arcs parents v)

-- the last k parent steps to a node, the last one first
abbrev pub parent_path : List Arc → List (ℕ × Bool) → ℕ → ℕ → List (ℕ × Bool)
parent_path arcs parents zero v = []
parent_path arcs parents (suc k) v = parent_of parents v ∷ parent_path arcs parents k (previous_node arcs parents v)

-- the step may be used, leads to the node, and gives it a label no higher than the node's
pub record IsParentStep (residual : ResidualNet) (p : List ℤ) (labels : List ℕ) (v : ℕ) (s : ℕ × Bool) : Type 0 where
  pub next : IsNextStep residual s
  pub head : head_of (arc_at residual.net.arcs s.0) s.1 ≡ v
  pub above : (pos (slice_index labels (tail_of (arc_at residual.net.arcs s.0) s.1)) +ℤ step_cost p (arc_at residual.net.arcs s.0) s.1) ≤ℤ pos (slice_index labels v)

-- labels, and for each reached node the step that its label comes from; the steps lead back to the source
pub record IsSearchTree (residual : ResidualNet) (p : List ℤ) (labels : List ℕ) (parents : List (ℕ × Bool)) : Type 0 where
  pub long : length labels ≡ residual.net.nodes
  pub as_long : length parents ≡ residual.net.nodes
  pub root : slice_index labels residual.net.source ≡ 0
  pub most : (v : ℕ) → slice_index labels v ≤ UNREACHED
  pub steps : (v : ℕ) → v < residual.net.nodes → v ≢ residual.net.source → slice_index labels v < UNREACHED → IsParentStep residual p labels v (parent_of parents v)
  pub rooted : (v : ℕ) → v < residual.net.nodes → slice_index labels v < UNREACHED → (k : ℕ) × HasDepth residual.net.arcs parents residual.net.source k v

-- the step over the arc can't lower a label below the bound
abbrev pub IsRelaxedTo : List Arc → List ℤ → List ℕ → ℕ → ℕ → Bool → Type 0
IsRelaxedTo arcs p labels bound i back = pos (min (slice_index labels (head_of (arc_at arcs i) back)) bound) ≤ℤ (pos (slice_index labels (tail_of (arc_at arcs i) back)) +ℤ step_cost p (arc_at arcs i) back)

-- no step from a label below the bound can lower a label below the bound
abbrev pub IsSettledBelow : ResidualNet → List ℤ → List ℕ → ℕ → Type 0
IsSettledBelow residual p labels bound = (s : ℕ × Bool) → IsNextStep residual s → slice_index labels (tail_of (arc_at residual.net.arcs s.0) s.1) < bound → IsRelaxedTo residual.net.arcs p labels bound s.0 s.1

-- a step's end has the label that the step gives it, which is lower than its old one; no other label changes
pub record IsLowered (arcs : List Arc) (p : List ℤ) (labels new : List ℕ) (i : ℕ) (back : Bool) (label : ℕ) : Type 0 where
  pub is : new ≡ set labels (head_of (arc_at arcs i) back) label
  pub less : label < slice_index labels (head_of (arc_at arcs i) back)
  pub by : pos label ≡ pos (slice_index labels (tail_of (arc_at arcs i) back)) +ℤ step_cost p (arc_at arcs i) back

-- one potential for each node: none is below 0, the source's is 0, and the destination's is the greatest, at most the
-- cost of a path over all nodes
pub record HasBoundedPotentials (net : Net) (p : List ℤ) : Type 0 where
  pub long : length p ≡ net.nodes
  pub root : slice_index_or p net.source (pos 0) ≡ pos 0
  pub low : (v : ℕ) → pos 0 ≤ℤ slice_index_or p v (pos 0)
  pub top : (v : ℕ) → slice_index_or p v (pos 0) ≤ℤ slice_index_or p net.destination (pos 0)
  pub most : slice_index_or p net.destination (pos 0) ≤ℤ pos (NODES_MAX * (COST_MAX + 1))

-- each node's potential is raised by its label or by the bound, whichever is less
pub record IsRaised (p raised : List ℤ) (labels : List ℕ) (bound : ℕ) : Type 0 where
  pub long : length raised ≡ length p
  pub each : (v : ℕ) → v < length p → slice_index_or raised v (pos 0) ≡ slice_index_or p v (pos 0) +ℤ pos (min (slice_index labels v) bound)

-- the potentials show each arc of the flow
abbrev pub IsFlowShown : ResidualNet → List ℤ → Type 0
IsFlowShown residual p = All (IsShown p) (loads residual.net residual.flow)

abbrev pub sum_of_labels : List ℕ → ℕ
sum_of_labels labels = sum_by (λ x. x) labels

-- the flow sends this many units in order, and the potentials show it
pub record IsPartialSolution (residual : ResidualNet) (p : List ℤ) (units : ℕ) : Type 0 where
  pub ok : IsResidualNet residual
  pub sends : Sends residual.net residual.flow units
  pub shown : IsFlowShown residual p
  pub bounded : HasBoundedPotentials residual.net p
  pub order : InOrder residual.net.arcs residual.flow

-- what a search finds: a tree whose labels no step can lower below the destination's
pub record IsSearchResult (residual : ResidualNet) (p : List ℤ) (labels : List ℕ) (parents : List (ℕ × Bool)) : Type 0 where
  pub tree : IsSearchTree residual p labels parents
  pub settled : IsSettledBelow residual p labels (slice_index labels residual.net.destination)

-- the node has this depth, and all steps that lead back from it are over known arcs
pub record IsReachedNode (residual : ResidualNet) (parents : List (ℕ × Bool)) (k v : ℕ) : Type 0 where
  pub inside : v < residual.net.nodes
  pub chain : HasDepth residual.net.arcs parents residual.net.source k v
  pub known : All (λ (s : ℕ × Bool). s.0 < length residual.net.arcs) (parent_path residual.net.arcs parents k v)
