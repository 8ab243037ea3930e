-- The queue of a search in the order of labels; these words serve private clauses only.
use Rattle.std.specs.Prelude.{ℕ, ◌+◌, ◌-◌, ◌*◌, ◌<◌, ◌≤◌, ◌≡◌, ◌⊎◌, List, length, Contains, Bool, slice_index, ℤ}
use Rattle.std.specs.BinaryHeap.{IsHeap}
use Rattle.std.specs.Ordering.{nat_cmp}
use Rattle.flow_model.specs.declared.limits.TheConstants.{NODES_MAX}
use Rattle.residual_net.specs.Residual.{ResidualNet}
use Rattle.flow_model.specs.Instance.{arc_at}
use Rattle.flow_solver.specs.declared.labels.TheConstants.{UNREACHED}
use Rattle.flow_solver.specs.Search.{IsNextStep, IsRelaxedTo, sum_of_labels, tail_of}

-- the key of a node: the lower its label, the greater its key
abbrev pub key_of : ℕ → ℕ → ℕ
key_of label v = (UNREACHED - label) * NODES_MAX + v

-- no step from the node can lower a label below the bound
abbrev pub IsRelaxedFrom : ResidualNet → List ℤ → List ℕ → ℕ → ℕ → Type 0
IsRelaxedFrom residual p labels bound v = (s : ℕ × Bool) → IsNextStep residual s → tail_of (arc_at residual.net.arcs s.0) s.1 ≡ v → IsRelaxedTo residual.net.arcs p labels bound s.0 s.1

-- each reached node is in the queue under its label, or its steps are relaxed
abbrev pub IsQueue : ResidualNet → List ℤ → List ℕ → ℕ → List ℕ → Type 0
IsQueue residual p labels bound keys = (v : ℕ) → v < residual.net.nodes → slice_index labels v < UNREACHED → Contains keys (key_of (slice_index labels v) v) ⊎ IsRelaxedFrom residual p labels bound v

-- labels fall, and each node whose label fell is in the queue under its new label
pub record IsQueueProgress (labels keys new newer : List ℕ) : Type 0 where
  pub lower : (x : ℕ) → slice_index new x ≤ slice_index labels x
  pub others : (x : ℕ) → (slice_index new x ≡ slice_index labels x) ⊎ Contains newer (key_of (slice_index new x) x)
  pub kept : (k : ℕ) → Contains keys k → Contains newer k
  pub heap : IsHeap nat_cmp keys → IsHeap nat_cmp newer
  pub size : sum_of_labels new + length newer ≤ sum_of_labels labels + length keys
