-- A search from both ends: where its two trees meet, and what that does to the potentials; these words serve private
-- clauses only.
use Rattle.std.specs.Prelude.{ℕ, ◌+◌, ◌<◌, ◌≤◌, ◌≡◌, List, ◌-◌, length, Bool, cond, min, slice_index, slice_index_or, ℤ, pos, ◌+ℤ◌, ◌-ℤ◌, ◌≤ℤ◌}
use Rattle.flow_model.specs.Instance.{arc_at}
use Rattle.residual_net.specs.Residual.{ResidualNet}
use Rattle.flow_solver.specs.declared.labels.TheConstants.{UNREACHED}
use Rattle.flow_solver.specs.declared.steps.NextStep.{NextStep}
use Rattle.flow_solver.specs.Search.{tail_of, head_of, step_cost, IsNextStep, IsSearchTree}

-- a step that a search may use, with its ends and its arc's cost
pub record IsStepOf (residual : ResidualNet) (s : NextStep) : Type 0 where
  pub next : IsNextStep residual (s.arc, s.back)
  pub tail : tail_of (arc_at residual.net.arcs s.arc) s.back ≡ s.tail
  pub head : head_of (arc_at residual.net.arcs s.arc) s.back ≡ s.head
  pub cost : s.cost ≡ (arc_at residual.net.arcs s.arc).cost

-- a cost, seen from two potentials
abbrev pub reduced : List ℤ → ℕ → ℕ → ℕ → ℤ
reduced p cost from to = pos cost +ℤ slice_index_or p from (pos 0) -ℤ slice_index_or p to (pos 0)

-- the reduced cost of a step: forward that of its arc, backward the negated one
abbrev pub reduced_cost : List ℤ → NextStep → ℤ
reduced_cost p s = cond s.back (pos 0 -ℤ reduced p s.cost s.head s.tail) (reduced p s.cost s.tail s.head)

-- no path over a node that both trees reach is shorter than the best, and the best one leads over this node
pub record IsMeeting (nodes : ℕ) (d e : List ℕ) (best node : ℕ) : Type 0 where
  pub below : (x : ℕ) → x < nodes → best ≤ slice_index d x + slice_index e x
  pub most : best ≤ UNREACHED
  pub met : best < UNREACHED → (node < nodes) × (slice_index d node + slice_index e node ≤ best)

-- what a search from both ends finds: d are the labels from the source, e those to the destination. No step lowers a
-- label d from one below a, or a label e from one below b
pub record IsMet (residual : ResidualNet) (p : List ℤ) (d e : List ℕ) (a b best : ℕ) : Type 0 where
  pub sum : a + b ≡ best
  pub from_source : (s : ℕ × Bool) → IsNextStep residual s → slice_index d (tail_of (arc_at residual.net.arcs s.0) s.1) < a → pos (min (slice_index d (head_of (arc_at residual.net.arcs s.0) s.1)) best) ≤ℤ (pos (slice_index d (tail_of (arc_at residual.net.arcs s.0) s.1)) +ℤ step_cost p (arc_at residual.net.arcs s.0) s.1)
  pub from_target : (s : ℕ × Bool) → IsNextStep residual s → slice_index e (head_of (arc_at residual.net.arcs s.0) s.1) < b → pos (min (slice_index e (tail_of (arc_at residual.net.arcs s.0) s.1)) best) ≤ℤ (pos (slice_index e (head_of (arc_at residual.net.arcs s.0) s.1)) +ℤ step_cost p (arc_at residual.net.arcs s.0) s.1)
  pub meets : (x : ℕ) → x < residual.net.nodes → best ≤ slice_index d x + slice_index e x
  pub at_source : slice_index d residual.net.source ≡ 0
  pub at_target : slice_index e residual.net.destination ≡ 0

-- what is added to the potential of a node with labels d and e, and a constant
abbrev pub lift : ℕ → ℕ → ℕ → ℕ → ℤ
lift a b d e = pos (min d a) -ℤ pos (min e b)

-- each potential is lifted by both labels of its node
pub record IsLifted (p new : List ℤ) (d e : List ℕ) (a b : ℕ) : Type 0 where
  pub long : length new ≡ length p
  pub each : (v : ℕ) → v < length p → slice_index_or new v (pos 0) ≡ slice_index_or p v (pos 0) +ℤ lift a b (slice_index d v) (slice_index e v) +ℤ pos b

-- the labels after they were carried on to the destination by the shortest path; below the source's radius they are those
-- that the search left
pub record IsCarriedOn (residual : ResidualNet) (p : List ℤ) (labels : List ℕ) (parents : List (ℕ × Bool)) (e : List ℕ) (a best : ℕ) : Type 0 where
  pub before : List ℕ
  pub met : IsMet residual p before e a (best - a) best
  pub kept : (x : ℕ) → min (slice_index labels x) a ≡ min (slice_index before x) a
  pub tree : IsSearchTree residual p labels parents
  pub long : length e ≡ residual.net.nodes
  pub radius : a ≤ best
  pub reached : best < UNREACHED
  pub short : slice_index labels residual.net.destination ≤ best
