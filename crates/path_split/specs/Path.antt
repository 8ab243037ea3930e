-- Paths of directions, and their order.
use Rattle.std.specs.Prelude.{ℕ, ◌<◌, ◌≡◌, List, [], ◌∷◌, length, ◌⊎◌}
use Rattle.flow_model.specs.declared.instance.Arc.{Arc}
use Rattle.flow_model.specs.Instance.{arc_at}

-- some arc of the direction leads from one node to the other
pub record HasArc (arcs : List Arc) (dir from to : ℕ) : Type 0 where
  pub at : ℕ
  pub within : at < length arcs
  pub of_dir : (arc_at arcs at).dir ≡ dir
  pub starts : (arc_at arcs at).from ≡ from
  pub ends : (arc_at arcs at).to ≡ to

-- the directions lead from node u to node w: each starts at the node at which the one before it ends
abbrev pub IsPath : List Arc → ℕ → List ℕ → ℕ → Type 0
IsPath arcs u [] w = u ≡ w
IsPath arcs u (dir ∷ path) w = (v : ℕ) × HasArc arcs dir u v × IsPath arcs v path w

-- the first path comes before the second, compared direction by direction
abbrev pub IsBefore : List ℕ → List ℕ → Type 0
IsBefore p [] = ⊥
IsBefore [] (e ∷ q) = Unit {0}
IsBefore (d ∷ p) (e ∷ q) = (d < e) ⊎ ((d ≡ e) × IsBefore p q)

-- the first path equals the second, or comes before it
abbrev pub IsNotAfter : List ℕ → List ℕ → Type 0
IsNotAfter p q = (p ≡ q) ⊎ IsBefore p q
