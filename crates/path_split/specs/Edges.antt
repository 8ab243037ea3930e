-- Serves private clauses only: the edges of a flow, one for each direction that carries units.
use Rattle.std.specs.Prelude.{ℕ, ◌+◌, ◌-◌, ◌*◌, ◌^◌, ◌<◌, ◌≡◌, ◌≢◌, ◌⊎◌, List, [], ◌∷◌, ◌++◌, length, set, All, AllPairs, sum_by}
use Rattle.flow_model.specs.declared.instance.Arc.{Arc}
use Rattle.path_split.specs.declared.edge.Edge.{Edge}
use Rattle.path_split.specs.Path.{HasArc}
use Rattle.path_split.specs.Walk.{edge_at}

-- the sum of the units of arcs, and of edges, each times a weight q of its start, direction and end
abbrev pub weighted_flow : (ℕ → ℕ → ℕ → ℕ) → List (Arc × ℕ) → ℕ
weighted_flow q ls = sum_by (λ (l : Arc × ℕ). l.1 * q l.0.from l.0.dir l.0.to) ls

abbrev pub weighted_units : (ℕ → ℕ → ℕ → ℕ) → List Edge → ℕ
weighted_units q es = sum_by (λ (e : Edge). e.units * q e.from e.dir e.to) es

-- each edge is a direction of the arcs, with its ends
abbrev pub AreDirections : List Arc → List Edge → Type 0
AreDirections arcs es = All (λ (e : Edge). HasArc arcs e.dir e.from e.to) es

-- the edges have all units of the loads, under any weight; each has at least one
pub record AreEdgesOf (arcs : List Arc) (ls : List (Arc × ℕ)) (es : List Edge) : Type 0 where
  pub sums : (q : ℕ → ℕ → ℕ → ℕ) → weighted_units q es ≡ weighted_flow q ls
  pub known : AreDirections arcs es
  pub some : All (λ (e : Edge). 0 < e.units) es
  pub small : All (λ (e : Edge). e.dir < 2 ^ 32) es

-- the number that orders edges by their starts, and then by their directions
abbrev pub edge_key : Edge → ℕ
edge_key e = e.from * 2 ^ 32 + e.dir

-- the keys ascend strictly
abbrev pub IsAscending : List Edge → Type 0
IsAscending es = AllPairs (λ (a b : Edge). edge_key a < edge_key b) es

-- the last edge
abbrev pub last_edge : List Edge → Edge
last_edge es = edge_at es (length es - 1)

-- the edge is added to the last edge if both have one direction, and else appended
abbrev pub AddOutcome : List Edge → Edge → List Edge → Type 0
AddOutcome es e more = ((0 < length es) × ((last_edge es).dir ≡ e.dir) × (more ≡ set es (length es - 1) (record (last_edge es) { units = (last_edge es).units + e.units }))) ⊎ ((0 < length es → (last_edge es).dir ≢ e.dir) × (more ≡ es ++ e ∷ []))

-- the edge has the ends and the direction of one of the edges
abbrev pub HasDirectionOf : List Edge → Edge → Type 0
HasDirectionOf es e = (j : ℕ) × (j < length es) × ((edge_at es j).from ≡ e.from) × ((edge_at es j).dir ≡ e.dir) × ((edge_at es j).to ≡ e.to)

-- edges of the same direction have equal ends
abbrev pub HasEqualEnds : List Edge → Type 0
HasEqualEnds es = (i j : ℕ) → i < length es → j < length es → (edge_at es i).dir ≡ (edge_at es j).dir → ((edge_at es i).from ≡ (edge_at es j).from) × ((edge_at es i).to ≡ (edge_at es j).to)

-- the second list has one edge for each direction of the first, with all its units
pub record MergeOutcome (es : List Edge) (more : List Edge) : Type 0 where
  pub sums : (q : ℕ → ℕ → ℕ → ℕ) → weighted_units q more ≡ weighted_units q es
  pub come : All (HasDirectionOf es) more
  pub some : All (λ (e : Edge). 0 < e.units) es → All (λ (e : Edge). 0 < e.units) more
  pub ascend : IsAscending more
