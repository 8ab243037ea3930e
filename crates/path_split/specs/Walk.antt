-- Serves private clauses only: walks over edges, which are directions that carry units, and what is left on the edges.
use Rattle.std.specs.Prelude.{ℕ, ◌+◌, ◌-◌, ◌*◌, ◌<◌, ◌≤◌, ◌≡◌, ◌≢◌, ◌⊎◌, List, [], ◌∷◌, length, map, zip, set, All, AllPairs, sum_by, cond, nat_eq, slice_index_or}
use Rattle.path_split.specs.declared.edge.Edge.{Edge}

-- the default of a lookup in a list of edges
abbrev pub no_edge : Edge
no_edge = record { from = 0; dir = 0; to = 0; units = 0 }

abbrev pub edge_at : List Edge → ℕ → Edge
edge_at es i = slice_index_or es i no_edge

-- the edges lead from node u to node w; a walk is a list of indices of edges
abbrev pub IsWalk : List Edge → ℕ → List ℕ → ℕ → Type 0
IsWalk es u [] w = u ≡ w
IsWalk es u (i ∷ path) w = (i < length es) × ((edge_at es i).from ≡ u) × IsWalk es (edge_at es i).to path w

-- each edge of the walk has units left
abbrev pub HasUnits : List ℕ → List ℕ → Type 0
HasUnits left path = All (λ i. 0 < slice_index_or left i 0) path

-- no two edges of the walk start at the same node
abbrev pub LeavesNodesOnce : List Edge → List ℕ → Type 0
LeavesNodesOnce es path = AllPairs (λ i j. (edge_at es i).from ≢ (edge_at es j).from) path

-- the edge is the first one with units left among those that start at its node
abbrev pub IsFirstEdge : List Edge → List ℕ → ℕ → Type 0
IsFirstEdge es left i = (j : ℕ) → j < length es → (edge_at es j).from ≡ (edge_at es i).from → 0 < slice_index_or left j 0 → i ≤ j

-- no walk over edges with units left returns to the node at which it starts
abbrev pub HasNoCycle : List Edge → List ℕ → Type 0
HasNoCycle es left = (u i : ℕ) (path : List ℕ) → IsWalk es u (i ∷ path) u → HasUnits left (i ∷ path) → LeavesNodesOnce es (i ∷ path) → ⊥

-- x if v is the node u, else 0
abbrev pub amount_at : ℕ → ℕ → ℕ → ℕ
amount_at u x v = cond (nat_eq u v) x 0

-- the sum of the edges' units, each times a weight q of the edge's start, direction and end
abbrev pub weighted_sum : (ℕ → ℕ → ℕ → ℕ) → List (Edge × ℕ) → ℕ
weighted_sum q ls = sum_by (λ (l : Edge × ℕ). l.1 * q l.0.from l.0.dir l.0.to) ls

-- weights that select the units that leave a node, that enter it, that are on a direction, and all units
abbrev pub leaves : ℕ → ℕ → ℕ → ℕ → ℕ
leaves v from dir to = amount_at from 1 v

abbrev pub enters : ℕ → ℕ → ℕ → ℕ → ℕ
enters v from dir to = amount_at to 1 v

abbrev pub over : ℕ → ℕ → ℕ → ℕ → ℕ
over d from dir to = amount_at dir 1 d

abbrev pub whole : ℕ → ℕ → ℕ → ℕ
whole from dir to = 1

-- the edges send this many units from s to t: at every other node as many units leave as enter
pub record IsBalanced (nodes : ℕ) (es : List Edge) (left : List ℕ) (s t units : ℕ) : Type 0 where
  pub long : length left ≡ length es
  pub each : (v : ℕ) → v < nodes → weighted_sum (leaves v) (zip es left) + amount_at t units v ≡ weighted_sum (enters v) (zip es left) + amount_at s units v

-- the units that are left once k units are taken from each edge of the path
abbrev pub lowered : List ℕ → ℕ → List ℕ → List ℕ
lowered left k [] = left
lowered left k (i ∷ path) = lowered (set left i (slice_index_or left i 0 - k)) k path

-- edges that start at one node are in ascending order of their directions
abbrev pub HasOrderedEdges : List Edge → Type 0
HasOrderedEdges es = (i j : ℕ) → i < j → j < length es → (edge_at es i).from ≡ (edge_at es j).from → (edge_at es i).dir < (edge_at es j).dir

-- the directions of the path
abbrev pub directions : List Edge → List ℕ → List ℕ
directions es path = map (λ i. (edge_at es i).dir) path

-- one of the path's edges has exactly k units left
abbrev pub HasBottleneck : List ℕ → ℕ → List ℕ → Type 0
HasBottleneck left k [] = ⊥
HasBottleneck left k (i ∷ path) = (slice_index_or left i 0 ≡ k) ⊎ HasBottleneck left k path

-- k units can be taken from each edge of the path, one after another
abbrev pub CanLower : List ℕ → ℕ → List ℕ → Type 0
CanLower left k [] = Unit {0}
CanLower left k (i ∷ path) = (i < length left) × (k ≤ slice_index_or left i 0) × CanLower (set left i (slice_index_or left i 0 - k)) k path

-- no edge before this index starts at node v and has units left
abbrev pub HasNoEdgeBefore : List Edge → List ℕ → ℕ → ℕ → Type 0
HasNoEdgeBefore es left v at = (j : ℕ) → j < length es → (edge_at es j).from ≡ v → 0 < slice_index_or left j 0 → at ≤ j

-- for each node an index such that no edge before it starts there and has units left
abbrev pub AreFirstPlaces : List Edge → List ℕ → List ℕ → Type 0
AreFirstPlaces es left first = (v : ℕ) → v < length first → HasNoEdgeBefore es left v (slice_index_or first v 0)

-- from s, and from each node but t that an edge with units left enters, an edge with units left leads on
abbrev pub UnitsGoOn : ℕ → List Edge → List ℕ → ℕ → ℕ → Type 0
UnitsGoOn nodes es left s t = (v : ℕ) → v < nodes → v ≢ t → (v ≡ s) ⊎ (0 < weighted_sum (enters v) (zip es left)) → 0 < weighted_sum (leaves v) (zip es left)

-- the edges start and end at nodes below this number
abbrev pub HasEndsBelow : ℕ → List Edge → Type 0
HasEndsBelow nodes es = All (λ (e : Edge). (e.from < nodes) × (e.to < nodes)) es

-- a walk from s to w that takes at each node the first edge with units left, visits no node twice, and does not go on
-- from t
pub record IsFirstWalk (es : List Edge) (left : List ℕ) (s w t : ℕ) (path : List ℕ) : Type 0 where
  pub walk : IsWalk es s path w
  pub carries : HasUnits left path
  pub apart : LeavesNodesOnce es path
  pub first : All (IsFirstEdge es left) path
  pub before : All (λ i. (edge_at es i).from ≢ t) path
