-- What is left of a cheapest flow has no cycle, and nothing is left when all units are sent.
use Rattle.std.proofs.Common.{ℕ, zero, suc, ◌*◌, ◌<◌, ◌≤◌, ◌≡◌, List, [], ◌∷◌, refl, ap, arith, length}
use Rattle.std.specs.Prelude.{All, sum_by, zip, map}
use Rattle.std.proofs.lemmas.List.Elements.{All-head, All-tail, All-cons, All-nil}
use Rattle.std.proofs.lemmas.List.Sums.{sum_by-cons}
use Rattle.flow_model.specs.Instance.{Net, IsInstance}
use Rattle.flow_model.specs.Flow.{IsCheapest, units_of, loads}
use Rattle.flow_model.specs.declared.instance.Arc.{Arc}
use Rattle.path_split.specs.declared.edge.Edge.{Edge}
use Rattle.path_split.specs.Path.{HasArc}
use Rattle.path_split.specs.Edges.{AreDirections}
use Rattle.path_split.specs.Walk.{no_edge, edge_at, HasNoCycle, weighted_sum, leaves, enters, over, whole, IsBalanced}
use Rattle.path_split.proofs.Circulation.{IsOver, at_node-times, no_circulation}
use Rattle.path_split.proofs.Walks.{weight, bears_from, lone_from_apart, weigh_lowered, walk_ends, walk_within}

-- one unit on each edge of the path
abbrev units : List Edge → List ℕ → List (Edge × ℕ)
units es path = map (λ i. (edge_at es i, 1)) path

weigh_units : (q : ℕ → ℕ → ℕ → ℕ) (es : List Edge) (path : List ℕ) → weighted_sum q (units es path) ≡ sum_by (weight q es) path
weigh_units q es [] = refl
weigh_units q es (i ∷ path) = omega (arith, weigh_units q es path, sum_by-cons (weight q es) i path, sum_by-cons (λ (l : Edge × ℕ). l.1 * q l.0.from l.0.dir l.0.to) (edge_at es i, 1) (units es path))

known_units : (arcs : List Arc) (es : List Edge) (path : List ℕ) → AreDirections arcs es → All (λ i. i < length es) path → All (IsOver arcs) (units es path)
known_units arcs es [] known within = All-nil (IsOver arcs)
known_units arcs es (i ∷ path) known within = All-cons (IsOver arcs) (edge_at es i, 1) (units es path) (known i no_edge (All-head (λ j. j < length es) i path within)) (known_units arcs es path known (All-tail (λ j. j < length es) i path within))

known_left : (arcs : List Arc) (es : List Edge) (left : List ℕ) → AreDirections arcs es → All (IsOver arcs) (zip es left)
known_left arcs [] left known k d l = absurd (omega arith)
known_left arcs (e ∷ es) [] known k d l = absurd (omega arith)
known_left arcs (e ∷ es) (x ∷ left) known zero d l = All-head (λ (e : Edge). HasArc arcs e.dir e.from e.to) e es known
known_left arcs (e ∷ es) (x ∷ left) known (suc k) d l = known_left arcs es left (All-tail (λ (e : Edge). HasArc arcs e.dir e.from e.to) e es known) k d (omega arith)

pub no_cycle : (net : Net) (flow : List ℕ) (es : List Edge) (left : List ℕ) → IsInstance net → IsCheapest net flow → AreDirections net.arcs es → length left ≡ length es → ((d : ℕ) → weighted_sum (over d) (zip es left) ≤ units_of d (loads net flow)) → HasNoCycle es left
no_cycle net flow es left good best known long below u i path walk carries apart =
    let p = i ∷ path in
    let within = walk_within es u u p walk in
    let bears = bears_from left 1 p (λ k d l. let h = within k d l in omega (arith, h, long)) (λ k d l. let h = carries k d l in omega (arith, h)) (lone_from_apart es p apart) in
    let none = no_circulation net flow (units es p) good best (known_units net.arcs es p known within)
    (λ v l. omega (arith, weigh_units (leaves v) es p, weigh_units (enters v) es p, walk_ends es u u v p walk))
    (λ d. omega (arith, weigh_units (over d) es p, weigh_lowered (over d) es left 1 p long bears, below d)) in
    omega (arith, none, weigh_units whole es p, sum_by-cons (weight whole es) i path)

nothing : (q : ℕ → ℕ → ℕ → ℕ) (ls : List (Edge × ℕ)) → weighted_sum whole ls ≡ 0 → weighted_sum q ls ≡ 0
nothing q [] none = refl
nothing q (l ∷ ls) none =
    let c = sum_by-cons (λ (m : Edge × ℕ). m.1 * 1) l ls in
    let z : l.1 ≡ 0 = omega (arith, c, none) in
    let m = ap (λ n. n * q l.0.from l.0.dir l.0.to) z in
    omega (arith, m, nothing q ls (omega (arith, c, none)), sum_by-cons (λ (m : Edge × ℕ). m.1 * q m.0.from m.0.dir m.0.to) l ls)

-- once all units are sent, no edge has units left
pub nothing_left : (net : Net) (flow : List ℕ) (es : List Edge) (left : List ℕ) (s t : ℕ) → IsInstance net → IsCheapest net flow → AreDirections net.arcs es → IsBalanced net.nodes es left s t 0 → ((d : ℕ) → weighted_sum (over d) (zip es left) ≤ units_of d (loads net flow)) → (q : ℕ → ℕ → ℕ → ℕ) → weighted_sum q (zip es left) ≡ 0
nothing_left net flow es left s t good best known balanced below q =
    nothing q (zip es left) (no_circulation net flow (zip es left) good best (known_left net.arcs es left known)
    (λ v l. let h = balanced.each v l in let a = at_node-times s 0 v in let b = at_node-times t 0 v in omega (arith, h, a, b))
    below)
