-- What a step does to the surplus of each node: what leaves it less what enters it.
use Rattle.std.proofs.Common.{ℕ, zero, suc, ◌+◌, ◌-◌, ◌<◌, ◌≤◌, ◌≡◌, Bool, true, false, cond, List, [], ◌∷◌, refl, ap, arith, length}
use Rattle.std.specs.Prelude.{sum_by, zip, set, nat_eq, slice_index, pos, ℤ, ◌+ℤ◌, ◌-ℤ◌}
use Rattle.std.proofs.lemmas.List.Sums.{sum_by-set}
use Rattle.std.proofs.lemmas.Slice.Zip.{get_or-zip, length-zip}
use Rattle.std.proofs.lemmas.Int.{ints}
use Rattle.flow_model.specs.declared.instance.Arc.{Arc}
use Rattle.flow_model.specs.Flow.{leaving, entering}
use Rattle.flow_model.proofs.Balance.{at_node}
use Rattle.residual_net.specs.Residual.{units_after, room_left}
use Rattle.flow_model.specs.Instance.{arc_at, no_arc}
use Rattle.flow_solver.specs.Search.{tail_of, head_of}

pub zip-set : (xs : List Arc) (ys : List ℕ) (i y : ℕ) → i < length xs → zip xs (set ys i y) ≡ set (zip xs ys) i (arc_at xs i, y)
zip-set [] ys i y l = absurd (omega arith)
zip-set (x ∷ xs) [] i y l = refl
zip-set (x ∷ xs) (z ∷ ys) zero y l = refl
zip-set (x ∷ xs) (z ∷ ys) (suc i) y l = ap (λ r. (x, z) ∷ r) (zip-set xs ys i y (omega arith))

-- any sum over the arcs after a change of one arc's units
pub load_set : (w : Arc × ℕ → ℕ) (arcs : List Arc) (flow : List ℕ) (i y : ℕ) → length flow ≡ length arcs → i < length arcs → sum_by w (zip arcs (set flow i y)) + w (arc_at arcs i, slice_index flow i) ≡ sum_by w (zip arcs flow) + w (arc_at arcs i, y)
load_set w arcs flow i y long l =
    let s = sum_by-set w (zip arcs flow) i (arc_at arcs i, y) (no_arc, 0) (omega (arith, length-zip arcs flow)) in
    let at = ap w (get_or-zip arcs flow i (no_arc, 0) l (omega arith)) in
    let z = ap (sum_by w) (zip-set arcs flow i y l) in
    omega (arith, s, at, z)

abbrev pub surplus : List (Arc × ℕ) → ℕ → ℤ
surplus ls v = pos (leaving v ls) -ℤ pos (entering v ls)

at_node-add : (u x y v : ℕ) → at_node u (x + y) v ≡ at_node u x v + at_node u y v
at_node-add u x y v = by (nat_eq u v)
  where
    by : (b : Bool) → cond b (x + y) 0 ≡ cond b x 0 + cond b y 0
    by true = refl
    by false = refl

pub step_surplus : (arcs : List Arc) (flow : List ℕ) (k i v : ℕ) (back : Bool) → length flow ≡ length arcs → i < length arcs → k ≤ room_left (arc_at arcs i) back (slice_index flow i) → surplus (zip arcs (set flow i (units_after (slice_index flow i) k back))) v ≡ surplus (zip arcs flow) v +ℤ pos (at_node (tail_of (arc_at arcs i) back) k v) -ℤ pos (at_node (head_of (arc_at arcs i) back) k v)
step_surplus arcs flow k i v true long l le =
    let x = slice_index flow i in
    let b = arc_at arcs i in
    let e : x - k + k ≡ x = omega arith in
    let from = at_node-add b.from (x - k) k v in
    let to = at_node-add b.to (x - k) k v in
    let f = ap (λ m. at_node b.from m v) e in
    let t = ap (λ m. at_node b.to m v) e in
    omega (arith, ints, load_set (λ (p : Arc × ℕ). at_node p.0.from p.1 v) arcs flow i (x - k) long l, load_set (λ (p : Arc × ℕ). at_node p.0.to p.1 v) arcs flow i (x - k) long l, from, to, f, t)
step_surplus arcs flow k i v false long l le =
    let x = slice_index flow i in
    let b = arc_at arcs i in
    omega (arith, ints, load_set (λ (p : Arc × ℕ). at_node p.0.from p.1 v) arcs flow i (x + k) long l, load_set (λ (p : Arc × ℕ). at_node p.0.to p.1 v) arcs flow i (x + k) long l, at_node-add b.from x k v, at_node-add b.to x k v)
