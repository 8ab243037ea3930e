-- A walk back to the source along parent steps.
use Rattle.std.proofs.Common.{ℕ, zero, suc, ◌+◌, ◌<◌, ◌≤◌, ◌≡◌, Bool, List, [], ◌∷◌, ◌++◌, sym, refl, ap, ◌∙◌, subst, ⊎_elim, arith, length}
use Rattle.std.specs.Prelude.{All, slice_index, slice_index_or, set, min, ◌≢◌, ℤ, pos, ◌+ℤ◌}
use Rattle.std.proofs.lemmas.Bool.{cases_eq}
use Rattle.std.proofs.lemmas.List.{append_assoc, append-nil, length-append, get_or-set_same, get_or-set_other}
use Rattle.std.proofs.lemmas.List.Elements.{All-head, All-tail}
use lib.ListN.{length-set}
use Rattle.flow_model.specs.declared.instance.Arc.{Arc}
use Rattle.residual_net.specs.Residual.{ResidualNet, IsResidualNet, HasRoomFor}
use Rattle.flow_solver.specs.Search.{parent_of, previous_node, HasDepth, parent_path, IsReachedNode, IsRaised}
use Rattle.flow_solver.specs.Meeting.{lift}
use Rattle.flow_solver.proofs.Trees.{tail_in}

-- the steps taken so far and those that are left make the whole path
pub record IsWalking (residual : ResidualNet) (parents : List (ℕ × Bool)) (t : ℕ) (path : List (ℕ × Bool)) (v : ℕ) : Type 0 where
  pub inside : v < residual.net.nodes
  pub left : ℕ
  pub few : length path + left < residual.net.nodes
  pub chain : HasDepth residual.net.arcs parents residual.net.source left v
  pub whole : HasDepth residual.net.arcs parents residual.net.source (length path + left) t
  pub steps : path ++ parent_path residual.net.arcs parents left v ≡ parent_path residual.net.arcs parents (length path + left) t
  pub known : All (λ (s : ℕ × Bool). s.0 < length residual.net.arcs) (parent_path residual.net.arcs parents left v)

pub walk_init : (residual : ResidualNet) (parents : List (ℕ × Bool)) (k t : ℕ) → k < residual.net.nodes → IsReachedNode residual parents k t → IsWalking residual parents t [] t
walk_init residual parents k t few traced =
    let none : k ≡ length {A = ℕ × Bool} [] + k = omega arith in
    record {
      inside = traced.inside;
      left = k;
      few = omega arith;
      chain = traced.chain;
      whole = subst (λ n. HasDepth residual.net.arcs parents residual.net.source n t) none traced.chain;
      steps = ap (λ n. parent_path residual.net.arcs parents n t) none;
      known = traced.known;
    }

-- the next parent step is over a known arc
pub walk_known : (residual : ResidualNet) (parents : List (ℕ × Bool)) (t : ℕ) (path : List (ℕ × Bool)) (v : ℕ) → v ≢ residual.net.source → IsWalking residual parents t path v → ((parent_of parents v).0 < length residual.net.arcs) × (length path < residual.net.nodes)
walk_known residual parents t path v ne so = by so.left so.chain so.known so.few
  where
    by : (k : ℕ) → HasDepth residual.net.arcs parents residual.net.source k v → All (λ (s : ℕ × Bool). s.0 < length residual.net.arcs) (parent_path residual.net.arcs parents k v) → length path + k < residual.net.nodes → ((parent_of parents v).0 < length residual.net.arcs) × (length path < residual.net.nodes)
    by zero chain known few = absurd (ne chain)
    by (suc k) chain known few = (All-head (λ (s : ℕ × Bool). s.0 < length residual.net.arcs) (parent_of parents v) (parent_path residual.net.arcs parents k (previous_node residual.net.arcs parents v)) known, omega arith)

pub walk_turn : (residual : ResidualNet) (parents : List (ℕ × Bool)) (t : ℕ) (path more : List (ℕ × Bool)) (v u : ℕ) → IsResidualNet residual → v ≢ residual.net.source → more ≡ path ++ parent_of parents v ∷ [] → u ≡ previous_node residual.net.arcs parents v → IsWalking residual parents t path v → IsWalking residual parents t more u
walk_turn residual parents t path more v u ok ne grows at so = subst (IsWalking residual parents t more) (sym at) (by so.left so.chain so.known so.few so.whole so.steps)
  where
    by : (k : ℕ) → HasDepth residual.net.arcs parents residual.net.source k v → All (λ (s : ℕ × Bool). s.0 < length residual.net.arcs) (parent_path residual.net.arcs parents k v) → length path + k < residual.net.nodes → HasDepth residual.net.arcs parents residual.net.source (length path + k) t → path ++ parent_path residual.net.arcs parents k v ≡ parent_path residual.net.arcs parents (length path + k) t → IsWalking residual parents t more (previous_node residual.net.arcs parents v)
    by zero chain known few whole steps = absurd (ne chain)
    by (suc k) chain known few whole steps =
        let s = parent_of parents v in
        let P : ℕ × Bool → Type 0 = λ s. s.0 < length residual.net.arcs in
        let long : length more ≡ length path + 1 = ap length grows ∙ length-append path (s ∷ []) in
        let same : length path + suc k ≡ length more + k = omega (arith, long) in
        record {
          inside = tail_in residual s ok (All-head P s (parent_path residual.net.arcs parents k (previous_node residual.net.arcs parents v)) known);
          left = k;
          few = omega (arith, long, few);
          chain = chain.1;
          whole = subst (λ n. HasDepth residual.net.arcs parents residual.net.source n t) same whole;
          steps = ap (λ xs. xs ++ parent_path residual.net.arcs parents k (previous_node residual.net.arcs parents v)) grows ∙ append_assoc path (s ∷ []) (parent_path residual.net.arcs parents k (previous_node residual.net.arcs parents v)) ∙ steps ∙ ap (λ n. parent_path residual.net.arcs parents n t) same;
          known = All-tail P s (parent_path residual.net.arcs parents k (previous_node residual.net.arcs parents v)) known;
        }

-- at the source no step is left
pub walk_end : (residual : ResidualNet) (parents : List (ℕ × Bool)) (t : ℕ) (path : List (ℕ × Bool)) (v : ℕ) → v ≡ residual.net.source → IsWalking residual parents t path v → HasDepth residual.net.arcs parents residual.net.source (length path) t × (path ≡ parent_path residual.net.arcs parents (length path) t)
walk_end residual parents t path v at so = by so.left so.chain so.whole so.steps
  where
    by : (k : ℕ) → HasDepth residual.net.arcs parents residual.net.source k v → HasDepth residual.net.arcs parents residual.net.source (length path + k) t → path ++ parent_path residual.net.arcs parents k v ≡ parent_path residual.net.arcs parents (length path + k) t → HasDepth residual.net.arcs parents residual.net.source (length path) t × (path ≡ parent_path residual.net.arcs parents (length path) t)
    by zero chain whole steps =
        let same : length path + 0 ≡ length path = omega arith in
        (subst (λ n. HasDepth residual.net.arcs parents residual.net.source n t) same whole, sym (append-nil path) ∙ steps ∙ ap (λ n. parent_path residual.net.arcs parents n t) same)
    by (suc k) chain whole steps = absurd (chain.0 at)

-- the potentials of the first nodes are raised
pub record IsRaising (p new : List ℤ) (labels : List ℕ) (bound n : ℕ) : Type 0 where
  pub long : length new ≡ length p
  pub below : (v : ℕ) → v < n → v < length p → slice_index_or new v (pos 0) ≡ slice_index_or p v (pos 0) +ℤ pos (min (slice_index labels v) bound)
  pub untouched : (v : ℕ) → n ≤ v → slice_index_or new v (pos 0) ≡ slice_index_or p v (pos 0)

pub raise_init : (p : List ℤ) (labels : List ℕ) (bound : ℕ) → IsRaising p p labels bound 0
raise_init p labels bound = record { long = refl; below = λ v l k. absurd (omega arith); untouched = λ v l. refl }

pub raise_turn : (p old new : List ℤ) (labels : List ℕ) (bound n : ℕ) (x : ℤ) → n < length p → x ≡ slice_index_or old n (pos 0) +ℤ pos (min (slice_index labels n) bound) → new ≡ set old n x → IsRaising p old labels bound n → IsRaising p new labels bound (n + 1)
raise_turn p old new labels bound n x l e is so = subst (λ q. IsRaising p q labels bound (n + 1)) (sym is) record {
  long = length-set old n x ∙ so.long;
  below = λ v k in'. ⊎_elim
      (λ (at : n ≡ v). subst (λ w. slice_index_or (set old n x) w (pos 0) ≡ slice_index_or p w (pos 0) +ℤ pos (min (slice_index labels w) bound)) at (get_or-set_same old n x (pos 0) (omega (arith, l, so.long)) ∙ e ∙ ap (λ y. y +ℤ pos (min (slice_index labels n) bound)) (so.untouched n (omega arith))))
      (λ (ne : n ≡ v → ⊥). get_or-set_other old n v x (pos 0) (λ f. ne (sym f)) ∙ so.below v (omega arith) in')
      (cases_eq n v);
  untouched = λ v k. get_or-set_other old n v x (pos 0) (λ f. omega (arith, k, f)) ∙ so.untouched v (omega arith);
}

pub raise_end : (p new : List ℤ) (labels : List ℕ) (bound n : ℕ) → length p ≤ n → IsRaising p new labels bound n → IsRaised p new labels bound
raise_end p new labels bound n l so = record { long = so.long; each = λ v k. so.below v (omega arith) k }

-- the potentials of the first nodes are lifted
pub record IsLifting (p new : List ℤ) (d e : List ℕ) (a b n : ℕ) : Type 0 where
  pub long : length new ≡ length p
  pub below : (v : ℕ) → v < n → v < length p → slice_index_or new v (pos 0) ≡ slice_index_or p v (pos 0) +ℤ lift a b (slice_index d v) (slice_index e v) +ℤ pos b
  pub untouched : (v : ℕ) → n ≤ v → slice_index_or new v (pos 0) ≡ slice_index_or p v (pos 0)

pub lift_init : (p : List ℤ) (d e : List ℕ) (a b : ℕ) → IsLifting p p d e a b 0
lift_init p d e a b = record { long = refl; below = λ v l k. absurd (omega arith); untouched = λ v l. refl }

pub lift_turn : (p old new : List ℤ) (d e : List ℕ) (a b n : ℕ) (x : ℤ) → n < length p → x ≡ slice_index_or old n (pos 0) +ℤ lift a b (slice_index d n) (slice_index e n) +ℤ pos b → new ≡ set old n x → IsLifting p old d e a b n → IsLifting p new d e a b (n + 1)
lift_turn p old new d e a b n x l is made so = subst (λ q. IsLifting p q d e a b (n + 1)) (sym made) record {
  long = length-set old n x ∙ so.long;
  below = λ v k in'. ⊎_elim
      (λ (at : n ≡ v). subst (λ w. slice_index_or (set old n x) w (pos 0) ≡ slice_index_or p w (pos 0) +ℤ lift a b (slice_index d w) (slice_index e w) +ℤ pos b) at (get_or-set_same old n x (pos 0) (omega (arith, l, so.long)) ∙ is ∙ ap (λ y. y +ℤ lift a b (slice_index d n) (slice_index e n) +ℤ pos b) (so.untouched n (omega arith))))
      (λ (ne : n ≡ v → ⊥). get_or-set_other old n v x (pos 0) (λ f. ne (sym f)) ∙ so.below v (omega arith) in')
      (cases_eq n v);
  untouched = λ v k. get_or-set_other old n v x (pos 0) (λ f. omega (arith, k, f)) ∙ so.untouched v (omega arith);
}

-- a step with room for an amount has room for less
pub room_less : (arcs : List Arc) (flow : List ℕ) (a b : ℕ) (s : ℕ × Bool) → b ≤ a → HasRoomFor arcs flow a s → HasRoomFor arcs flow b s
room_less arcs flow a b s le h = let r = h.1 in (h.0, omega (arith, r, le))

pub record IsLeast (arcs : List Arc) (flow : List ℕ) (most amount : ℕ) (path : List (ℕ × Bool)) : Type 0 where
  pub most_is : amount ≤ most
  pub some : 0 < amount
  pub rooms : All (HasRoomFor arcs flow amount) path
