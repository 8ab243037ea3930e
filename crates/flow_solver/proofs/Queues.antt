-- The queue of a search in the order of labels.
use Rattle.std.proofs.Common.{ℕ, zero, suc, ◌+◌, ◌^◌, ◌%◌, ◌<◌, ◌≤◌, ◌≡◌, Bool, List, [], ◌∷◌, sym, refl, ap, ◌∙◌, subst, ⊎_elim, inl, inr, arith, length}
use Rattle.std.specs.Prelude.{Contains, replicate, set, min, slice_index, IsTrue, IsFalse, ◌≢◌, ℤ, pos, ◌≤ℤ◌}
use Rattle.std.specs.List.Sorted.{IsPermutation}
use Rattle.std.specs.BinaryHeap.{KeepsHeap}
use Rattle.std.specs.Ordering.{nat_cmp}
use Rattle.std.proofs.lemmas.Bool.{cases_eq}
use Rattle.std.proofs.lemmas.List.{get_or-set_same, get_or-set_other}
use Rattle.std.proofs.lemmas.List.Sums.{sum_by-set}
use Rattle.std.proofs.lemmas.List.Sorted.{Contains-permutation, length_permutation}
use Rattle.std.proofs.lemmas.Int.{ints}
use Rattle.flow_model.specs.declared.instance.Arc.{Arc}
use Rattle.residual_net.specs.Residual.{ResidualNet, IsResidualNet}
use Rattle.flow_model.specs.Instance.{arc_at}
use Rattle.flow_solver.specs.Search.{IsRelaxedTo, IsSearchTree, head_of, step_cost, sum_of_labels, tail_of, IsLowered}
use Rattle.flow_solver.specs.Queue.{key_of, IsRelaxedFrom, IsQueue, IsQueueProgress}
use Rattle.flow_solver.specs.declared.labels.TheConstants.{UNREACHED}
use Rattle.flow_solver.proofs.Tries.{first_near}

pub Contains-first : {X : Type 0} (x : X) (xs : List X) → Contains (x ∷ xs) x
Contains-first x xs = (0, omega arith, refl)

pub Contains-more : {X : Type 0} (y x : X) (xs : List X) → Contains xs x → Contains (y ∷ xs) x
Contains-more y x xs (k, l, e) = (suc k, omega arith, e)

pub Contains-tail : {X : Type 0} (y x : X) (xs : List X) → y ≢ x → Contains (y ∷ xs) x → Contains xs x
Contains-tail y x xs ne (zero, l, e) = absurd (ne e)
Contains-tail y x xs ne (suc k, l, e) = (k, omega arith, e)

-- a key determines its node, and orders nodes by label
pub key_node : (a b u v : ℕ) → u < 2 ^ 24 → v < 2 ^ 24 → key_of a u ≡ key_of b v → u ≡ v
key_node a b u v lu lv e = omega (arith, e)

pub key_label : (a b u v : ℕ) → a ≤ UNREACHED → b ≤ UNREACHED → v < 2 ^ 24 → key_of a u ≤ key_of b v → b ≤ a
key_label a b u v la lb lv e = omega (arith, e)

pub grows_none : (labels keys : List ℕ) → IsQueueProgress labels keys labels keys
grows_none labels keys = record { lower = λ x. omega arith; others = λ x. inl refl; kept = λ k c. c; heap = λ h. h; size = omega arith }

pub grows_on : (a x b y c z : List ℕ) → IsQueueProgress a x b y → IsQueueProgress b y c z → IsQueueProgress a x c z
grows_on a x b y c z g h = record {
  lower = λ v. let l = g.lower v in let m = h.lower v in omega (arith, l, m);
  others = λ v. ⊎_elim
      (λ (e : slice_index c v ≡ slice_index b v). ⊎_elim
      (λ (f : slice_index b v ≡ slice_index a v). inl (e ∙ f))
      (λ (m : Contains y (key_of (slice_index b v) v)). inr (subst (λ l. Contains z (key_of l v)) (sym e) (h.kept (key_of (slice_index b v) v) m)))
      (g.others v))
      (λ (m : Contains z (key_of (slice_index c v) v)). inr m)
      (h.others v);
  kept = λ k m. h.kept k (g.kept k m);
  heap = λ k. h.heap (g.heap k);
  size = let s = g.size in let t = h.size in omega (arith, s, t);
}

-- a label falls, and its node enters the queue
pub grows_lowered : (labels keys new newer : List ℕ) (w cand key : ℕ) → w < length labels → cand < slice_index labels w → new ≡ set labels w cand → key ≡ key_of cand w → IsPermutation (key ∷ keys) newer → KeepsHeap nat_cmp keys newer → IsQueueProgress labels keys new newer
grows_lowered labels keys new newer w cand key l less is key_is moved heap = record {
  lower = λ x. ⊎_elim
      (λ (e : w ≡ x). subst (λ v. slice_index new v ≤ slice_index labels v) e (omega (arith, at, less)))
      (λ (ne : w ≡ x → ⊥). let h = other x ne in omega (arith, h))
      (cases_eq w x);
  others = λ x. ⊎_elim
      (λ (e : w ≡ x). inr (subst (λ v. Contains newer (key_of (slice_index new v) v)) e (subst (λ k. Contains newer k) (key_is ∙ ap (λ a. key_of a w) (sym at)) (Contains-permutation (key ∷ keys) newer key moved (Contains-first key keys)))))
      (λ (ne : w ≡ x → ⊥). inl (other x ne))
      (cases_eq w x);
  kept = λ k c. Contains-permutation (key ∷ keys) newer k moved (Contains-more key k keys c);
  heap = heap;
  size =
      let s = sum_by-set (λ (x : ℕ). x) labels w cand 0 l in
      let n = length_permutation (key ∷ keys) newer moved in
      let e = ap sum_of_labels is in
      omega (arith, s, n, e, less);
}
  where
    at : slice_index new w ≡ cand
    at = ap (λ ls. slice_index ls w) is ∙ get_or-set_same labels w cand 0 l

    other : (x : ℕ) → (w ≡ x → ⊥) → slice_index new x ≡ slice_index labels x
    other x ne = ap (λ ls. slice_index ls x) is ∙ get_or-set_other labels w x cand 0 (λ f. ne (sym f))

-- a relaxed step stays relaxed while its start keeps its label
pub relaxed_kept : (arcs : List Arc) (p : List ℤ) (labels new : List ℕ) (bound less i : ℕ) (back : Bool) → less ≤ bound → ((x : ℕ) → slice_index new x ≤ slice_index labels x) → slice_index new (tail_of (arc_at arcs i) back) ≡ slice_index labels (tail_of (arc_at arcs i) back) → IsRelaxedTo arcs p labels bound i back → IsRelaxedTo arcs p new less i back
relaxed_kept arcs p labels new bound less i back b lower same h =
    let a = lower (head_of (arc_at arcs i) back) in
    omega (arith, ints, h, a, b, same)

-- a lower bound keeps the queue
pub queue_bound : (residual : ResidualNet) (p : List ℤ) (labels keys : List ℕ) (bound less : ℕ) → less ≤ bound → IsQueue residual p labels bound keys → IsQueue residual p labels less keys
queue_bound residual p labels keys bound less le queue v l near = ⊎_elim
    (λ (c : Contains keys (key_of (slice_index labels v) v)). inl c)
    (λ (r : IsRelaxedFrom residual p labels bound v). inr (λ s next tail. relaxed_kept residual.net.arcs p labels labels bound less s.0 s.1 le (λ x. omega arith) refl (r s next tail)))
    (queue v l near)

module _ (residual : ResidualNet) (p : List ℤ) (ok : IsResidualNet residual) (labels keys : List ℕ) (bound : ℕ) (queue : IsQueue residual p labels bound keys) where
  small : (v : ℕ) → v < residual.net.nodes → v < 2 ^ 24
  small v l = let few = ok.good.ranges.few_nodes in omega (arith, l, few)

  -- an outdated key may be dropped
  pub queue_stale : (key : ℕ) (left : List ℕ) → IsPermutation keys (key ∷ left) → ((u : ℕ) → u < residual.net.nodes → key ≢ key_of (slice_index labels u) u) → IsQueue residual p labels bound left
  queue_stale key left moved none u l near = ⊎_elim
      (λ (c : Contains keys (key_of (slice_index labels u) u)). inl (Contains-tail key (key_of (slice_index labels u) u) left (none u l) (Contains-permutation keys (key ∷ left) (key_of (slice_index labels u) u) moved c)))
      (λ (r : IsRelaxedFrom residual p labels bound u). inr r)
      (queue u l near)

  -- the first node leaves the queue, and its steps are relaxed
  pub queue_opened : (v : ℕ) (left new newer : List ℕ) (less : ℕ) → less ≤ bound → v < residual.net.nodes → IsPermutation keys (key_of (slice_index labels v) v ∷ left) → IsQueueProgress labels left new newer → IsRelaxedFrom residual p new less v → IsQueue residual p new less newer
  queue_opened v left new newer less le lv moved grows relaxed u l near = ⊎_elim
      (λ (e : u ≡ v). inr (subst (IsRelaxedFrom residual p new less) (sym e) relaxed))
      (λ (ne : u ≡ v → ⊥). ⊎_elim
      (λ (same : slice_index new u ≡ slice_index labels u). ⊎_elim
      (λ (c : Contains keys (key_of (slice_index labels u) u)).
      let apart : key_of (slice_index labels v) v ≢ key_of (slice_index labels u) u = λ e. ne (sym (key_node (slice_index labels v) (slice_index labels u) v u (small v lv) (small u l) e)) in
      let c' = Contains-tail (key_of (slice_index labels v) v) (key_of (slice_index labels u) u) left apart (Contains-permutation keys (key_of (slice_index labels v) v ∷ left) (key_of (slice_index labels u) u) moved c) in
      inl (subst (λ a. Contains newer (key_of a u)) (sym same) (grows.kept (key_of (slice_index labels u) u) c')))
      (λ (r : IsRelaxedFrom residual p labels bound u). inr (λ s next tail. relaxed_kept residual.net.arcs p labels new bound less s.0 s.1 le grows.lower (ap (slice_index new) tail ∙ same ∙ sym (ap (slice_index labels) tail)) (r s next tail)))
      (queue u l (omega (arith, same, near))))
      (λ (c : Contains newer (key_of (slice_index new u) u)). inl c)
      (grows.others u))
      (cases_eq u v)

-- the outcome of a step that was tried
pub tried_lower : (residual : ResidualNet) (p : List ℤ) (labels new : List ℕ) (i tail head cost : ℕ) (back r : Bool) → tail ≡ tail_of (arc_at residual.net.arcs i) back → head ≡ head_of (arc_at residual.net.arcs i) back → pos cost ≡ step_cost p (arc_at residual.net.arcs i) back → (IsTrue r → slice_index labels tail + cost < slice_index labels head) → (IsTrue r → new ≡ set labels head (slice_index labels tail + cost)) → IsTrue r → (cand : ℕ) × IsLowered residual.net.arcs p labels new i back cand
tried_lower residual p labels new i tail head cost back r t h e lower is yes' =
    let u = ap (slice_index labels) t in
    let w = ap (slice_index labels) h in
    let l = lower yes' in (
      slice_index labels tail + cost,
      record {
        is = is yes' ∙ ap (λ v. set labels v (slice_index labels tail + cost)) h;
        less = omega (arith, l, w);
        by = omega (arith, ints, u, e);
      },
    )

pub tried_relaxed : (residual : ResidualNet) (p : List ℤ) (labels : List ℕ) (i tail head cost bound : ℕ) (back r : Bool) → tail ≡ tail_of (arc_at residual.net.arcs i) back → head ≡ head_of (arc_at residual.net.arcs i) back → pos cost ≡ step_cost p (arc_at residual.net.arcs i) back → (IsFalse r → min (slice_index labels head) bound ≤ slice_index labels tail + cost) → IsFalse r → IsRelaxedTo residual.net.arcs p labels bound i back
tried_relaxed residual p labels i tail head cost bound back r t h e within off =
    let u = ap (slice_index labels) t in
    let w = ap (slice_index labels) h in
    let l = within off in
    omega (arith, ints, u, w, e, l)

-- a step that lowered a label is relaxed, and its start keeps its label
pub lowered_step : (residual : ResidualNet) (p : List ℤ) (labels new : List ℕ) (i cand : ℕ) (back : Bool) → pos 0 ≤ℤ step_cost p (arc_at residual.net.arcs i) back → head_of (arc_at residual.net.arcs i) back < length labels → IsLowered residual.net.arcs p labels new i back cand → (slice_index new (tail_of (arc_at residual.net.arcs i) back) ≡ slice_index labels (tail_of (arc_at residual.net.arcs i) back)) × (slice_index new (head_of (arc_at residual.net.arcs i) back) ≡ cand) × ((bound : ℕ) → IsRelaxedTo residual.net.arcs p new bound i back)
lowered_step residual p labels new i cand back low l so =
    let u = tail_of (arc_at residual.net.arcs i) back in
    let w = head_of (arc_at residual.net.arcs i) back in
    let by = so.by in
    let less = so.less in
    let ne : u ≢ w = λ e. let f = ap (slice_index labels) e in omega (arith, ints, f, low, by, less) in
    let tail : slice_index new u ≡ slice_index labels u = ap (λ ls. slice_index ls u) so.is ∙ get_or-set_other labels w u cand 0 ne in
    let head : slice_index new w ≡ cand = ap (λ ls. slice_index ls w) so.is ∙ get_or-set_same labels w cand 0 l in
    (tail, head, λ bound. omega (arith, ints, tail, head, by))

pub key_mod : (a v key : ℕ) → v < 2 ^ 24 → key ≡ key_of a v → key % 2 ^ 24 ≡ v
key_mod a v key l e = omega (arith, e)

-- the first queue contains the source and no other node
pub first_queue : (residual : ResidualNet) (p : List ℤ) (labels keys : List ℕ) (parents : List (ℕ × Bool)) (key bound : ℕ) → residual.net.source < residual.net.nodes → labels ≡ set (replicate residual.net.nodes UNREACHED) residual.net.source 0 → IsSearchTree residual p labels parents → key ≡ key_of 0 residual.net.source → IsPermutation (key ∷ []) keys → IsQueue residual p labels bound keys
first_queue residual p labels keys parents key bound in' is tree key_is moved v l near =
    let at : v ≡ residual.net.source = first_near residual.net.nodes residual.net.source in' v l (subst (λ ls. slice_index ls v < UNREACHED) is near) in
    let root = tree.root in
    inl (subst (λ w. Contains keys (key_of (slice_index labels w) w)) (sym at) (subst (λ k. Contains keys k) (key_is ∙ ap (λ a. key_of a residual.net.source) (sym root)) (Contains-permutation (key ∷ []) keys key moved (Contains-first key []))))
