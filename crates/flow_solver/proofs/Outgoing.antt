-- The steps out of a node: each starts there, and none is missing.
use Rattle.std.proofs.Common.{ℕ, zero, suc, ◌+◌, ◌<◌, ◌≡◌, Bool, true, false, cond, List, [], ◌∷◌, ◌++◌, sym, refl, subst, arith, length}
use Rattle.std.specs.Prelude.{All, Contains, nat_eq}
use Rattle.std.proofs.lemmas.Bool.{eq-eqb, eqb-true}
use Rattle.std.proofs.lemmas.List.Elements.{All-append, All-cons, All-nil, All-weaker, Contains-append_left, Contains-append_right}
use Rattle.flow_model.specs.declared.instance.Arc.{Arc}
use Rattle.residual_net.specs.Residual.{steps_from, steps_out}
use Rattle.flow_model.specs.Instance.{arc_at}
use Rattle.flow_solver.specs.Search.{tail_of}

-- the step is over the arc at a place, and starts at the node
record IsOver (i : ℕ) (arcs : List Arc) (v : ℕ) (s : ℕ × Bool) : Type 0 where
  pub place : ℕ
  pub known : place < length arcs
  pub is : s.0 ≡ i + place
  pub tail : tail_of (arc_at arcs place) s.1 ≡ v

steps_over : (i : ℕ) (arcs : List Arc) (v : ℕ) → All (IsOver i arcs v) (steps_from i arcs v)
steps_over i [] v = All-nil (IsOver i [] v)
steps_over i (a ∷ arcs) v =
    let forward : List (ℕ × Bool) = cond (nat_eq a.from v) ((i, false) ∷ []) [] in
    let backward : List (ℕ × Bool) = cond (nat_eq a.to v) ((i, true) ∷ []) [] in
    let later = All-weaker (IsOver (i + 1) arcs v) (IsOver i (a ∷ arcs) v) (λ s over. let l = over.known in let e = over.is in record { place = suc over.place; known = omega (arith, l); is = omega (arith, e); tail = over.tail }) (steps_from (i + 1) arcs v) (steps_over (i + 1) arcs v) in
    All-append (IsOver i (a ∷ arcs) v) forward (backward ++ steps_from (i + 1) arcs v) (first (nat_eq a.from v) false (eqb-true a.from v)) (All-append (IsOver i (a ∷ arcs) v) backward (steps_from (i + 1) arcs v) (first (nat_eq a.to v) true (eqb-true a.to v)) later)
  where
    first : (b back : Bool) → (b ≡ true → tail_of a back ≡ v) → All (IsOver i (a ∷ arcs) v) (cond b ((i, back) ∷ []) [])
    first true back h = All-cons (IsOver i (a ∷ arcs) v) (i, back) [] (record { place = 0; known = omega arith; is = omega arith; tail = h refl }) (All-nil (IsOver i (a ∷ arcs) v))
    first false back h = All-nil (IsOver i (a ∷ arcs) v)

only : (s : ℕ × Bool) (b : Bool) → b ≡ true → Contains (cond b (s ∷ []) []) s
only s b e = subst (λ c. Contains (cond c (s ∷ []) []) s) (sym e) (0, omega arith, refl)

none_missing : (i k : ℕ) (back : Bool) (arcs : List Arc) (v : ℕ) → k < length arcs → tail_of (arc_at arcs k) back ≡ v → Contains (steps_from i arcs v) (i + k, back)
none_missing i k back [] v l e = absurd (omega arith)
none_missing i zero false (a ∷ arcs) v l e =
    let at : i ≡ i + zero = omega arith in
    let others : List (ℕ × Bool) = cond (nat_eq a.to v) ((i, true) ∷ []) [] ++ steps_from (i + 1) arcs v in
    subst (λ m. Contains (steps_from i (a ∷ arcs) v) (m, false)) at (Contains-append_left (cond (nat_eq a.from v) ((i, false) ∷ []) []) others (i, false) (only (i, false) (nat_eq a.from v) (eq-eqb a.from v e)))
none_missing i zero true (a ∷ arcs) v l e =
    let at : i ≡ i + zero = omega arith in
    let backward : List (ℕ × Bool) = cond (nat_eq a.to v) ((i, true) ∷ []) [] in
    subst (λ m. Contains (steps_from i (a ∷ arcs) v) (m, true)) at (Contains-append_right (cond (nat_eq a.from v) ((i, false) ∷ []) []) (backward ++ steps_from (i + 1) arcs v) (i, true) (Contains-append_left backward (steps_from (i + 1) arcs v) (i, true) (only (i, true) (nat_eq a.to v) (eq-eqb a.to v e))))
none_missing i (suc k) back (a ∷ arcs) v l e =
    let at : i + 1 + k ≡ i + suc k = omega arith in
    let backward : List (ℕ × Bool) = cond (nat_eq a.to v) ((i, true) ∷ []) [] in
    subst (λ m. Contains (steps_from i (a ∷ arcs) v) (m, back)) at (Contains-append_right (cond (nat_eq a.from v) ((i, false) ∷ []) []) (backward ++ steps_from (i + 1) arcs v) (i + 1 + k, back) (Contains-append_right backward (steps_from (i + 1) arcs v) (i + 1 + k, back) (none_missing (i + 1) k back arcs v (omega arith) e)))

pub out_known : (arcs : List Arc) (v : ℕ) → All (λ (s : ℕ × Bool). s.0 < length arcs) (steps_out arcs v)
out_known arcs v = All-weaker (IsOver 0 arcs v) (λ (s : ℕ × Bool). s.0 < length arcs) (λ s over. let l = over.known in let e = over.is in omega (arith, l, e)) (steps_from 0 arcs v) (steps_over 0 arcs v)

pub out_tails : (arcs : List Arc) (v : ℕ) → All (λ (s : ℕ × Bool). tail_of (arc_at arcs s.0) s.1 ≡ v) (steps_out arcs v)
out_tails arcs v = All-weaker (IsOver 0 arcs v) (λ (s : ℕ × Bool). tail_of (arc_at arcs s.0) s.1 ≡ v) (λ s over. let at : over.place ≡ s.0 = (let e = over.is in omega (arith, e)) in subst (λ m. tail_of (arc_at arcs m) s.1 ≡ v) at over.tail) (steps_from 0 arcs v) (steps_over 0 arcs v)

pub out_all : (arcs : List Arc) (v : ℕ) (s : ℕ × Bool) → s.0 < length arcs → tail_of (arc_at arcs s.0) s.1 ≡ v → Contains (steps_out arcs v) s
out_all arcs v s l e = let at : 0 + s.0 ≡ s.0 = omega arith in subst (λ m. Contains (steps_out arcs v) (m, s.1)) at (none_missing 0 s.0 s.1 arcs v l e)
