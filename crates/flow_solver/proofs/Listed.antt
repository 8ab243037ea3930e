-- The list of the nodes whose labels fell.
use Rattle.std.proofs.Common.{ℕ, ◌+◌, ◌<◌, ◌≡◌, ◌∙◌, ◌++◌, ◌∷◌, [], List, refl, sym, subst, ⊎_elim, inl, inr, arith, length}
use Rattle.std.specs.Prelude.{All, Contains, drop, replicate, set, slice_index}
use Rattle.std.proofs.lemmas.Bool.{cases_eq}
use Rattle.std.proofs.lemmas.List.{drop_more, ext_get_or, get_or-replicate, get_or-set_other, get_or-set_same, length-replicate, length-set}
use Rattle.std.proofs.lemmas.List.Elements.{All-head, All-nil, All-push, All-tail, Contains-append_left, Contains-push}
use Rattle.flow_solver.specs.declared.labels.TheConstants.{UNREACHED}
use Rattle.flow_solver.specs.NodeLabels.{IsListed}
use Rattle.flow_solver.proofs.Queues.{Contains-tail}

pub listed_none : (n : ℕ) → IsListed (replicate n UNREACHED) []
listed_none n = record {
  inside = All-nil (λ v. v < length (replicate n UNREACHED));
  each = λ v l. inr (get_or-replicate n v UNREACHED 0 (let k = length-replicate n UNREACHED in omega (arith, k, l)));
}

inside_set : (labels lowered : List ℕ) (v label : ℕ) → All (λ u. u < length labels) lowered → All (λ u. u < length (set labels v label)) lowered
inside_set labels lowered v label inside = subst (λ n. All (λ u. u < n) lowered) (sym (length-set labels v label)) inside

-- a node in the list gets a label
pub listed_set : (labels lowered : List ℕ) (v label : ℕ) → IsListed labels lowered → Contains lowered v → IsListed (set labels v label) lowered
listed_set labels lowered v label so known = record {
  inside = inside_set labels lowered v label so.inside;
  each = λ u l. ⊎_elim
      (λ (s : u ≡ v). inl (subst (λ w. Contains lowered w) (sym s) known))
      (λ (ne : u ≡ v → ⊥). ⊎_elim
      (λ (k : Contains lowered u). inl k)
      (λ (off : slice_index labels u ≡ UNREACHED). inr (get_or-set_other labels v u label 0 ne ∙ off))
      (so.each u (let n = length-set labels v label in omega (arith, n, l))))
      (cases_eq u v);
}

-- a reached node is in the list
pub listed_again : (labels lowered : List ℕ) (v label : ℕ) → IsListed labels lowered → v < length labels → slice_index labels v < UNREACHED → IsListed (set labels v label) lowered
listed_again labels lowered v label so l near = listed_set labels lowered v label so (⊎_elim
    (λ (k : Contains lowered v). k)
    (λ (off : slice_index labels v ≡ UNREACHED). absurd (omega (arith, near, off)))
    (so.each v l))

pub listed_more : (labels lowered : List ℕ) (v : ℕ) → IsListed labels lowered → v < length labels → IsListed labels (lowered ++ v ∷ [])
listed_more labels lowered v so l = record {
  inside = All-push (λ u. u < length labels) lowered v so.inside l;
  each = λ u k. ⊎_elim
      (λ (m : Contains lowered u). inl (Contains-append_left lowered (v ∷ []) u m))
      (λ (off : slice_index labels u ≡ UNREACHED). inr off)
      (so.each u k);
}

pub listed_new : (labels lowered : List ℕ) (v label : ℕ) → IsListed labels lowered → v < length labels → IsListed (set labels v label) (lowered ++ v ∷ [])
listed_new labels lowered v label so l = listed_set labels (lowered ++ v ∷ []) v label (listed_more labels lowered v so l) (Contains-push lowered v)

-- the first node of the list is cleared
pub cleared_more : (labels rest : List ℕ) (v : ℕ) → IsListed labels (v ∷ rest) → IsListed (set labels v UNREACHED) rest
cleared_more labels rest v so = record {
  inside = inside_set labels rest v UNREACHED (All-tail (λ u. u < length labels) v rest so.inside);
  each = λ u l. let n = length-set labels v UNREACHED in ⊎_elim
      (λ (s : v ≡ u). inr (subst (λ w. slice_index (set labels v UNREACHED) w ≡ UNREACHED) s (get_or-set_same labels v UNREACHED 0 (omega (arith, n, l, s)))))
      (λ (ne : v ≡ u → ⊥). ⊎_elim
      (λ (k : Contains (v ∷ rest) u). inl (Contains-tail v u rest ne k))
      (λ (off : slice_index labels u ≡ UNREACHED). inr (get_or-set_other labels v u UNREACHED 0 (λ s. ne (sym s)) ∙ off))
      (so.each u (omega (arith, n, l))))
      (cases_eq v u);
}

pub cleared_all : (labels : List ℕ) → IsListed labels [] → labels ≡ replicate (length labels) UNREACHED
cleared_all labels so = ext_get_or 0 labels (replicate (length labels) UNREACHED) (sym (length-replicate (length labels) UNREACHED)) (λ i l. ⊎_elim
    (λ (k : Contains {X = ℕ} [] i). absurd (let m = k.1 in omega (arith, m)))
    (λ (off : slice_index labels i ≡ UNREACHED). off ∙ sym (get_or-replicate (length labels) i UNREACHED 0 l))
    (so.each i l))

pub listed_first : (labels nodes : List ℕ) (i v : ℕ) → i < length nodes → v ≡ slice_index nodes i → IsListed labels (drop i nodes) → IsListed labels (v ∷ drop (i + 1) nodes)
listed_first labels nodes i v l e so = subst (λ w. IsListed labels (w ∷ drop (i + 1) nodes)) (sym e) (subst (λ xs. IsListed labels xs) (drop_more nodes i 0 l) so)

pub listed_in : (labels nodes : List ℕ) (i : ℕ) → i < length nodes → IsListed labels (drop i nodes) → slice_index nodes i < length labels
listed_in labels nodes i l so = All-head (λ u. u < length labels) (slice_index nodes i) (drop (i + 1) nodes) (listed_first labels nodes i (slice_index nodes i) l refl so).inside
