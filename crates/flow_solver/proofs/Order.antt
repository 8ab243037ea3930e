-- What holds of the next steps of each direction holds of all steps.
use Rattle.std.proofs.Common.{ℕ, zero, suc, ◌+◌, ◌-◌, ◌<◌, ◌≤◌, ◌≡◌, List, sym, refl, ap, ◌∙◌, subst, ⊎_elim, arith, length}
use Rattle.std.specs.Prelude.{All, AllPairs, zip, set, slice_index}
use Rattle.std.proofs.lemmas.Bool.{cases_eq, cases_lt}
use Rattle.std.proofs.lemmas.List.{get_or-set_other}
use Rattle.flow_model.specs.declared.instance.Arc.{Arc}
use Rattle.flow_model.specs.Instance.{Dearer, StandTogether, arc_at, no_arc}
use Rattle.flow_solver.specs.Search.{InOrder, IsNextForward, IsNextBackward}

-- two arcs of one direction have the same ends
pub same_ends : (arcs : List Arc) (i j : ℕ) → AllPairs Dearer arcs → i < length arcs → j < length arcs → (arc_at arcs i).dir ≡ (arc_at arcs j).dir → ((arc_at arcs i).from ≡ (arc_at arcs j).from) × ((arc_at arcs i).to ≡ (arc_at arcs j).to)
same_ends arcs i j dearer li lj e = ⊎_elim
    (λ (l : i < j). let h = dearer i j no_arc l lj e in (h.0, h.1))
    (λ (ge : j ≤ i). ⊎_elim
    (λ (l : j < i). let h = dearer j i no_arc l li (sym e) in (sym h.0, sym h.1))
    (λ (le : i ≤ j). let same : i ≡ j = omega arith in (ap (λ m. (arc_at arcs m).from) same, ap (λ m. (arc_at arcs m).to) same))
    (cases_lt j i))
    (cases_lt i j)

-- if a direction's first arc with room has the property, so have all its arcs with room
pub all_forward : (Q : Arc → Type 0) (arcs : List Arc) (flow : List ℕ) → AllPairs Dearer arcs → ((a b : Arc) → a.dir ≡ b.dir → Dearer a b → Q a → Q b) → ((i : ℕ) → i < length arcs → IsNextForward arcs flow i → Q (arc_at arcs i)) → All (λ (l : Arc × ℕ). l.1 ≤ l.0.room) (zip arcs flow) → ((i : ℕ) → i < length arcs → slice_index flow i ≤ (arc_at arcs i).room) → (i : ℕ) → i < length arcs → slice_index flow i < (arc_at arcs i).room → Q (arc_at arcs i)
all_forward Q arcs flow dearer up next fits fit zero l less = next 0 l (less, (λ h e. absurd (omega arith)))
all_forward Q arcs flow dearer up next fits fit (suc i) l less = ⊎_elim
    (λ (same : (arc_at arcs i).dir ≡ (arc_at arcs (suc i)).dir). ⊎_elim
    (λ (full : slice_index flow i ≡ (arc_at arcs i).room). next (suc i) l (less, (λ h e d. let s : h ≡ i = omega arith in subst (λ m. slice_index flow m ≡ (arc_at arcs m).room) (sym s) full)))
    (λ (open' : slice_index flow i ≡ (arc_at arcs i).room → ⊥).
    let fit_i = fit i (omega arith) in
    let room : slice_index flow i < (arc_at arcs i).room = ⊎_elim (λ (k : slice_index flow i < (arc_at arcs i).room). k) (λ (k : (arc_at arcs i).room ≤ slice_index flow i). absurd (open' (omega arith))) (cases_lt (slice_index flow i) (arc_at arcs i).room) in
    up (arc_at arcs i) (arc_at arcs (suc i)) same (dearer i (suc i) no_arc (omega arith) l) (all_forward Q arcs flow dearer up next fits fit i (omega arith) room))
    (cases_eq (slice_index flow i) (arc_at arcs i).room))
    (λ (ne : (arc_at arcs i).dir ≡ (arc_at arcs (suc i)).dir → ⊥). next (suc i) l (less, (λ h e d. absurd (ne (subst (λ m. (arc_at arcs m).dir ≡ (arc_at arcs (suc i)).dir) (let s : h ≡ i = omega arith in s) d)))))
    (cases_eq (arc_at arcs i).dir (arc_at arcs (suc i)).dir)

-- if a direction's last arc with units has the property, so have all its arcs with units
pub all_backward : (Q : Arc → Type 0) (arcs : List Arc) (flow : List ℕ) → AllPairs Dearer arcs → ((a b : Arc) → a.dir ≡ b.dir → Dearer a b → Q b → Q a) → ((i : ℕ) → i < length arcs → IsNextBackward arcs flow i → Q (arc_at arcs i)) → (n i : ℕ) → i + n ≡ length arcs → 0 < n → 0 < slice_index flow i → Q (arc_at arcs i)
all_backward Q arcs flow dearer down next zero i e none some = absurd (omega arith)
all_backward Q arcs flow dearer down next (suc n) i e any some = ⊎_elim
    (λ (last : i + 1 < length arcs). ⊎_elim
    (λ (same : (arc_at arcs i).dir ≡ (arc_at arcs (i + 1)).dir). ⊎_elim
    (λ (more : 0 < slice_index flow (i + 1)). down (arc_at arcs i) (arc_at arcs (i + 1)) same (dearer i (i + 1) no_arc (omega arith) last) (all_backward Q arcs flow dearer down next n (i + 1) (omega arith) (omega arith) more))
    (λ (none : slice_index flow (i + 1) ≤ 0). next i (omega arith) (some, (λ l d. omega arith)))
    (cases_lt 0 (slice_index flow (i + 1))))
    (λ (ne : (arc_at arcs i).dir ≡ (arc_at arcs (i + 1)).dir → ⊥). next i (omega arith) (some, (λ l d. absurd (ne (sym d)))))
    (cases_eq (arc_at arcs i).dir (arc_at arcs (i + 1)).dir))
    (λ (no_more : length arcs ≤ i + 1). next i (omega arith) (some, (λ l d. absurd (omega arith))))
    (cases_lt (i + 1) (length arcs))

-- around the next step of a direction: earlier arcs are full, later arcs carry nothing
abbrev pub IsFullBefore : List Arc → List ℕ → ℕ → Type 0
IsFullBefore arcs flow i = (h : ℕ) → h < i → (arc_at arcs h).dir ≡ (arc_at arcs i).dir → slice_index flow h ≡ (arc_at arcs h).room

abbrev pub IsEmptyAfter : List Arc → List ℕ → ℕ → Type 0
IsEmptyAfter arcs flow i = (l : ℕ) → i < l → l < length arcs → (arc_at arcs l).dir ≡ (arc_at arcs i).dir → slice_index flow l ≡ 0

module _ (arcs : List Arc) (flow : List ℕ) (rooms : (i : ℕ) → i < length arcs → 0 < (arc_at arcs i).room) (together : StandTogether arcs) (order : InOrder arcs flow) where
  pub full_before_forward : (i : ℕ) → i < length arcs → IsNextForward arcs flow i → IsFullBefore arcs flow i
  full_before_forward i l next h less e = ⊎_elim
      (λ (at : h + 1 ≡ i). next.1 h at e)
      (λ (ne : h + 1 ≡ i → ⊥).
      let g : ℕ = i - 1 in
      let one : g + 1 ≡ i = omega arith in
      let same : (arc_at arcs h).dir ≡ (arc_at arcs g).dir = together h g i no_arc (omega arith) (omega arith) l e in
      let full = next.1 g one (sym same ∙ e) in
      order h g (omega arith) (omega arith) same (omega (arith, full, rooms g (omega arith))))
      (cases_eq (h + 1) i)

  pub full_before_backward : (i : ℕ) → i < length arcs → 0 < slice_index flow i → IsFullBefore arcs flow i
  full_before_backward i l some h less e = order h i less l e some

  pub empty_after_forward : (i : ℕ) → i < length arcs → slice_index flow i < (arc_at arcs i).room → IsEmptyAfter arcs flow i
  empty_after_forward i l room k less kl e = ⊎_elim
      (λ (some : 0 < slice_index flow k). absurd (let full = order i k less kl (sym e) some in omega (arith, full, room)))
      (λ (none : slice_index flow k ≤ 0). omega arith)
      (cases_lt 0 (slice_index flow k))

  pub empty_after_backward : (i : ℕ) → i < length arcs → IsNextBackward arcs flow i → IsEmptyAfter arcs flow i
  empty_after_backward i l next k less kl e = ⊎_elim
      (λ (at : k ≡ i + 1). subst (λ m. slice_index flow m ≡ 0) (sym at) (next.1 (omega arith) (subst (λ m. (arc_at arcs m).dir ≡ (arc_at arcs i).dir) at e)))
      (λ (ne : k ≡ i + 1 → ⊥).
      let same : (arc_at arcs i).dir ≡ (arc_at arcs (i + 1)).dir = together i (i + 1) k no_arc (omega arith) (omega arith) kl (sym e) in
      let none = next.1 (omega arith) (sym same) in
      ⊎_elim
      (λ (some : 0 < slice_index flow k). absurd (let full = order (i + 1) k (omega arith) kl (sym same ∙ sym e) some in omega (arith, full, none, rooms (i + 1) (omega arith))))
      (λ (nothing : slice_index flow k ≤ 0). omega arith)
      (cases_lt 0 (slice_index flow k)))
      (cases_eq k (i + 1))

-- a change of such an arc keeps the direction filled in order
pub order_set : (arcs : List Arc) (flow : List ℕ) (i y : ℕ) → length flow ≡ length arcs → i < length arcs → IsFullBefore arcs flow i → IsEmptyAfter arcs flow i → InOrder arcs flow → InOrder arcs (set flow i y)
order_set arcs flow i y long l full empty order a b less lb e some = ⊎_elim
    (λ (at : i ≡ b).
    let other = get_or-set_other flow i a y 0 (λ f. omega arith) in
    other ∙ full a (omega arith) (subst (λ m. (arc_at arcs a).dir ≡ (arc_at arcs m).dir) (sym at) e))
    (λ (nb : i ≡ b → ⊥).
    let at_b = get_or-set_other flow i b y 0 (λ f. nb (sym f)) in
    let some' : 0 < slice_index flow b = omega (arith, some, at_b) in
    ⊎_elim
    (λ (at : i ≡ a). absurd (let none = empty b (omega arith) lb (sym e ∙ subst (λ m. (arc_at arcs m).dir ≡ (arc_at arcs i).dir) at refl) in omega (arith, none, some')))
    (λ (na : i ≡ a → ⊥). get_or-set_other flow i a y 0 (λ f. na (sym f)) ∙ order a b less lb e some')
    (cases_eq i a))
    (cases_eq i b)
