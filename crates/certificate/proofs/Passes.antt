-- A flow that potentials show passes the check if it fills the arcs of each direction in order, and so does a side that
-- cuts, if the arcs of one direction get dearer.
use Rattle.std.proofs.Common.{ℕ, suc, ◌+◌, ◌<◌, ◌≤◌, ◌≡◌, Bool, true, false, cond, List, [], ◌∷◌, length, None, refl, sym, ap, ◌∙◌, subst, ⊎_elim, arith}
use Rattle.std.specs.Prelude.{All, AllPairs, slice_index_or, sum_by, position, ℤ, pos, ◌-ℤ◌, ◌≤ℤ◌, ◌<ℤ◌, not, ◌&&◌, ◌||◌, ◌==◌, nat_lt, int_lt, T}
use Rattle.std.specs.Int.Signed.{lt_z_yes}
use Rattle.std.proofs.lemmas.Bool.{cases_eq, eqb-true, eq-eqb, ne_eqb, le-ltb, ltb-true, lt-leb}
use Rattle.std.proofs.lemmas.Bool.Decides.{Decides-int_eq}
use Rattle.std.proofs.lemmas.Int.{ints}
use Rattle.std.proofs.lemmas.List.{get_or-map, length-map}
use Rattle.std.proofs.lemmas.List.Elements.{All-cons, All-nil, All-weaker}
use Rattle.flow_model.specs.declared.instance.Arc.{Arc}
use Rattle.flow_model.specs.Instance.{Net, IsNet, Dearer}
use Rattle.flow_model.specs.Flow.{loads, leaving, entering, FillsFirst}
use Rattle.flow_model.specs.Potentials.{reduced_cost, ShowsCheapest, IsShown}
use Rattle.flow_model.specs.Side.{crossing}
use Rattle.flow_model.proofs.Balance.{arrives}
use Rattle.flow_model.proofs.Filled.{first_arcs_first}
use Rattle.certificate.specs.declared.verdict.Verdict.TheVariants.{Cheapest, NoFlow, No}
use Rattle.flow_model.specs.declared.solve.Solved.{Solved}
use Rattle.flow_model.specs.declared.solve.Solved.TheVariants.{Flow, Cut}
use Rattle.certificate.specs.declared.version.Version.TheVariants.{One}
use Rattle.certificate.specs.Certificate.{HasDirections, IsAnswerFor}
use Rattle.certificate.specs.Cert.{arcs_in}
use Rattle.certificate.specs.Check.{carried, verdict_for, neighbours, have_other_ends, leaves_room, are_disordered, due, is_over, is_uneven, is_missed, gains, loses, no_at, flow_verdict}
use Rattle.certificate.specs.Laws.{ShownPasses, CutPasses, VersionOneIsUnordered}
use Rattle.certificate.proofs.Loads.{arcs_back, unloaded, length-unloaded, unloaded_at, unloaded_back}
use Rattle.certificate.proofs.Found.{below_none, position_none}

-- no arc and no node fails

no_position : {X : Type 0} (d : X) (test : X → Bool) (xs : List X) → All (λ x. test x ≡ false) xs → position test xs ≡ None
no_position d test xs all = sym (position_none test xs (length xs) d (omega arith) (λ k l. all k d l))

nothing : Arc × ℕ
nothing = (record { from = 0; to = 0; room = 0; cost = 0; dir = 0 }, 0)

int_lt_no : (x y : ℤ) → y ≤ℤ x → int_lt x y ≡ false
int_lt_no x y le = by (int_lt x y) refl
  where
    by : (b : Bool) → int_lt x y ≡ b → int_lt x y ≡ false
    by true e = let lt : x <ℤ y = lt_z_yes (subst T (sym e) tt) in absurd (omega (arith, ints, lt, le))
    by false e = e

no_gain : (units room : ℕ) (z : ℤ) → (units < room → pos 0 ≤ℤ z) → gains units room z ≡ false
no_gain units room z h = by (nat_lt units room) refl
  where
    by : (b : Bool) → nat_lt units room ≡ b → (nat_lt units room && int_lt z (pos 0)) ≡ false
    by true e = ap (λ b. b && int_lt z (pos 0)) e ∙ int_lt_no z (pos 0) (h (ltb-true units room e))
    by false e = ap (λ b. b && int_lt z (pos 0)) e

no_loss : (units : ℕ) (z : ℤ) → (0 < units → z ≤ℤ pos 0) → loses units z ≡ false
no_loss units z h = by (nat_lt 0 units) refl
  where
    by : (b : Bool) → nat_lt 0 units ≡ b → (nat_lt 0 units && int_lt (pos 0) z) ≡ false
    by true e = ap (λ b. b && int_lt (pos 0) z) e ∙ int_lt_no (pos 0) z (h (ltb-true 0 units e))
    by false e = ap (λ b. b && int_lt (pos 0) z) e

not_missed : (p : List ℤ) (l : Arc × ℕ) → IsShown p l → is_missed p l ≡ false
not_missed p l h =
    let r = reduced_cost p l.0 in
    ap (λ b. b || loses l.1 r) (no_gain l.1 l.0.room r h.0) ∙ no_loss l.1 r h.1

module _ (net : Net) (flow : List ℕ) (p : List ℤ) (good : IsNet net) (shows : ShowsCheapest net flow p) where
  balance : ℕ → ℤ
  balance v = pos (leaving v (loads net flow)) -ℤ pos (entering v (loads net flow))

  is_due : (v : ℕ) → balance v ≡ due net.source net.destination net.demand v → is_uneven net flow v ≡ false
  unfolding balance
  is_due v e = ap not ((Decides-int_eq _ _).1 e)

  at_source : balance net.source ≡ due net.source net.destination net.demand net.source
  unfolding balance
  at_source =
      let even : balance net.source ≡ pos net.demand = omega (arith, ints, shows.feasible.sent) in
      even ∙ sym (ap (λ b. cond b (pos net.demand) (cond (net.source == net.destination) (pos 0 -ℤ pos net.demand) (pos 0))) (eq-eqb net.source net.source refl))

  at_destination : balance net.destination ≡ due net.source net.destination net.demand net.destination
  unfolding balance
  at_destination =
      let even : balance net.destination ≡ pos 0 -ℤ pos net.demand = omega (arith, ints, arrives net flow good net.demand shows.feasible) in
      even ∙ sym (
      ap (λ b. cond b (pos net.demand) (cond (net.destination == net.destination) (pos 0 -ℤ pos net.demand) (pos 0))) (ne_eqb net.destination net.source (λ e. good.apart (sym e)))
      ∙ ap (λ b. cond b (pos 0 -ℤ pos net.demand) (pos 0)) (eq-eqb net.destination net.destination refl)
      )

  elsewhere : (v : ℕ) → v < net.nodes → (v ≡ net.source → ⊥) → (v ≡ net.destination → ⊥) → balance v ≡ due net.source net.destination net.demand v
  unfolding balance
  elsewhere v l not_s not_t =
      let even : balance v ≡ pos 0 = omega (arith, ints, shows.feasible.kept v l not_s not_t) in
      even ∙ sym (
      ap (λ b. cond b (pos net.demand) (cond (v == net.destination) (pos 0 -ℤ pos net.demand) (pos 0))) (ne_eqb v net.source not_s)
      ∙ ap (λ b. cond b (pos 0 -ℤ pos net.demand) (pos 0)) (ne_eqb v net.destination not_t)
      )

  even_at : (v : ℕ) → v < net.nodes → is_uneven net flow v ≡ false
  even_at v l = is_due v (⊎_elim
      (λ (e : v ≡ net.source). subst (λ w. balance w ≡ due net.source net.destination net.demand w) (sym e) at_source)
      (λ (not_s : v ≡ net.source → ⊥). ⊎_elim
      (λ (e : v ≡ net.destination). subst (λ w. balance w ≡ due net.source net.destination net.demand w) (sym e) at_destination)
      (λ (not_t : v ≡ net.destination → ⊥). elsewhere v l not_s not_t)
      (cases_eq v net.destination))
      (cases_eq v net.source))

  passes : flow_verdict net flow p ≡ Cheapest
  passes =
      let over = no_position nothing is_over (loads net flow) (All-weaker (λ (l : Arc × ℕ). l.1 ≤ l.0.room) (λ l. is_over l ≡ false) (λ l h. le-ltb l.0.room l.1 h) (loads net flow) shows.feasible.fits) in
      let even = sym (below_none (is_uneven net flow) net.nodes even_at) in
      let missed = no_position nothing (is_missed p) (loads net flow) (All-weaker (IsShown p) (λ l. is_missed p l ≡ false) (not_missed p) (loads net flow) shows.shown) in
      λ i. no_at 3 (over i) (no_at (3 + length net.arcs) (even i) (no_at 3 (missed i) Cheapest))

-- no arc breaks the order of its direction

all_neighbours : (P : Arc × ℕ → Arc × ℕ → Type 0) (ls : List (Arc × ℕ)) → AllPairs P ls → All (λ n. P n.0 n.1) (neighbours ls)
all_neighbours P [] pairs = All-nil (λ n. P n.0 n.1)
all_neighbours P (l ∷ []) pairs = All-nil (λ n. P n.0 n.1)
all_neighbours P (l ∷ m ∷ ls) pairs = All-cons (λ n. P n.0 n.1) (l, m) (neighbours (m ∷ ls)) (pairs 0 1 l (omega arith) (omega arith)) (all_neighbours P (m ∷ ls) (λ i j d before within. pairs (suc i) (suc j) d (omega arith) (omega arith)))

no_room : (l m : Arc × ℕ) → (0 < m.1 → l.1 ≡ l.0.room) → leaves_room l m ≡ false
no_room l m full = by (nat_lt 0 m.1) refl
  where
    by : (b : Bool) → nat_lt 0 m.1 ≡ b → (nat_lt 0 m.1 && not (l.1 == l.0.room)) ≡ false
    by true e = (λ i. e i && not (eq-eqb l.1 l.0.room (full (ltb-true 0 m.1 e)) i))
    by false e = ap (λ b. b && not (l.1 == l.0.room)) e

in_order : (l m : Arc × ℕ) → Dearer l.0 m.0 → FillsFirst l m → are_disordered (l, m) ≡ false
in_order l m dearer fills = by (l.0.dir == m.0.dir) refl
  where
    by : (b : Bool) → (l.0.dir == m.0.dir) ≡ b → ((l.0.dir == m.0.dir) && (have_other_ends l.0 m.0 || nat_lt m.0.cost l.0.cost || leaves_room l m)) ≡ false
    by true e =
        let same = eqb-true l.0.dir m.0.dir e in
        let h = dearer same in
        λ i. e i && (not (eq-eqb l.0.from m.0.from h.0 i) || not (eq-eqb l.0.to m.0.to h.1 i) || le-ltb m.0.cost l.0.cost h.2 i || no_room l m (fills same) i)
    by false e = ap (λ b. b && (have_other_ends l.0 m.0 || nat_lt m.0.cost l.0.cost || leaves_room l m)) e

arc_at : (ls : List (Arc × ℕ)) (k : ℕ) (d : Arc × ℕ) → k < length ls → slice_index_or (arcs_in ls) k d.0 ≡ (slice_index_or ls k d).0
arc_at ls k d l = get_or-map (λ (m : Arc × ℕ). m.0) ls k d d.0 l

module _ (ls : List (Arc × ℕ)) (dearer : AllPairs Dearer (arcs_in ls)) (fills : AllPairs FillsFirst ls) where
  dearer_at : (i j : ℕ) (d : Arc × ℕ) → i < j → j < length ls → Dearer (slice_index_or ls i d).0 (slice_index_or ls j d).0
  dearer_at i j d before within =
      let h = dearer i j d.0 before (omega (arith, within, length-map ls (λ (m : Arc × ℕ). m.0))) in
      subst (λ a. Dearer a (slice_index_or ls j d).0) (arc_at ls i d (omega (arith, before, within))) (subst (Dearer (slice_index_or (arcs_in ls) i d.0)) (arc_at ls j d within) h)

  ordered : position are_disordered (neighbours ls) ≡ None
  ordered = no_position (nothing, nothing) are_disordered (neighbours ls) (all_neighbours (λ l m. are_disordered (l, m) ≡ false) ls (λ i j d before within. in_order (slice_index_or ls i d) (slice_index_or ls j d) (dearer_at i j d before within) (fills i j d before within)))

pub shown_passes : ShownPasses
shown_passes net flow p good dearer filled shows =
    let arcs = arcs_back net.arcs flow shows.feasible.long in
    let order = ordered (loads net flow) (subst (AllPairs Dearer) (sym arcs) dearer) (first_arcs_first net flow filled) in
    λ i. no_at 4 (order i) (passes net flow p good shows i)

-- the arcs of a cut carry nothing
no_units : (arcs : List Arc) → AllPairs FillsFirst (unloaded arcs)
no_units arcs i j d before within same some =
    let long : j < length arcs = omega (arith, within, length-unloaded arcs) in
    let none = ap (λ (m : Arc × ℕ). m.1) (unloaded_at arcs j d long) in
    absurd (omega (arith, some, none))

pub cut_passes : CutPasses
cut_passes net side dearer cuts =
    let few = lt-leb net.demand (sum_by (crossing side) net.arcs) cuts.small in
    let nodes = 3 + length net.arcs in
    let order = ordered (unloaded net.arcs) (subst (AllPairs Dearer) (sym (unloaded_back net.arcs)) dearer) (no_units net.arcs) in
    λ i. no_at 4 (order i) (cond (not (cuts.source_on i)) (No (nodes + net.source)) (cond (cuts.destination_off i) (No (nodes + net.destination)) (cond (few i) (No 2) NoFlow)))

-- in version 1 no arc follows an arc of its own direction

of_two_directions : (l m : Arc × ℕ) → (l.0.dir ≡ m.0.dir → ⊥) → are_disordered (l, m) ≡ false
of_two_directions l m other = ap (λ b. b && (have_other_ends l.0 m.0 || nat_lt m.0.cost l.0.cost || leaves_room l m)) (ne_eqb l.0.dir m.0.dir other)

unordered : (ls : List (Arc × ℕ)) → HasDirections One (arcs_in ls) → position are_disordered (neighbours ls) ≡ None
unordered ls has = no_position (nothing, nothing) are_disordered (neighbours ls) (all_neighbours (λ l m. are_disordered (l, m) ≡ false) ls apart)
  where
    dir_at : (k : ℕ) (d : Arc × ℕ) → k < length ls → (slice_index_or ls k d).0.dir ≡ k
    dir_at k d l = ap (λ (a : Arc). a.dir) (sym (arc_at ls k d l)) ∙ has k d.0 (omega (arith, l, length-map ls (λ (m : Arc × ℕ). m.0)))

    apart : AllPairs (λ l m. are_disordered (l, m) ≡ false) ls
    apart i j d before within =
        let first = dir_at i d (omega (arith, before, within)) in
        let second = dir_at j d within in
        of_two_directions (slice_index_or ls i d) (slice_index_or ls j d) (λ e. omega (arith, e, first, second, before))

unordered_at : (net : Net) (answer : Solved) → HasDirections One net.arcs → IsAnswerFor net answer → position are_disordered (neighbours (carried net answer)) ≡ None
unordered_at net (Flow flow potentials) has fits = unordered (loads net flow) (subst (HasDirections One) (sym (arcs_back net.arcs flow fits.0)) has)
unordered_at net (Cut side) has fits = unordered (unloaded net.arcs) (subst (HasDirections One) (sym (unloaded_back net.arcs)) has)

pub version_one_is_unordered : VersionOneIsUnordered
version_one_is_unordered c good one =
    let none = unordered_at c.net c.answer (subst (λ v. HasDirections v c.net.arcs) one good.directions) good.answer in
    λ i. no_at 4 (none i) (verdict_for c.net c.answer)
