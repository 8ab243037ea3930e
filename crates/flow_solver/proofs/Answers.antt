-- A flow that sends the demand in order, shown by potentials, is what a solver returns.
use Rattle.std.proofs.Common.{ℕ, ◌+◌, ◌-◌, ◌<◌, ◌≤◌, ◌≡◌, List, [], ◌∷◌, sym, refl, ap, ◌∙◌, subst, subst₂, ⊎_elim, inl, inr, arith, length}
use Rattle.std.specs.Prelude.{All, AllPairs, zip, min, slice_index, slice_index_or, ℤ, pos, ◌⊎◌}
use Rattle.std.proofs.lemmas.Bool.{cases_eq, cases_lt}
use Rattle.std.proofs.lemmas.List.Elements.{All-head, All-tail}
use Rattle.std.proofs.lemmas.List.Sums.{sum_by-cons}
use Rattle.std.proofs.lemmas.Slice.Zip.{get_or-zip, length-zip}
use Rattle.std.proofs.lemmas.Int.{ints}
use Rattle.flow_model.specs.declared.instance.Arc.{Arc}
use Rattle.flow_model.specs.Instance.{Net, arc_at, no_arc}
use Rattle.flow_model.specs.Flow.{FillsFirst, IsFilledInOrder, IsCheapest, units_of, flow_of, Sends}
use Rattle.flow_model.specs.Potentials.{IsSmall, ShowsCheapest}
use Rattle.flow_model.proofs.Balance.{at_node, at_node-same, at_node-other}
use Rattle.flow_model.proofs.Filled.{flow_of-same}
use Rattle.residual_net.specs.Residual.{ResidualNet, IsResidualNet}
use Rattle.residual_net.proofs.Loads.{get_or-any}
use Rattle.residual_net.proofs.Pushed.{AllPairs-head, AllPairs-tail}
use Rattle.flow_solver.specs.Search.{InOrder, HasBoundedPotentials, IsFlowShown, IsPartialSolution}
use Rattle.flow_model.proofs.Duality.{shown_is_cheapest}

zip_at : (arcs : List Arc) (flow : List ℕ) (k : ℕ) (d : Arc × ℕ) → length flow ≡ length arcs → k < length (zip arcs flow) → slice_index_or (zip arcs flow) k d ≡ (arc_at arcs k, slice_index flow k)
zip_at arcs flow k d long l =
    let in' : k < length arcs = omega (arith, length-zip arcs flow) in
    get_or-any (zip arcs flow) k d (no_arc, 0) l ∙ get_or-zip arcs flow k (no_arc, 0) in' (omega arith)

pub order_pairs : (arcs : List Arc) (flow : List ℕ) → length flow ≡ length arcs → InOrder arcs flow → AllPairs FillsFirst (zip arcs flow)
order_pairs arcs flow long order i j d less l =
    let in' : j < length arcs = omega (arith, length-zip arcs flow) in
    let a = zip_at arcs flow i d long (omega arith) in
    let b = zip_at arcs flow j d long l in
    subst (λ (x : Arc × ℕ). FillsFirst x (slice_index_or (zip arcs flow) j d)) (sym a) (subst (λ (y : Arc × ℕ). FillsFirst (arc_at arcs i, slice_index flow i) y) (sym b) (order i j less in'))

-- if later arcs of the direction carry anything, the first one is full
full_or_none : (a : Arc) (x : ℕ) (ls : List (Arc × ℕ)) → All (FillsFirst (a, x)) ls → (units_of a.dir ls ≡ 0) ⊎ (x ≡ a.room)
full_or_none a x [] all = inl refl
full_or_none a x (l ∷ ls) all =
    let c = sum_by-cons (λ (k : Arc × ℕ). at_node k.0.dir k.1 a.dir) l ls in
    let first = All-head (FillsFirst (a, x)) l ls all in
    let others = full_or_none a x ls (All-tail (FillsFirst (a, x)) l ls all) in
    ⊎_elim
    (λ (none : units_of a.dir ls ≡ 0). ⊎_elim
    (λ (same : a.dir ≡ l.0.dir). ⊎_elim
    (λ (some : 0 < l.1). inr (first same some))
    (λ (no_units : l.1 ≤ 0). inl (let s = at_node-same a.dir l.1 in let t = ap (λ d. at_node d l.1 a.dir) same in omega (arith, c, none, s, t, no_units)))
    (cases_lt 0 l.1))
    (λ (ne : a.dir ≡ l.0.dir → ⊥). inl (let o = at_node-other l.0.dir l.1 a.dir (λ e. ne (sym e)) in omega (arith, c, none, o)))
    (cases_eq a.dir l.0.dir))
    (λ (full : x ≡ a.room). inr full)
    others

pub filled : (arcs : List Arc) (flow : List ℕ) → length flow ≡ length arcs → All (λ (l : Arc × ℕ). l.1 ≤ l.0.room) (zip arcs flow) → AllPairs FillsFirst (zip arcs flow) → flow ≡ flow_of (λ d. units_of d (zip arcs flow)) arcs
filled [] [] long fits pairs = refl
filled [] (x ∷ flow) long fits pairs = absurd (omega arith)
filled (a ∷ arcs) [] long fits pairs = absurd (omega arith)
filled (a ∷ arcs) (x ∷ flow) long fits pairs =
    let P : Arc × ℕ → Type 0 = λ l. l.1 ≤ l.0.room in
    let units : ℕ → ℕ = λ d. units_of d (zip (a ∷ arcs) (x ∷ flow)) in
    let cons : (d : ℕ) → units_of d (zip (a ∷ arcs) (x ∷ flow)) ≡ at_node a.dir x d + units_of d (zip arcs flow) = λ d. sum_by-cons (λ (k : Arc × ℕ). at_node k.0.dir k.1 d) (a, x) (zip arcs flow) in
    let room : x ≤ a.room = All-head P (a, x) (zip arcs flow) fits in
    let c = cons a.dir in
    let s = at_node-same a.dir x in
    let given : min a.room (units_of a.dir (zip (a ∷ arcs) (x ∷ flow))) ≡ x = ⊎_elim
    (λ (none : units_of a.dir (zip arcs flow) ≡ 0). omega (arith, c, s, none, room))
    (λ (full : x ≡ a.room). omega (arith, c, s, full))
    (full_or_none a x (zip arcs flow) (AllPairs-head FillsFirst (a, x) (zip arcs flow) pairs)) in
    let others = filled arcs flow (omega arith) (All-tail P (a, x) (zip arcs flow) fits) (AllPairs-tail FillsFirst (a, x) (zip arcs flow) pairs) in
    let after = flow_of-same (λ d. units_of d (zip (a ∷ arcs) (x ∷ flow)) - at_node a.dir (min a.room (units_of a.dir (zip (a ∷ arcs) (x ∷ flow)))) d) (λ d. units_of d (zip arcs flow)) arcs (λ d. let e = cons d in let g = ap (λ m. at_node a.dir m d) given in omega (arith, e, g)) in
    ap (λ r. x ∷ r) (others ∙ sym after) ∙ ap (λ m. m ∷ flow_of (λ d. units_of d (zip (a ∷ arcs) (x ∷ flow)) - at_node a.dir (min a.room (units_of a.dir (zip (a ∷ arcs) (x ∷ flow)))) d) arcs) (sym given)

pub in_order : (residual : ResidualNet) → IsResidualNet residual → InOrder residual.net.arcs residual.flow → IsFilledInOrder residual.net residual.flow
in_order residual ok order = filled residual.net.arcs residual.flow ok.long ok.fits (order_pairs residual.net.arcs residual.flow ok.long order)

pub all_small : (net : Net) (p : List ℤ) → HasBoundedPotentials net p → All IsSmall p
all_small net p bounded k d l =
    let e = get_or-any p k d (pos 0) l in
    let low = bounded.low k in
    let top = bounded.top k in
    let most = bounded.most in
    subst IsSmall (sym e) (omega (arith, ints, low, top, most), omega (arith, ints, low, top, most))

pub shows : (residual : ResidualNet) (p : List ℤ) → IsResidualNet residual → HasBoundedPotentials residual.net p → Sends residual.net residual.flow residual.net.demand → IsFlowShown residual p → ShowsCheapest residual.net residual.flow p
shows residual p ok bounded sends shown = record { long = bounded.long; feasible = sends; shown = shown }

-- what a solver promises of the flow and the potentials that it returns
pub record IsAnswer (net : Net) (flow : List ℕ) (p : List ℤ) : Type 0 where
  pub shown : ShowsCheapest net flow p
  pub cheapest : IsCheapest net flow
  pub filled_in : IsFilledInOrder net flow
  pub small : All IsSmall p

pub answered : (net : Net) (residual : ResidualNet) (flow : List ℕ) (p : List ℤ) (sent : ℕ) → residual.net ≡ net → flow ≡ residual.flow → sent ≡ net.demand → IsPartialSolution residual p sent → IsAnswer net flow p
answered net residual flow p sent n f full state =
    let whole : sent ≡ residual.net.demand = full ∙ sym (ap (λ (m : Net). m.demand) n) in
    let sends : Sends residual.net residual.flow residual.net.demand = subst (Sends residual.net residual.flow) whole state.sends in
    let it = shows residual p state.ok state.bounded sends state.shown in
    subst₂ (λ m g. IsAnswer m g p) n (sym f) record {
      shown = it;
      cheapest = shown_is_cheapest residual.net residual.flow p state.ok.good.ranges.ends it;
      filled_in = in_order residual state.ok state.order;
      small = all_small residual.net p state.bounded;
    }
