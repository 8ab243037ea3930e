-- A direction that is listed carries units, and so it isn't closed.
use Rattle.std.proofs.Common.{ℕ, suc, ◌-◌, ◌*◌, ◌≤◌, ◌≡◌, Bool, true, false, cond, List, [], ◌∷◌, sym, refl, ap, ◌∙◌, ⊎_elim, arith}
use Rattle.std.specs.Prelude.{All, map, zip, nat_eq, nat_lt, min, slice_index_or, ◌||◌, ◌&&◌}
use Rattle.std.specs.List.{list_any}
use Rattle.std.proofs.lemmas.Bool.{cases_eq, eq-eqb, ne_eqb, false≢true}
use Rattle.std.proofs.lemmas.List.Elements.{All-head, All-tail, All-cons, All-nil, All-append}
use Rattle.std.proofs.lemmas.List.Folds.{list_any_none}
use Rattle.std.proofs.lemmas.List.Sums.{sum_by-cons, sum_by-append}
use Rattle.flow_model.specs.declared.instance.Arc.{Arc}
use Rattle.flow_model.specs.Flow.{room_of}
use Rattle.flow_model.proofs.Balance.{at_node, at_node-other}
use Rattle.fee_backward.specs.declared.hop.Hop.{Hop}
use Rattle.cost_pieces.specs.Pieces.{rooms_of, steps, cut_points}
use Rattle.path_split.specs.declared.part.Part.{Part}
use Rattle.path_split.specs.Parts.{units_on}
use Rattle.view_build.specs.declared.view.ViewDir.{ViewDir}
use Rattle.layer.specs.declared.ask.Ask.{Ask}
use Rattle.view_build.specs.View.{ViewParts}
use Rattle.round_rules.specs.State.{RoundState}
use Rattle.round_rules.specs.Instance.{cap_in, arcs_with, arc_of, arcs_of_dir, arcs_from, demand_of}
use Rattle.round_rules.specs.Amounts.{route_of, routes_with, carried_of, carried, total_on, any_below, any_above}

abbrev Absent : ℕ → ℕ × Hop → Type 0
Absent d l = nat_eq l.0 d ≡ false

differ : (e d : ℕ) → nat_eq d e ≡ false → nat_eq e d ≡ false
differ e d f = ne_eqb e d (λ g. false≢true (sym f ∙ eq-eqb d e (sym g)))

absent_zip : (d : ℕ) (path : List ℕ) (hops : List Hop) → list_any (nat_eq d) path ≡ false → All (Absent d) (zip path hops)
absent_zip d [] hops none = All-nil (Absent d)
absent_zip d (e ∷ path) [] none = All-nil (Absent d)
absent_zip d (e ∷ path) (h ∷ hops) none =
    let one = split (nat_eq d e) (list_any (nat_eq d) path) none in
    All-cons (Absent d) (e, h) (zip path hops) (differ e d one.0) (absent_zip d path hops one.1)
  where
    split : (a b : Bool) → (a || b) ≡ false → (a ≡ false) × (b ≡ false)
    split true b f = absurd (false≢true (sym f))
    split false b f = (refl, f)

-- no part has the direction in its path
abbrev Lacks : ℕ → Part → Type 0
Lacks d p = list_any (nat_eq d) p.path ≡ false

absent_routes : (view : ViewParts) (ask : Ask) (unit short d : ℕ) (parts : List Part) → All (Lacks d) parts → All (Absent d) (carried (routes_with view ask unit short parts))
absent_routes view ask unit short d [] lacks = All-nil (Absent d)
absent_routes view ask unit short d (p ∷ []) lacks =
    let r = route_of view ask p.path (p.units * unit - short) in
    All-append (Absent d) (carried_of r) [] (absent_zip d p.path r.hops (All-head (Lacks d) p [] lacks)) (All-nil (Absent d))
absent_routes view ask unit short d (p ∷ q ∷ parts) lacks =
    let r = route_of view ask p.path (p.units * unit) in
    All-append (Absent d) (carried_of r) (carried (routes_with view ask unit short (q ∷ parts))) (absent_zip d p.path r.hops (All-head (Lacks d) p (q ∷ parts) lacks)) (absent_routes view ask unit short d (q ∷ parts) (All-tail (Lacks d) p (q ∷ parts) lacks))

lacks_from : (d : ℕ) (parts : List Part) → All (λ (p : Part). 1 ≤ p.units) parts → units_on d parts ≡ 0 → All (Lacks d) parts
lacks_from d [] some none = All-nil (Lacks d)
lacks_from d (p ∷ parts) some none =
    let c = sum_by-cons (λ (x : Part). cond (list_any (nat_eq d) x.path) x.units 0) p parts in
    let one = All-head (λ (x : Part). 1 ≤ x.units) p parts some in
    All-cons (Lacks d) p parts (by (list_any (nat_eq d) p.path) one (omega (arith, c, none))) (lacks_from d parts (All-tail (λ (x : Part). 1 ≤ x.units) p parts some) (omega (arith, c, none)))
  where
    by : (b : Bool) → 1 ≤ p.units → cond b p.units 0 ≡ 0 → b ≡ false
    by true l e = absurd (omega (arith, l, e))
    by false l e = refl

total_none : (d : ℕ) (ls : List (ℕ × Hop)) → All (Absent d) ls → total_on d ls ≡ 0
total_none d [] absent = refl
total_none d (l ∷ ls) absent =
    let one = ap {B = ℕ} (λ b. cond b l.1.carried 0) (All-head (Absent d) l ls absent) in
    omega (arith, one, total_none d ls (All-tail (Absent d) l ls absent), sum_by-cons (λ (l : ℕ × Hop). cond (nat_eq l.0 d) l.1.carried 0) l ls)

-- what is carried over a direction with no units is nothing, in any sense
module _ (view : ViewParts) (ask : Ask) (unit short d : ℕ) (parts : List Part) (some : All (λ (p : Part). 1 ≤ p.units) parts) (none : units_on d parts ≡ 0) where
  absent : All (Absent d) (carried (routes_with view ask unit short parts))
  absent = absent_routes view ask unit short d parts (lacks_from d parts some none)

  pub nothing_total : total_on d (carried (routes_with view ask unit short parts)) ≡ 0
  nothing_total = total_none d (carried (routes_with view ask unit short parts)) absent

  pub nothing_below : (least : ℕ) → any_below d least (carried (routes_with view ask unit short parts)) ≡ false
  nothing_below least = list_any_none (λ (l : ℕ × Hop). nat_eq l.0 d && nat_lt l.1.carried least) (carried (routes_with view ask unit short parts)) (λ k e l. ap (λ b. b && nat_lt (slice_index_or (carried (routes_with view ask unit short parts)) k e).1.carried least) (absent k e l))

  pub nothing_above : (most : ℕ) → any_above d most (carried (routes_with view ask unit short parts)) ≡ false
  nothing_above most = list_any_none (λ (l : ℕ × Hop). nat_eq l.0 d && nat_lt most l.1.carried) (carried (routes_with view ask unit short parts)) (λ k e l. ap (λ b. b && nat_lt most (slice_index_or (carried (routes_with view ask unit short parts)) k e).1.carried) (absent k e l))

-- a direction with no cap left has no room
arcs_none : (arc : ℕ → ℕ → Arc) (piece : ℕ) (rooms : List ℕ) → All (λ r. r ≡ 0) rooms → arcs_with arc piece rooms ≡ []
arcs_none arc piece [] none = refl
arcs_none arc piece (r ∷ rooms) none =
    let e = All-head (λ x. x ≡ 0) r rooms none in
    ap (λ b. cond b (arcs_with arc (suc piece) rooms) (arc piece r ∷ arcs_with arc (suc piece) rooms)) (eq-eqb r 0 e) ∙ arcs_none arc (suc piece) rooms (All-tail (λ x. x ≡ 0) r rooms none)

rooms_none : (lo hi unit cap : ℕ) → cap ≡ 0 → All (λ r. r ≡ 0) (rooms_of lo hi unit cap)
rooms_none lo hi unit cap e = zeros (map (λ p. min p cap) (cut_points lo hi unit)) (capped (cut_points lo hi unit))
  where
    capped : (ps : List ℕ) → All (λ x. x ≡ 0) (map (λ p. min p cap) ps)
    capped [] = All-nil (λ x. x ≡ 0)
    capped (p ∷ ps) = All-cons (λ x. x ≡ 0) (min p cap) (map (λ p. min p cap) ps) (omega (arith, e)) (capped ps)

    zeros : (ps : List ℕ) → All (λ x. x ≡ 0) ps → All (λ x. x ≡ 0) (steps ps)
    zeros [] all = All-nil (λ x. x ≡ 0)
    zeros (a ∷ []) all = All-nil (λ x. x ≡ 0)
    zeros (a ∷ b ∷ ps) all = All-cons (λ x. x ≡ 0) (b - a) (steps (b ∷ ps)) (let z = All-head (λ x. x ≡ 0) b ps (All-tail (λ x. x ≡ 0) a (b ∷ ps) all) in omega (arith, z)) (zeros (b ∷ ps) (All-tail (λ x. x ≡ 0) a (b ∷ ps) all))

others_room : (amount : ℕ) (state : RoundState) (x d : ℕ) (v : ViewDir) (piece : ℕ) (rooms : List ℕ) → (x ≡ d → ⊥) → room_of d (arcs_with (arc_of amount state x v) piece rooms) ≡ 0
others_room amount state x d v piece [] ne = refl
others_room amount state x d v piece (r ∷ rooms) ne = by (nat_eq r 0) (others_room amount state x d v (suc piece) rooms ne)
  where
    by : (b : Bool) → room_of d (arcs_with (arc_of amount state x v) (suc piece) rooms) ≡ 0 → room_of d (cond b (arcs_with (arc_of amount state x v) (suc piece) rooms) (arc_of amount state x v piece r ∷ arcs_with (arc_of amount state x v) (suc piece) rooms)) ≡ 0
    by true h = h
    by false h = omega (arith, h, sum_by-cons (λ (a : Arc). at_node a.dir a.room d) (arc_of amount state x v piece r) (arcs_with (arc_of amount state x v) (suc piece) rooms), at_node-other x r d ne)

pub closed_room : (amount : ℕ) (state : RoundState) (d : ℕ) → cap_in state.caps d (demand_of amount state) ≡ 0 → (x : ℕ) (dirs : List ViewDir) → room_of d (arcs_from amount state x dirs) ≡ 0
closed_room amount state d closed x [] = refl
closed_room amount state d closed x (v ∷ dirs) =
    let rest = closed_room amount state d closed (suc x) dirs in
    let a = sum_by-append (λ (a : Arc). at_node a.dir a.room d) (arcs_of_dir amount state x v) (arcs_from amount state (suc x) dirs) in
    let one : room_of d (arcs_of_dir amount state x v) ≡ 0 = ⊎_elim
    (λ (e : x ≡ d). ap (room_of d) (arcs_none (arc_of amount state x v) 0 (rooms_of v.min v.max state.unit (cap_in state.caps x (demand_of amount state))) (rooms_none v.min v.max state.unit (cap_in state.caps x (demand_of amount state)) (ap (λ n. cap_in state.caps n (demand_of amount state)) e ∙ closed))))
    (λ (ne : x ≡ d → ⊥). others_room amount state x d v 0 (rooms_of v.min v.max state.unit (cap_in state.caps x (demand_of amount state))) ne)
    (cases_eq x d) in
    omega (arith, a, one, rest)
