-- A round without a fault keeps all limits.
use Rattle.std.proofs.Common.{ℕ, suc, ◌+◌, ◌-◌, ◌*◌, ◌<◌, ◌≤◌, ◌≡◌, Bool, true, false, cond, List, [], ◌∷◌, sym, refl, ap, ◌∙◌, subst, ⊎_elim, arith, length}
use Rattle.std.specs.Prelude.{All, sum_by, zip, nat_eq, nat_lt, slice_index_or, ◌||◌, ◌&&◌, filter}
use Rattle.std.specs.List.{list_any}
use Rattle.std.proofs.lemmas.Bool.{eq-eqb, ltb-false, false≢true}
use Rattle.std.proofs.lemmas.Grind.{div_ceil_times}
use Rattle.std.proofs.lemmas.List.Elements.{All-head, All-tail, All-cons, All-nil, All-append}
use Rattle.std.proofs.lemmas.List.FromFn.{length-range_with_len, get_or-range_with_len}
use Rattle.std.proofs.lemmas.List.Sums.{sum_by-cons}
use Rattle.flow_model.specs.declared.instance.Arc.{Arc}
use Rattle.cost_pieces.specs.Pieces.{rooms_of}
use Rattle.fee_backward.specs.declared.hop.Hop.{Hop}
use Rattle.path_split.specs.declared.part.Part.{Part}
use Rattle.path_split.specs.Path.{IsPath}
use Rattle.flow_model.specs.Instance.{no_arc}
use Rattle.round_rules.specs.Parts.{AreGoodParts}
use Rattle.view_build.specs.declared.view.ViewDir.{ViewDir}
use Rattle.layer.specs.declared.ask.Ask.{Ask}
use Rattle.round_rules.specs.declared.round.Route.{Route}
use Rattle.round_rules.specs.declared.round.Round.{Round}
use Rattle.round_rules.specs.declared.round.Fault.{Fault}
use Rattle.round_rules.specs.declared.round.Fault.TheVariants.{None, TooManyParts, Directions, Htlc, Fee, Delay}
use Rattle.view_build.specs.View.{ViewParts, IsGoodView}
use Rattle.round_rules.specs.View.{dir_at}
use Rattle.round_rules.specs.State.{RoundState}
use Rattle.round_rules.specs.Instance.{arcs_with, arc_of, arcs_of_dir, arcs_from, demand_of, instance_of, cap_in}
use Rattle.round_rules.specs.Amounts.{route_of, routes_with, routes_of, carried_of, carried, total_on, fees_of, delay_of}
use Rattle.round_rules.specs.Faults.{limit_of, is_over_limit, is_below_minimum, is_above_maximum, all_dirs, faulty_dirs, oversize_dirs, first_late, or_listed, fault_of_routes, fault_of}
use Rattle.layer.specs.Ask.{IsGoodAsk}
use Rattle.round_rules.specs.State.{first_state, state_of, IsGoodState}
use Rattle.round_rules.specs.Runs.{HasCheapestParts, HasNoFlow, IsRoundResult, IsRunFrom, EndsWith, PartsOutcome}
use Rattle.round_rules.specs.Next.{next_state}
use Rattle.round_rules.proofs.Count.{step_of, first_good}
use Rattle.round_rules.specs.declared.run.Outcome.TheVariants.{Parts}
use Rattle.round_rules.specs.Laws.{KeepsLimits, PartsKeepLimits}

-- the arcs' directions are directions of the view
below_arcs : (arc : ℕ → ℕ → Arc) (x m piece : ℕ) (rooms : List ℕ) → ((p r : ℕ) → (arc p r).dir ≡ x) → x < m → All (λ (a : Arc). a.dir < m) (arcs_with arc piece rooms)
below_arcs arc x m piece [] is l = All-nil (λ (a : Arc). a.dir < m)
below_arcs arc x m piece (r ∷ rooms) is l = by (nat_eq r 0) (below_arcs arc x m (suc piece) rooms is l)
  where
    by : (b : Bool) → All (λ (a : Arc). a.dir < m) (arcs_with arc (suc piece) rooms) → All (λ (a : Arc). a.dir < m) (cond b (arcs_with arc (suc piece) rooms) (arc piece r ∷ arcs_with arc (suc piece) rooms))
    by true h = h
    by false h = All-cons (λ (a : Arc). a.dir < m) (arc piece r) (arcs_with arc (suc piece) rooms) (let e = is piece r in omega (arith, e, l)) h

pub dirs_below : (amount : ℕ) (state : RoundState) (m x : ℕ) (dirs : List ViewDir) → x + length dirs ≤ m → All (λ (a : Arc). a.dir < m) (arcs_from amount state x dirs)
dirs_below amount state m x [] le = All-nil (λ (a : Arc). a.dir < m)
dirs_below amount state m x (v ∷ dirs) le = All-append (λ (a : Arc). a.dir < m) (arcs_of_dir amount state x v) (arcs_from amount state (suc x) dirs) (below_arcs (arc_of amount state x v) x m 0 (rooms_of v.min v.max state.unit (cap_in state.caps x (demand_of amount state))) (λ p r. refl) (omega (arith, le))) (dirs_below amount state m (suc x) dirs (omega (arith, le)))

path_below : (arcs : List Arc) (m u w : ℕ) (path : List ℕ) → All (λ (a : Arc). a.dir < m) arcs → IsPath arcs u path w → All (λ d. d < m) path
path_below arcs m u w [] below leads = All-nil (λ d. d < m)
path_below arcs m u w (d ∷ path) below leads =
    let j = leads.1 in
    All-cons (λ x. x < m) d path (subst (λ x. x < m) j.of_dir (below j.at no_arc j.within)) (path_below arcs m leads.0 w path below leads.2)

-- the paths of good parts are of the view's directions
pub paths_within : (view : ViewParts) (ask : Ask) (s : RoundState) (size : ℕ) (parts : List Part) → AreGoodParts (instance_of view ask s) size parts → All (λ (p : Part). All (λ d. d < length view.dirs) p.path) parts
paths_within view ask s size parts good k d l = path_below (arcs_from ask.amount s 0 view.dirs) (length view.dirs) view.source view.destination (slice_index_or parts k d).path (dirs_below ask.amount s (length view.dirs) 0 view.dirs (omega arith)) (good.paths k d l)

abbrev IsBelow : ℕ → ℕ × Hop → Type 0
IsBelow m l = l.0 < m

zip_below : (m : ℕ) (path : List ℕ) (hops : List Hop) → All (λ d. d < m) path → All (IsBelow m) (zip path hops)
zip_below m [] hops below = All-nil (IsBelow m)
zip_below m (d ∷ path) [] below = All-nil (IsBelow m)
zip_below m (d ∷ path) (h ∷ hops) below = All-cons (IsBelow m) (d, h) (zip path hops) (All-head (λ d. d < m) d path below) (zip_below m path hops (All-tail (λ d. d < m) d path below))

carried_below : (view : ViewParts) (ask : Ask) (unit short m : ℕ) (parts : List Part) → All (λ (p : Part). All (λ d. d < m) p.path) parts → All (IsBelow m) (carried (routes_with view ask unit short parts))
carried_below view ask unit short m [] below = All-nil (IsBelow m)
carried_below view ask unit short m (p ∷ []) below =
    let r = route_of view ask p.path (p.units * unit - short) in
    All-append (IsBelow m) (carried_of r) [] (zip_below m p.path r.hops (All-head (λ (p : Part). All (λ d. d < m) p.path) p [] below)) (All-nil (IsBelow m))
carried_below view ask unit short m (p ∷ q ∷ parts) below =
    let r = route_of view ask p.path (p.units * unit) in
    All-append (IsBelow m) (carried_of r) (carried (routes_with view ask unit short (q ∷ parts))) (zip_below m p.path r.hops (All-head (λ (p : Part). All (λ d. d < m) p.path) p (q ∷ parts) below)) (carried_below view ask unit short m (q ∷ parts) (All-tail (λ (p : Part). All (λ d. d < m) p.path) p (q ∷ parts) below))

pub length-routes_with : (view : ViewParts) (ask : Ask) (unit short : ℕ) (parts : List Part) → length (routes_with view ask unit short parts) ≡ length parts
length-routes_with view ask unit short [] = refl
length-routes_with view ask unit short (p ∷ []) = refl
length-routes_with view ask unit short (p ∷ q ∷ parts) = ap suc (length-routes_with view ask unit short (q ∷ parts))

-- the parts deliver their units, less what the last one is short of
pub delivers : (view : ViewParts) (ask : Ask) (unit short : ℕ) (parts : List Part) → All (λ (p : Part). 1 ≤ p.units) parts → 1 ≤ length parts → short ≤ unit → sum_by (λ (r : Route). r.delivered) (routes_with view ask unit short parts) + short ≡ sum_by (λ (p : Part). p.units) parts * unit
delivers view ask unit short [] some long le = absurd (omega (arith, long))
delivers view ask unit short (p ∷ []) some long le =
    let one = All-head (λ (p : Part). 1 ≤ p.units) p [] some in
    let e : p.units ≡ 1 + (p.units - 1) = omega (arith, one) in
    let m = ap (λ n. n * unit) e in
    omega (arith, m, le)
delivers view ask unit short (p ∷ q ∷ parts) some long le =
    let rest = delivers view ask unit short (q ∷ parts) (All-tail (λ (p : Part). 1 ≤ p.units) p (q ∷ parts) some) (omega arith) le in
    let a = sum_by-cons (λ (r : Route). r.delivered) (route_of view ask p.path (p.units * unit)) (routes_with view ask unit short (q ∷ parts)) in
    let b = ap (λ n. n * unit) (sum_by-cons (λ (p : Part). p.units) p (q ∷ parts)) in
    omega (arith, rest, a, b)

-- a filter that keeps nothing
filter_none : (p : ℕ → Bool) (xs : List ℕ) → filter p xs ≡ [] → All (λ x. p x ≡ false) xs
filter_none p [] none = All-nil (λ x. p x ≡ false)
filter_none p (x ∷ xs) none = by (p x) refl none (filter_none p xs)
  where
    by : (b : Bool) → p x ≡ b → cond b (x ∷ filter p xs) (filter p xs) ≡ [] → (filter p xs ≡ [] → All (λ y. p y ≡ false) xs) → All (λ y. p y ≡ false) (x ∷ xs)
    by true e f rest = absurd (let n = ap length f in omega (arith, n))
    by false e f rest = All-cons (λ y. p y ≡ false) x xs e (rest f)

none_listed : (view : ViewParts) (p : ℕ → Bool) → filter p (all_dirs view) ≡ [] → (d : ℕ) → d < length view.dirs → p d ≡ false
none_listed view p none d l =
    let n = length-range_with_len 0 (length view.dirs) in
    let e : slice_index_or (all_dirs view) d 0 ≡ d = get_or-range_with_len 0 (length view.dirs) d 0 l ∙ omega arith in
    subst (λ x. p x ≡ false) e (filter_none p (all_dirs view) none d 0 (omega (arith, n, l)))

both_false : (a b : Bool) → (a || b) ≡ false → (a ≡ false) × (b ≡ false)
both_false true b e = absurd (false≢true (sym e))
both_false false b e = (refl, e)

any_false : {X : Type 0} (p : X → Bool) (xs : List X) → list_any p xs ≡ false → All (λ x. p x ≡ false) xs
any_false p [] none = All-nil (λ x. p x ≡ false)
any_false p (x ∷ xs) none = let h = both_false (p x) (list_any p xs) none in All-cons (λ y. p y ≡ false) x xs h.0 (any_false p xs h.1)

second_false : (a b : Bool) → a ≡ true → (a && b) ≡ false → b ≡ false
second_false true b e f = f
second_false false b e f = absurd (false≢true e)

abbrev is_none : Fault → Bool
is_none None = true
is_none other = false

module _ (view : ViewParts) (ask : Ask) (seen : IsGoodView view) (good : IsGoodAsk ask) (s : RoundState) (unit : 1 ≤ s.unit) (size : ℕ) (parts : List Part) (good_parts : AreGoodParts (instance_of view ask s) size parts) where
  abbrev routes : List Route
  routes = routes_of view ask s parts

  abbrev ls : List (ℕ × Hop)
  ls = carried routes

  nonempty : 1 ≤ length parts
  nonempty = from parts good_parts.sent
    where
      from : (ps : List Part) → sum_by (λ (p : Part). p.units) ps ≡ demand_of ask.amount s → 1 ≤ length ps
      from [] e = let some = good.some in let m = ap (λ n. n * s.unit) e in absurd (let c = div_ceil_times ask.amount s.unit (omega (arith, unit)) in omega (arith, m, c, some))
      from (p ∷ ps) e = omega arith

  sum_delivered : sum_by (λ (r : Route). r.delivered) routes ≡ ask.amount
  sum_delivered =
      let c = div_ceil_times ask.amount s.unit (omega (arith, unit)) in
      let short = demand_of ask.amount s * s.unit - ask.amount in
      let d = delivers view ask s.unit short parts good_parts.some nonempty (omega (arith, c)) in
      let m = ap (λ n. n * s.unit) good_parts.sent in
      omega (arith, d, m, c)

  dirs_within : All (IsBelow (length view.dirs)) ls
  dirs_within = carried_below view ask s.unit (demand_of ask.amount s * s.unit - ask.amount) (length view.dirs) parts (paths_within view ask s size parts good_parts)

  no_late : (k : ℕ) (rs : List Route) → is_none (first_late ask k rs) ≡ true → All (λ (r : Route). delay_of ask r ≤ ask.maxdelay) rs
  no_late k [] e = All-nil (λ (r : Route). delay_of ask r ≤ ask.maxdelay)
  no_late k (r ∷ rs) e = by (nat_lt ask.maxdelay (delay_of ask r)) refl e (no_late (k + 1) rs)
    where
      by : (b : Bool) → nat_lt ask.maxdelay (delay_of ask r) ≡ b → is_none (cond b (Delay k (delay_of ask r)) (first_late ask (k + 1) rs)) ≡ true → (is_none (first_late ask (k + 1) rs) ≡ true → All (λ (x : Route). delay_of ask x ≤ ask.maxdelay) rs) → All (λ (x : Route). delay_of ask x ≤ ask.maxdelay) (r ∷ rs)
      by true f g rest = absurd (false≢true g)
      by false f g rest = All-cons (λ (x : Route). delay_of ask x ≤ ask.maxdelay) r rs (ltb-false ask.maxdelay (delay_of ask r) f) (rest g)

  all_kept : length parts ≤ view.maxparts → faulty_dirs view ls ≡ [] → oversize_dirs view ls ≡ [] → fees_of routes ≤ ask.maxfee → All (λ (r : Route). delay_of ask r ≤ ask.maxdelay) routes → KeepsLimits view ask routes
  all_kept few bad large fees delays = record {
    delivered = sum_delivered;
    totals = λ d l. ltb-false (limit_of view d) (total_on d ls) (both_false (is_over_limit view ls d) (is_below_minimum view ls d) (none_listed view (λ x. is_over_limit view ls x || is_below_minimum view ls x) bad d l)).0;
    least = λ k e l.
        let x = slice_index_or ls k e in
        let in' = dirs_within k e l in
        let none = (both_false (is_over_limit view ls x.0) (is_below_minimum view ls x.0) (none_listed view (λ y. is_over_limit view ls y || is_below_minimum view ls y) bad x.0 in')).1 in
        ltb-false x.1.carried (dir_at view x.0).htlc_min (second_false (nat_eq x.0 x.0) (nat_lt x.1.carried (dir_at view x.0).htlc_min) (eq-eqb x.0 x.0 refl) (any_false (λ (y : ℕ × Hop). nat_eq y.0 x.0 && nat_lt y.1.carried (dir_at view x.0).htlc_min) ls none k e l));
    most = λ k e l.
        let x = slice_index_or ls k e in
        let none = none_listed view (is_above_maximum view ls) large x.0 (dirs_within k e l) in
        ltb-false (dir_at view x.0).htlc_max x.1.carried (second_false (nat_eq x.0 x.0) (nat_lt (dir_at view x.0).htlc_max x.1.carried) (eq-eqb x.0 x.0 refl) (any_false (λ (y : ℕ × Hop). nat_eq y.0 x.0 && nat_lt (dir_at view x.0).htlc_max y.1.carried) ls none k e l));
    few = let n = length-routes_with view ask s.unit (demand_of ask.amount s * s.unit - ask.amount) parts in omega (arith, n, few);
    fees = fees;
    delays = delays;
  }

  no_many : (b : Bool) (other : Fault) → nat_lt view.maxparts (length parts) ≡ b → is_none (cond b TooManyParts other) ≡ true → (length parts ≤ view.maxparts) × (is_none other ≡ true)
  no_many true other e f = absurd (false≢true f)
  no_many false other e f = (ltb-false view.maxparts (length parts) e, f)

  no_faulty : (ds : List ℕ) (other : Fault) → is_none (or_listed Directions ds other) ≡ true → (ds ≡ []) × (is_none other ≡ true)
  no_faulty [] other f = (refl, f)
  no_faulty (d ∷ ds) other f = absurd (false≢true f)

  no_oversize : (ds : List ℕ) (other : Fault) → is_none (or_listed Htlc ds other) ≡ true → (ds ≡ []) × (is_none other ≡ true)
  no_oversize [] other f = (refl, f)
  no_oversize (d ∷ ds) other f = absurd (false≢true f)

  no_fee_fault : (b : Bool) (other : Fault) → nat_lt ask.maxfee (fees_of routes) ≡ b → is_none (cond b (Fee (fees_of routes)) other) ≡ true → (fees_of routes ≤ ask.maxfee) × (is_none other ≡ true)
  no_fee_fault true other e f = absurd (false≢true f)
  no_fee_fault false other e f = (ltb-false ask.maxfee (fees_of routes) e, f)

  pub keeps_limits : fault_of view ask s parts ≡ None → KeepsLimits view ask routes
  keeps_limits none =
      let start : is_none (fault_of view ask s parts) ≡ true = ap is_none none in
      let a = no_many (nat_lt view.maxparts (length parts)) (fault_of_routes view ask routes) refl start in
      let b = no_faulty (faulty_dirs view ls) (or_listed Htlc (oversize_dirs view ls) (cond (nat_lt ask.maxfee (fees_of routes)) (Fee (fees_of routes)) (first_late ask 0 routes))) a.1 in
      let c = no_oversize (oversize_dirs view ls) (cond (nat_lt ask.maxfee (fees_of routes)) (Fee (fees_of routes)) (first_late ask 0 routes)) b.1 in
      let d = no_fee_fault (nat_lt ask.maxfee (fees_of routes)) (first_late ask 0 routes) refl c.1 in
      all_kept a.0 b.0 c.0 d.0 (no_late 0 routes d.1)

pub parts_keep_limits : PartsKeepLimits
parts_keep_limits view ask rounds routes fee ppm net flow potentials seen good run = walk rounds (first_state ask.amount) (first_good view ask good) run.0 run.1
  where
    last : (r : Round) → 1 ≤ r.unit → IsRoundResult view ask (state_of r) r.parts r.fault → PartsOutcome view ask r routes fee ppm net flow potentials → KeepsLimits view ask routes
    last r unit result out = subst (KeepsLimits view ask) (sym out.routes_are) (⊎_elim
        (λ (solved : HasCheapestParts view ask (state_of r) r.parts r.fault). keeps_limits view ask seen good (state_of r) unit r.size r.parts solved.good (sym solved.fault_is ∙ out.fault_is))
        (λ (failed : HasNoFlow view ask (state_of r) r.parts r.fault). absurd (false≢true (ap is_none (sym failed.fault_is ∙ out.fault_is))))
        result)

    walk : (rs : List Round) (s : RoundState) → IsGoodState view ask s → IsRunFrom view ask s rs → EndsWith view ask rs (Parts routes fee ppm net flow potentials) → KeepsLimits view ask routes
    walk [] s good_state follows out = absurd follows
    walk (r ∷ []) s good_state follows out = last r (let u = good_state.some_unit in let e = ap (λ (x : RoundState). x.unit) follows.0 in omega (arith, u, e)) follows.1 out
    walk (r ∷ q ∷ rs) s good_state follows out = walk (q ∷ rs) (next_state view ask s r.parts r.fault) (step_of view ask s r seen good good_state follows.0 follows.1 follows.2).good follows.3 out
