-- The state of the round that follows, from lists of directions.
use Rattle.std.proofs.Common.{ℕ, suc, ◌+◌, ◌-◌, ◌*◌, ◌/◌, ◌<◌, ◌≤◌, ◌≡◌, ◌^◌, Bool, true, false, cond, List, [], ◌∷◌, sym, refl, ap, ◌∙◌, subst, ⊎_elim, arith, length}
use Rattle.std.specs.Prelude.{All, sum_by, filter, not, nat_eq, nat_lt, slice_index_or, ◌||◌, ◌&&◌, Option, None, Some}
use Rattle.std.specs.List.{list_any}
use Rattle.std.proofs.lemmas.Bool.{cases_eq, cases_lt, eq-eqb, ne_eqb, ltb-false, lt-ltb, le-ltb}
use Rattle.std.proofs.lemmas.Nat.{mul-le}
use Rattle.std.proofs.lemmas.List.Elements.{All-head, All-tail, All-cons, All-nil}
use Rattle.std.proofs.lemmas.List.Sums.{sum_by-cons}
use Rattle.path_split.specs.declared.part.Part.{Part}
use Rattle.path_split.specs.Parts.{units_on}
use Rattle.layer.specs.declared.ask.Ask.{Ask}
use Rattle.layer.specs.Ask.{IsGoodAsk}
use Rattle.view_build.specs.View.{ViewParts, IsGoodView}
use Rattle.view_build.specs.declared.view.ViewDir.{ViewDir}
use Rattle.round_rules.specs.declared.round.Route.{Route}
use Rattle.round_rules.specs.declared.round.Round.{Round}
use Rattle.limit_rounds.specs.Untried.{IsUntried}
use Rattle.round_rules.specs.declared.round.Fault.{Fault}
use Rattle.round_rules.specs.declared.round.Fault.TheVariants.{TooManyParts, Directions, Htlc, Fee, Delay, NoFlow}
use Rattle.round_rules.specs.View.{dir_at, no_dir}
use Rattle.round_rules.specs.State.{RoundState, IsGoodState}
use Rattle.round_rules.specs.Instance.{demand_of, instance_of}
use Rattle.round_rules.specs.Parts.{AreGoodParts}
use Rattle.round_rules.specs.Amounts.{any_below, routes_of, carried, delay_of, fees_of}
use Rattle.round_rules.specs.Faults.{all_dirs, faulty_dirs, oversize_dirs, first_late, or_listed, fault_of_routes, fault_of}
use Rattle.round_rules.specs.Next.{is_listed, cap_within_limit, coarse_unit, caps_after, next_state}
use Rattle.round_rules.proofs.Caps.{place_in}
use Rattle.round_rules.proofs.Advances.{advances}
use Rattle.round_rules.specs.Runs.{is_last}
use Rattle.limit_rounds.specs.declared.loads.Load.{Load}
use Rattle.limit_rounds.specs.declared.units.Share.{Share}
use Rattle.limit_rounds.specs.Loads.{load_at, load_on}
use Rattle.limit_rounds.specs.Caps.{cap_for_load, halves_at, share_at}
use Rattle.limit_rounds.proofs.Carried.{total_load, below_load}
use Rattle.limit_rounds.proofs.GoodRoutes.{product_most}

filter_within : (p : ℕ → Bool) (n : ℕ) (xs : List ℕ) → All (λ d. d < n) xs → All (λ d. d < n) (filter p xs)
filter_within p n [] all = All-nil (λ d. d < n)
filter_within p n (x ∷ xs) all = by (p x) (filter_within p n xs (All-tail (λ d. d < n) x xs all))
  where
    by : (b : Bool) → All (λ d. d < n) (filter p xs) → All (λ d. d < n) (cond b (x ∷ filter p xs) (filter p xs))
    by true rest = All-cons (λ d. d < n) x (filter p xs) (All-head (λ d. d < n) x xs all) rest
    by false rest = rest

-- a fault that lists directions lists the view's, and says that the parts are not too many; parts have a flow
abbrev pub ListsDirs : ViewParts → List Part → Fault → Type 0
ListsDirs view parts (Directions ds) = (length parts ≤ view.maxparts) × All (λ d. d < length view.dirs) ds
ListsDirs view parts (Htlc ds) = (length parts ≤ view.maxparts) × All (λ d. d < length view.dirs) ds
ListsDirs view parts NoFlow = ⊥
ListsDirs view parts other = Unit {0}

module _ (view : ViewParts) (ask : Ask) (s : RoundState) (parts : List Part) where
  abbrev L : Fault → Type 0
  L = ListsDirs view parts

  lates : (k : ℕ) (routes : List Route) → L (first_late ask k routes)
  lates k [] = tt
  lates k (r ∷ routes) = by (nat_lt ask.maxdelay (delay_of ask r)) (lates (k + 1) routes)
    where
      by : (b : Bool) → L (first_late ask (k + 1) routes) → L (cond b (Delay k (delay_of ask r)) (first_late ask (k + 1) routes))
      by true rest = tt
      by false rest = rest

  fees : (b : Bool) (f : ℕ) (other : Fault) → L other → L (cond b (Fee f) other)
  fees true f other h = tt
  fees false f other h = h

  oversize : (ds : List ℕ) (other : Fault) → length parts ≤ view.maxparts → All (λ d. d < length view.dirs) ds → L other → L (or_listed Htlc ds other)
  oversize [] other few all h = h
  oversize (d ∷ ds) other few all h = (few, all)

  faulty : (ds : List ℕ) (other : Fault) → length parts ≤ view.maxparts → All (λ d. d < length view.dirs) ds → L other → L (or_listed Directions ds other)
  faulty [] other few all h = h
  faulty (d ∷ ds) other few all h = (few, all)

  pub lists_dirs : ListsDirs view parts (fault_of view ask s parts)
  lists_dirs = by (nat_lt view.maxparts (length parts)) refl
    where
      routes : List Route
      routes = routes_of view ask s parts

      by : (b : Bool) → nat_lt view.maxparts (length parts) ≡ b → L (cond b TooManyParts (fault_of_routes view ask routes))
      by true e = tt
      by false e =
          let few = ltb-false view.maxparts (length parts) e in
          faulty (faulty_dirs view (carried routes)) _ few (filter_within _ (length view.dirs) (all_dirs view) (place_in view))
          (oversize (oversize_dirs view (carried routes)) _ few (filter_within _ (length view.dirs) (all_dirs view) (place_in view))
          (fees (nat_lt ask.maxfee (fees_of routes)) (fees_of routes) (first_late ask 0 routes) (lates 0 routes)))

pub listed_from : (view : ViewParts) (ask : Ask) (s : RoundState) (parts : List Part) (f : Fault) → f ≡ fault_of view ask s parts → ListsDirs view parts f
listed_from view ask s parts f is = subst (ListsDirs view parts) (sym is) (lists_dirs view ask s parts)

-- the cap that is computed is the one of the definition
pub cap_is : (view : ViewParts) (ask : Ask) (s : RoundState) (parts : List Part) (d : ℕ) → IsGoodView view → d < length view.dirs → cap_for_load (dir_at view d) (load_on d (carried (routes_of view ask s parts))) (units_on d parts) s.unit ≡ cap_within_limit view ask s parts d
cap_is view ask s parts d seen l =
    let ls = carried (routes_of view ask s parts) in
    let v = dir_at view d in
    let min = (seen.good d no_dir l).htlc_min in
    ap (λ b. cond b 0 ((v.max + units_on d parts * s.unit - (load_on d ls).total) / s.unit)) (below_load d v.htlc_min ls (omega (arith, min)))
    ∙ ap (λ n. cond (any_below d v.htlc_min ls) 0 ((v.max + units_on d parts * s.unit - n) / s.unit)) (total_load d ls)

pub all_caps : (view : ViewParts) (ask : Ask) (s : RoundState) (parts : List Part) (dirs : List ViewDir) (listed : List ℕ) (loads all : List Load) (shares counted : List Share) (wanted : List (Option ℕ)) → IsGoodView view → dirs ≡ view.dirs → loads ≡ all → shares ≡ counted
    → ((d : ℕ) → d < length dirs → load_at all d ≡ load_on d (carried (routes_of view ask s parts)))
    → ((d : ℕ) → d < length dirs → (share_at counted d).units ≡ units_on d parts)
    → ((d : ℕ) → d < length dirs → slice_index_or wanted d None ≡ cond (is_listed listed d) (Some (cap_for_load (slice_index_or dirs d no_dir) (load_at loads d) (share_at shares d).units s.unit)) None)
    → (d : ℕ) → d < length view.dirs → slice_index_or wanted d None ≡ cond (is_listed listed d) (Some (cap_within_limit view ask s parts d)) None
all_caps view ask s parts dirs listed loads all shares counted wanted seen is same_loads same_shares loaded counts value d l =
    let l' : d < length dirs = subst (λ (vs : List ViewDir). d < length vs) (sym is) l in
    let load = ap (λ (ls : List Load). load_at ls d) same_loads ∙ loaded d l' in
    let units = ap (λ (ss : List Share). (share_at ss d).units) same_shares ∙ counts d l' in
    value d l'
    ∙ (λ k. cond (is_listed listed d) (Some (cap_for_load (slice_index_or (is k) d no_dir) (load k) (units k) s.unit)) None)
    ∙ ap (λ n. cond (is_listed listed d) (Some n) None) (cap_is view ask s parts d seen l)

-- each new cap fits 64 bits
pub caps_fit : (view : ViewParts) (ask : Ask) (s : RoundState) (size : ℕ) (parts : List Part) → IsGoodView view → IsGoodAsk ask → IsGoodState view ask s → AreGoodParts (instance_of view ask s) size parts → (d : ℕ) → d < length view.dirs → (dir_at view d).max + units_on d parts * s.unit < 2 ^ 64
caps_fit view ask s size parts seen good state are d l =
    let p = product_most view ask s size parts seen good state are in
    let m = mul-le (units_on d parts) s.unit (demand_of ask.amount s) s.unit (let u = units_le parts in let e = are.sent in omega (arith, u, e)) (omega arith) in
    let most = (seen.good d no_dir l).most in
    omega (arith, p, m, most)
  where
    units_le : (ps : List Part) → units_on d ps ≤ sum_by (λ (q : Part). q.units) ps
    units_le [] = omega arith
    units_le (q ∷ ps) =
        let a = sum_by-cons (λ (r : Part). cond (list_any (nat_eq d) r.path) r.units 0) q ps in
        let b = sum_by-cons (λ (r : Part). r.units) q ps in
        let c = by (list_any (nat_eq d) q.path) in
        omega (arith, a, b, c, units_le ps)
      where
        by : (b : Bool) → cond b q.units 0 ≤ q.units
        by true = omega arith
        by false = omega arith

-- a filtered list
pub listed_filter : (p : ℕ → Bool) (ds : List ℕ) (d : ℕ) → is_listed (filter p ds) d ≡ (is_listed ds d && p d)
listed_filter p [] d = refl
listed_filter p (x ∷ ds) d = ⊎_elim
    (λ (e : d ≡ x). subst (λ y. is_listed (cond (p y) (y ∷ filter p ds) (filter p ds)) d ≡ ((nat_eq d y || is_listed ds d) && p d)) e (here (p d) refl (listed_filter p ds d)))
    (λ (ne : d ≡ x → ⊥). there (p x) ne (listed_filter p ds d))
    (cases_eq d x)
  where
    and_false : (t : Bool) → (t && false) ≡ false
    and_false true = refl
    and_false false = refl

    here : (b : Bool) → p d ≡ b → is_listed (filter p ds) d ≡ (is_listed ds d && p d) → is_listed (cond b (d ∷ filter p ds) (filter p ds)) d ≡ ((nat_eq d d || is_listed ds d) && b)
    here true e rest = ap (λ t. t || is_listed (filter p ds) d) (eq-eqb d d refl) ∙ sym (ap (λ t. (t || is_listed ds d) && true) (eq-eqb d d refl))
    here false e rest = rest ∙ ap (λ t. is_listed ds d && t) e ∙ and_false (is_listed ds d) ∙ sym (and_false (nat_eq d d || is_listed ds d))

    there : (b : Bool) → (d ≡ x → ⊥) → is_listed (filter p ds) d ≡ (is_listed ds d && p d) → is_listed (cond b (x ∷ filter p ds) (filter p ds)) d ≡ ((nat_eq d x || is_listed ds d) && p d)
    there true ne rest = ap (λ t. t || is_listed (filter p ds) d) (ne_eqb d x ne) ∙ rest ∙ sym (ap (λ t. (t || is_listed ds d) && p d) (ne_eqb d x ne))
    there false ne rest = rest ∙ sym (ap (λ t. (t || is_listed ds d) && p d) (ne_eqb d x ne))

filter_shorter : (p : ℕ → Bool) (ds : List ℕ) → length (filter p ds) ≤ length ds
filter_shorter p [] = omega arith
filter_shorter p (x ∷ ds) = by (p x) (filter_shorter p ds)
  where
    by : (b : Bool) → length (filter p ds) ≤ length ds → length (cond b (x ∷ filter p ds) (filter p ds)) ≤ suc (length ds)
    by true h = omega (arith, h)
    by false h = omega (arith, h)

-- some item passes the test if and only if those that fail it are fewer
pub any_by_length : (q : ℕ → Bool) (ds : List ℕ) → list_any q ds ≡ nat_lt (length (filter (λ d. not (q d)) ds)) (length ds)
any_by_length q [] = sym (le-ltb 0 0 (omega arith))
any_by_length q (x ∷ ds) = by (q x) (any_by_length q ds)
  where
    same : (a b : ℕ) → nat_lt a b ≡ nat_lt (suc a) (suc b)
    same a b = ⊎_elim
        (λ (l : a < b). lt-ltb a b l ∙ sym (lt-ltb (suc a) (suc b) (omega (arith, l))))
        (λ (g : b ≤ a). le-ltb a b g ∙ sym (le-ltb (suc a) (suc b) (omega (arith, g))))
        (cases_lt a b)

    by : (b : Bool) → list_any q ds ≡ nat_lt (length (filter (λ d. not (q d)) ds)) (length ds) → (b || list_any q ds) ≡ nat_lt (length (cond (not b) (x ∷ filter (λ d. not (q d)) ds) (filter (λ d. not (q d)) ds))) (suc (length ds))
    by true h = let f = filter_shorter (λ d. not (q d)) ds in sym (lt-ltb (length (filter (λ d. not (q d)) ds)) (suc (length ds)) (omega (arith, f)))
    by false h = h ∙ same (length (filter (λ d. not (q d)) ds)) (length ds)

-- the directions that get a cap of 0
pub zero_value : (dirs dirs' : List ViewDir) (size coarse count : ℕ) (listed closed read : List ℕ) (wanted : List (Option ℕ)) → dirs ≡ dirs' → count ≡ length dirs → closed ≡ filter (λ d. not (halves_at dirs size coarse d)) listed → read ≡ closed
    → ((d : ℕ) → d < count → slice_index_or wanted d None ≡ cond (is_listed read d) (Some 0) None)
    → (d : ℕ) → d < length dirs' → slice_index_or wanted d None ≡ cond (is_listed listed d && not (halves_at dirs' size coarse d)) (Some 0) None
zero_value dirs dirs' size coarse count listed closed read wanted is counted filtered same value d l =
    value d (let n = ap length is in omega (arith, n, counted, l))
    ∙ ap (λ b. cond b (Some 0) None) (ap (λ ds. is_listed ds d) (same ∙ filtered) ∙ listed_filter (λ x. not (halves_at dirs size coarse x)) listed d ∙ ap (λ (vs : List ViewDir). is_listed listed d && not (halves_at vs size coarse d)) is)

pub halved_size : (dirs dirs' : List ViewDir) (size coarse : ℕ) (listed closed : List ℕ) → dirs ≡ dirs' → closed ≡ filter (λ d. not (halves_at dirs size coarse d)) listed → nat_lt (length closed) (length listed) ≡ list_any (halves_at dirs' size coarse) listed
halved_size dirs dirs' size coarse listed closed is filtered =
    ap (λ ds. nat_lt (length ds) (length listed)) filtered
    ∙ sym (any_by_length (halves_at dirs size coarse) listed)
    ∙ ap (λ (vs : List ViewDir). list_any (halves_at vs size coarse) listed) is

pub closed_within : (dirs : List ViewDir) (size coarse n : ℕ) (listed closed read : List ℕ) → closed ≡ filter (λ d. not (halves_at dirs size coarse d)) listed → read ≡ closed → All (λ d. d < n) listed → All (λ d. d < n) read
closed_within dirs size coarse n listed closed read filtered same all = subst (All (λ d. d < n)) (sym (same ∙ filtered)) (filter_within (λ d. not (halves_at dirs size coarse d)) n listed all)

-- the state after a fault of the HTLC maximum, at the coarse unit that was computed
pub htlc_state : (view : ViewParts) (ask : Ask) (s : RoundState) (parts : List Part) (listed read : List ℕ) (coarse : ℕ) → coarse ≡ coarse_unit view ask → read ≡ listed → record {
  unit = s.unit;
  fee_level = s.fee_level;
  delay_level = s.delay_level;
  size = cond (list_any (halves_at view.dirs s.size coarse) read) (s.size / 2) s.size;
  caps = caps_after view s.caps (λ d. is_listed read d && not (halves_at view.dirs s.size coarse d)) (λ d. 0);
} ≡ next_state view ask s parts (Htlc listed)
htlc_state view ask s parts listed read coarse unit same = λ k. record {
  unit = s.unit;
  fee_level = s.fee_level;
  delay_level = s.delay_level;
  size = cond (list_any (halves_at view.dirs s.size (unit k)) (same k)) (s.size / 2) s.size;
  caps = caps_after view s.caps (λ d. is_listed (same k) d && not (halves_at view.dirs s.size (unit k) d)) (λ d. 0);
}

pub untried_at : (r : Round) (s t : RoundState) → s ≡ t → IsUntried r s → IsUntried r t
untried_at r s t e h = record { state_is = h.state_is ∙ e; no_parts = h.no_parts; no_fault = h.no_fault }

pub good_after : (view : ViewParts) (ask : Ask) (s : RoundState) (size : ℕ) (parts : List Part) (f : Fault) → IsGoodView view → IsGoodAsk ask → IsGoodState view ask s → AreGoodParts (instance_of view ask s) size parts → f ≡ fault_of view ask s parts → is_last s f ≡ false → IsGoodState view ask (next_state view ask s parts f)
good_after view ask s size parts f seen good state are is goes = subst (λ x. IsGoodState view ask (next_state view ask s parts x)) (sym is) (advances view ask seen good s state size parts are (ap (is_last s) (sym is) ∙ goes)).good
