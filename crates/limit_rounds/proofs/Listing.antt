-- Turns of the loops that list directions, and that find the first late route.
use Rattle.std.proofs.Common.{◌^◌, ℕ, ◌+◌, ◌-◌, ◌<◌, ◌≤◌, ◌≡◌, Bool, true, false, cond, List, [], ◌∷◌, ◌++◌, sym, refl, ap, ◌∙◌, subst, arith, length}
use Rattle.std.specs.Prelude.{All, drop, filter, nat_lt, slice_index_or, ◌||◌}
use Rattle.std.specs.List.{range_with_len}
use Rattle.std.proofs.lemmas.List.Elements.{All-head, All-tail}
use Rattle.std.proofs.lemmas.List.FromFn.{length-range_with_len, get_or-range_with_len}
use Rattle.std.proofs.lemmas.Bool.{lt-ltb, le-ltb}
use Rattle.std.proofs.lemmas.List.{append_assoc, drop_all, get_or_default}
use Rattle.view_build.specs.declared.view.ViewDir.{ViewDir}
use Rattle.layer.specs.declared.ask.Ask.{Ask}
use Rattle.round_rules.specs.declared.round.Route.{Route}
use Rattle.round_rules.specs.declared.round.Fault.{Fault}
use Rattle.round_rules.specs.declared.round.Fault.TheVariants.{None, Delay, Directions, Htlc, Fee}
use Rattle.view_build.specs.View.{ViewParts, IsGoodView}
use Rattle.round_rules.specs.View.{no_dir, dir_at}
use Rattle.round_rules.specs.Amounts.{delay_of, carried, total_on}
use Rattle.round_rules.specs.Faults.{first_late, or_listed, faulty_dirs, oversize_dirs, is_over_limit, is_below_minimum, is_above_maximum}
use Rattle.limit_rounds.specs.declared.loads.Load.{Load}
use Rattle.limit_rounds.specs.Loads.{load_at, load_on, no_load, faulty_at, oversize_at}
use Rattle.limit_rounds.proofs.Carried.{total_load, below_load, above_load}
use Rattle.limit_rounds.proofs.Building.{drop_next}
use Rattle.limit_rounds.proofs.Raising.{range_next}

pub list_turn : (p : ℕ → Bool) (out more : List ℕ) (i n : ℕ) (b : Bool) (whole : List ℕ) → i < n → p i ≡ b → more ≡ out ++ cond b (i ∷ []) [] → out ++ filter p (range_with_len i (n - i)) ≡ whole → more ++ filter p (range_with_len (i + 1) (n - (i + 1))) ≡ whole
list_turn p out more i n b whole l is grows old =
    let rest = filter p (range_with_len (i + 1) (n - (i + 1))) in
    ap (λ xs. xs ++ rest) grows ∙ append_assoc out (cond b (i ∷ []) []) rest ∙ ap (λ xs. out ++ xs) (one b rest) ∙ ap (λ c. out ++ cond c (i ∷ rest) rest) (sym is) ∙ ap (λ xs. out ++ filter p xs) (sym (range_next i n l)) ∙ old
  where
    one : (c : Bool) (rest : List ℕ) → cond c (i ∷ []) [] ++ rest ≡ cond c (i ∷ rest) rest
    one true rest = refl
    one false rest = refl

late_step : (ask : Ask) (routes : List Route) (i : ℕ) (r : Route) → i < length routes → first_late ask i (drop i routes) ≡ cond (nat_lt ask.maxdelay (delay_of ask (slice_index_or routes i r))) (Delay i (delay_of ask (slice_index_or routes i r))) (first_late ask (i + 1) (drop (i + 1) routes))
late_step ask routes i r l = ap (first_late ask i) (drop_next routes i r l)

pub late_found : (ask : Ask) (routes : List Route) (i delay : ℕ) (r : Route) (whole : Fault) → i < length routes → delay ≡ delay_of ask (slice_index_or routes i r) → ask.maxdelay < delay → first_late ask i (drop i routes) ≡ whole → Delay i delay ≡ whole
late_found ask routes i delay r whole l is more old =
    let d = delay_of ask (slice_index_or routes i r) in
    ap (Delay i) is ∙ sym (late_step ask routes i r l ∙ ap (λ b. cond b (Delay i d) (first_late ask (i + 1) (drop (i + 1) routes))) (lt-ltb ask.maxdelay d (omega (arith, is, more)))) ∙ old

pub late_turn : (ask : Ask) (routes : List Route) (i delay : ℕ) (r : Route) (whole : Fault) → i < length routes → delay ≡ delay_of ask (slice_index_or routes i r) → delay ≤ ask.maxdelay → first_late ask i (drop i routes) ≡ whole → first_late ask (i + 1) (drop (i + 1) routes) ≡ whole
late_turn ask routes i delay r whole l is few old =
    let d = delay_of ask (slice_index_or routes i r) in
    sym (late_step ask routes i r l ∙ ap (λ b. cond b (Delay i d) (first_late ask (i + 1) (drop (i + 1) routes))) (le-ltb ask.maxdelay d (omega (arith, is, few)))) ∙ old

pub late_none : (ask : Ask) (routes : List Route) (i : ℕ) (whole : Fault) → length routes ≤ i → first_late ask i (drop i routes) ≡ whole → None ≡ whole
late_none ask routes i whole l old = sym (ap (first_late ask i) (drop_all i routes l)) ∙ old

pub faulty_is : (dirs : List ViewDir) (loads : List Load) (d : ℕ) (v w : ViewDir) (e : Load) → d < length dirs → length loads ≡ length dirs → v ≡ slice_index_or dirs d w → (nat_lt v.max (slice_index_or loads d e).total || nat_lt (slice_index_or loads d e).least v.htlc_min) ≡ faulty_at dirs loads d
faulty_is dirs loads d v w e l long is = ap (λ (y : Load). nat_lt v.max y.total || nat_lt y.least v.htlc_min) (get_or_default loads d e no_load (omega (arith, l, long))) ∙ ap (λ (x : ViewDir). nat_lt x.max (load_at loads d).total || nat_lt (load_at loads d).least x.htlc_min) (is ∙ get_or_default dirs d w no_dir l)

pub oversize_is : (dirs : List ViewDir) (loads : List Load) (d : ℕ) (v w : ViewDir) (e : Load) → d < length dirs → length loads ≡ length dirs → v ≡ slice_index_or dirs d w → nat_lt v.htlc_max (slice_index_or loads d e).most ≡ oversize_at dirs loads d
oversize_is dirs loads d v w e l long is = ap (λ (y : Load). nat_lt v.htlc_max y.most) (get_or_default loads d e no_load (omega (arith, l, long))) ∙ ap (λ (x : ViewDir). nat_lt x.htlc_max (load_at loads d).most) (is ∙ get_or_default dirs d w no_dir l)

filter_same : (p q : ℕ → Bool) (xs : List ℕ) → All (λ x. p x ≡ q x) xs → filter p xs ≡ filter q xs
filter_same p q [] same = refl
filter_same p q (x ∷ xs) same = ap (λ b. cond b (x ∷ filter p xs) (filter p xs)) (All-head (λ y. p y ≡ q y) x xs same) ∙ ap (λ ys. cond (q x) (x ∷ ys) ys) (filter_same p q xs (All-tail (λ y. p y ≡ q y) x xs same))

htlc_min_fits : (view : ViewParts) → IsGoodView view → (d : ℕ) → d < length view.dirs → (dir_at view d).htlc_min ≤ 2 ^ 64 - 1
htlc_min_fits view seen d l = let h = (seen.good d no_dir l).htlc_min in omega (arith, h)

-- the lists of directions, from the loads
pub faulty_all : (view : ViewParts) (dirs : List ViewDir) (loads all : List Load) (routes : List Route) → dirs ≡ view.dirs → IsGoodView view → loads ≡ all → ((d : ℕ) → d < length dirs → load_at all d ≡ load_on d (carried routes)) → filter (faulty_at dirs loads) (range_with_len 0 (length dirs)) ≡ faulty_dirs view (carried routes)
faulty_all view dirs loads all routes is seen same value =
    ap (λ ls. filter (faulty_at dirs ls) (range_with_len 0 (length dirs))) same
    ∙ filter_same (faulty_at dirs all) (λ d. is_over_limit view (carried routes) d || is_below_minimum view (carried routes) d) (range_with_len 0 (length dirs)) (λ k e l. each _ (in_range k e l))
    ∙ ap (λ n. filter (λ d. is_over_limit view (carried routes) d || is_below_minimum view (carried routes) d) (range_with_len 0 n)) (ap length is)
  where
    in_range : (k e : ℕ) → k < length (range_with_len 0 (length dirs)) → slice_index_or (range_with_len 0 (length dirs)) k e < length dirs
    in_range k e l =
        let n = length-range_with_len 0 (length dirs) in
        let at = get_or-range_with_len 0 (length dirs) k e (omega (arith, l, n)) in
        omega (arith, at, l, n)

    each : (d : ℕ) → d < length dirs → faulty_at dirs all d ≡ (is_over_limit view (carried routes) d || is_below_minimum view (carried routes) d)
    each d l =
        let v = ap (λ (vs : List ViewDir). slice_index_or vs d no_dir) is in
        ap (λ (x : ViewDir). nat_lt x.max (load_at all d).total || nat_lt (load_at all d).least x.htlc_min) v
        ∙ ap (λ (y : Load). nat_lt (dir_at view d).max y.total || nat_lt y.least (dir_at view d).htlc_min) (value d l)
        ∙ ap (λ n. nat_lt (dir_at view d).max n || nat_lt (load_on d (carried routes)).least (dir_at view d).htlc_min) (total_load d (carried routes))
        ∙ ap (λ b. nat_lt (dir_at view d).max (total_on d (carried routes)) || b) (below_load d (dir_at view d).htlc_min (carried routes) (htlc_min_fits view seen d (subst (λ (vs : List ViewDir). d < length vs) is l)))

pub oversize_all : (view : ViewParts) (dirs : List ViewDir) (loads all : List Load) (routes : List Route) → dirs ≡ view.dirs → loads ≡ all → ((d : ℕ) → d < length dirs → load_at all d ≡ load_on d (carried routes)) → filter (oversize_at dirs loads) (range_with_len 0 (length dirs)) ≡ oversize_dirs view (carried routes)
oversize_all view dirs loads all routes is same value =
    ap (λ ls. filter (oversize_at dirs ls) (range_with_len 0 (length dirs))) same
    ∙ filter_same (oversize_at dirs all) (is_above_maximum view (carried routes)) (range_with_len 0 (length dirs)) (λ k e l. each _ (in_range k e l))
    ∙ ap (λ n. filter (is_above_maximum view (carried routes)) (range_with_len 0 n)) (ap length is)
  where
    in_range : (k e : ℕ) → k < length (range_with_len 0 (length dirs)) → slice_index_or (range_with_len 0 (length dirs)) k e < length dirs
    in_range k e l =
        let n = length-range_with_len 0 (length dirs) in
        let at = get_or-range_with_len 0 (length dirs) k e (omega (arith, l, n)) in
        omega (arith, at, l, n)

    each : (d : ℕ) → d < length dirs → oversize_at dirs all d ≡ is_above_maximum view (carried routes) d
    each d l =
        let v = ap (λ (vs : List ViewDir). slice_index_or vs d no_dir) is in
        ap (λ (x : ViewDir). nat_lt x.htlc_max (load_at all d).most) v
        ∙ ap (λ (y : Load). nat_lt (dir_at view d).htlc_max y.most) (value d l)
        ∙ above_load d (dir_at view d).htlc_max (carried routes)

pub same_fault : (ds ds' es es' : List ℕ) (maxfee n n' : ℕ) (f f' : Fault) → ds ≡ ds' → es ≡ es' → n ≡ n' → f ≡ f' → or_listed Directions ds (or_listed Htlc es (cond (nat_lt maxfee n) (Fee n) f)) ≡ or_listed Directions ds' (or_listed Htlc es' (cond (nat_lt maxfee n') (Fee n') f'))
same_fault ds ds' es es' maxfee n n' f f' d e m g k = or_listed Directions (d k) (or_listed Htlc (e k) (cond (nat_lt maxfee (m k)) (Fee (m k)) (g k)))
