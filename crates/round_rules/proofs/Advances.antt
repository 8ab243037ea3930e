-- Each next state is nearer to the end.
use Rattle.std.proofs.Common.{ℕ, zero, suc, ◌+◌, ◌-◌, ◌*◌, ◌/◌, ◌<◌, ◌≤◌, ◌≡◌, Bool, true, false, cond, List, [], ◌∷◌, sym, refl, ap, ◌∙◌, subst, ◌⊎◌, inl, inr, ⊎_elim, arith, length}
use Rattle.std.specs.Prelude.{All, sum_by, nat_eq, nat_lt, ◌||◌, ◌&&◌, not, filter, nat_le}
use Rattle.std.specs.List.{list_any}
use Rattle.std.specs.Int.{div_ceil}
use Rattle.std.proofs.lemmas.Bool.{cases_lt, eq-eqb, eqb-true, eqb-false, ltb-true, lt-ltb, le-ltb, false≢true}
use Rattle.std.proofs.lemmas.Grind.{div_ceil_times}
use Rattle.std.proofs.lemmas.Nat.{mul-le}
use Rattle.std.proofs.lemmas.List.Elements.{All-head, All-tail, All-cons, All-nil}
use Rattle.std.proofs.lemmas.List.Sums.{sum_by-cons}
use Rattle.path_split.specs.declared.part.Part.{Part}
use Rattle.path_split.specs.Parts.{units_on}
use Rattle.path_split.proofs.Shares.{count_some}
use Rattle.plan_base.specs.declared.amount.TheConstants.{MAX}
use Rattle.layer.specs.declared.ask.Ask.{Ask}
use Rattle.round_rules.specs.declared.round.Fault.{Fault}
use Rattle.round_rules.specs.declared.round.Fault.TheVariants.{TooManyParts, Directions, Htlc, Fee, Delay}
use Rattle.round_rules.specs.declared.round.Route.{Route}
use Rattle.view_build.specs.View.{ViewParts, IsGoodView}
use Rattle.round_rules.specs.View.{dir_at}
use Rattle.round_rules.specs.State.{RoundState}
use Rattle.round_rules.specs.declared.round.Cap.{Cap}
use Rattle.round_rules.specs.State.{IsGoodState}
use Rattle.round_rules.specs.Parts.{AreGoodParts}
use Rattle.round_rules.specs.Instance.{times_in, demand_of, instance_of}
use Rattle.round_rules.specs.Amounts.{routes_of, carried, total_on, any_below, fees_of, delay_of}
use Rattle.round_rules.specs.Faults.{limit_of, is_over_limit, is_below_minimum, is_above_maximum, all_dirs, faulty_dirs, oversize_dirs, first_late, or_listed, fault_of_routes, fault_of}
use Rattle.round_rules.specs.Next.{coarse_unit, caps_after, is_listed, cap_within_limit, can_halve, next_state}
use Rattle.layer.specs.Ask.{IsGoodAsk}
use Rattle.round_rules.specs.Runs.{is_last}
use Rattle.round_rules.proofs.Caps.{spent, spent_most, spent_kept, spent_rises, order_after, all_after, times_most, closed_cap, place_in}
use Rattle.round_rules.proofs.Listed.{nothing_total, nothing_below, nothing_above, closed_room}

-- how often a level or a direction's times can still rise
abbrev pub rises_left : ViewParts → RoundState → ℕ
rises_left view s = (8 - s.fee_level) + (5 - s.delay_level) + (length view.dirs * 3 - spent view s.caps)

-- 1 as long as a flow of the unit can have too many parts
abbrev pub can_be_many : ViewParts → Ask → RoundState → ℕ
can_be_many view ask s = cond (nat_lt view.maxparts (demand_of ask.amount s)) 1 0

abbrev pub IsNearer : ViewParts → Ask → RoundState → RoundState → Type 0
IsNearer view ask s t =
    ((can_be_many view ask t ≡ can_be_many view ask s) × (rises_left view t < rises_left view s) × (t.size ≤ s.size))
    ⊎ (((can_be_many view ask t ≡ can_be_many view ask s) × (rises_left view t ≤ rises_left view s) × (2 ≤ s.size) × (t.size ≡ s.size / 2))
    ⊎ ((can_be_many view ask s ≡ 1) × (can_be_many view ask t ≡ 0) × (t.fee_level ≡ s.fee_level) × (t.delay_level ≡ s.delay_level) × (t.size ≤ view.maxparts)))

pub record Advances (view : ViewParts) (ask : Ask) (s t : RoundState) : Type 0 where
  pub good : IsGoodState view ask t
  pub nearer : IsNearer view ask s t

filter_all : (p : ℕ → Bool) (P AdvancesAfter : ℕ → Type 0) (xs : List ℕ) → ((x : ℕ) → P x → p x ≡ true → AdvancesAfter x) → All P xs → All AdvancesAfter (filter p xs)
filter_all p P AdvancesAfter [] each all = All-nil AdvancesAfter
filter_all p P AdvancesAfter (x ∷ xs) each all = by (p x) refl (filter_all p P AdvancesAfter xs each (All-tail P x xs all))
  where
    by : (b : Bool) → p x ≡ b → All AdvancesAfter (filter p xs) → All AdvancesAfter (cond b (x ∷ filter p xs) (filter p xs))
    by true e rest' = All-cons AdvancesAfter x (filter p xs) (each x (All-head P x xs all) e) rest'
    by false e rest' = rest'

holds_of_listed : (P : ℕ → Type 0) (ds : List ℕ) (x : ℕ) → All P ds → is_listed ds x ≡ true → P x
holds_of_listed P [] x all e = absurd (false≢true e)
holds_of_listed P (d ∷ ds) x all e = by (nat_eq x d) refl (holds_of_listed P ds x (All-tail P d ds all)) e
  where
    by : (b : Bool) → nat_eq x d ≡ b → (is_listed ds x ≡ true → P x) → (b || is_listed ds x) ≡ true → P x
    by true f rest' e = subst P (sym (eqb-true x d f)) (All-head P d ds all)
    by false f rest' e = rest' e

or_false : (a b : Bool) → (a || b) ≡ false → a ≡ false
or_false true b e = e
or_false false b e = refl

first_of_any : (g : ℕ → Bool) (b : Bool) (ds : List ℕ) → list_any (λ x. b && g x) ds ≡ true → b ≡ true
first_of_any g true ds e = refl
first_of_any g false [] e = e
first_of_any g false (d ∷ ds) e = first_of_any g false ds e

few_parts : (parts : List Part) → All (λ (p : Part). 1 ≤ p.units) parts → length parts ≤ sum_by (λ (p : Part). p.units) parts
few_parts [] some = omega arith
few_parts (p ∷ parts) some =
    let one = All-head (λ (x : Part). 1 ≤ x.units) p parts some in
    omega (arith, one, few_parts parts (All-tail (λ (x : Part). 1 ≤ x.units) p parts some), sum_by-cons (λ (x : Part). x.units) p parts)

-- the coarse unit leaves at most as many units as there may be parts
coarse_few : (a m q c : ℕ) → a ≤ q * m → c * q < a + q → c ≤ m
coarse_few a m q c le lt = ⊎_elim
    (λ (k : m < c). let qq : q ≤ q = omega arith in let h = mul-le (m + 1) q c q (omega (arith, k)) qq in absurd (omega (arith, h, le, lt)))
    (λ (k : c ≤ m). k)
    (cases_lt m c)

some_from : (c q a : ℕ) → a ≤ c * q → 1 ≤ a → 1 ≤ c
some_from zero q a le some = absurd (omega (arith, le, some))
some_from (suc c) q a le some = omega arith

module _ (view : ViewParts) (ask : Ask) (seen : IsGoodView view) (good : IsGoodAsk ask) (s : RoundState) (good_state : IsGoodState view ask s) (size : ℕ) (parts : List Part) (good_parts : AreGoodParts (instance_of view ask s) size parts) where
  n : ℕ
  n = length view.dirs

  -- a listed direction was listed at most twice before
  abbrev IsListedTwiceAtMost : ℕ → Type 0
  IsListedTwiceAtMost d = (d < length view.dirs) × (times_in s.caps d ≤ 2)

  none_on : (d : ℕ) → d < length view.dirs → 3 ≤ times_in s.caps d → units_on d parts ≡ 0
  none_on d l three =
      let h = good_parts.fits d in
      let z = closed_room ask.amount s d (closed_cap s.caps good_state.closed d (demand_of ask.amount s) three) 0 view.dirs in
      omega (arith, h, z)

  faulty_twice_at_most : (d : ℕ) → d < length view.dirs → (is_over_limit view (carried (routes_of view ask s parts)) d || is_below_minimum view (carried (routes_of view ask s parts)) d) ≡ true → IsListedTwiceAtMost d
  faulty_twice_at_most d l e = ⊎_elim
      (λ (k : times_in s.caps d < 3). (l, omega (arith, k)))
      (λ (k : 3 ≤ times_in s.caps d).
      let z = none_on d l k in
      let short = demand_of ask.amount s * s.unit - ask.amount in
      let t = nothing_total view ask s.unit short d parts good_parts.some z in
      let b = nothing_below view ask s.unit short d parts good_parts.some z (dir_at view d).htlc_min in
      let o : is_over_limit view (carried (routes_of view ask s parts)) d ≡ false = le-ltb (limit_of view d) (total_on d (carried (routes_of view ask s parts))) (omega (arith, t)) in
      absurd (false≢true (sym (ap (λ x. x || any_below d (dir_at view d).htlc_min (carried (routes_of view ask s parts))) o ∙ b) ∙ e)))
      (cases_lt (times_in s.caps d) 3)

  oversize_twice_at_most : (d : ℕ) → d < length view.dirs → is_above_maximum view (carried (routes_of view ask s parts)) d ≡ true → IsListedTwiceAtMost d
  oversize_twice_at_most d l e = ⊎_elim
      (λ (k : times_in s.caps d < 3). (l, omega (arith, k)))
      (λ (k : 3 ≤ times_in s.caps d).
      let z = none_on d l k in
      let short = demand_of ask.amount s * s.unit - ask.amount in
      let b = nothing_above view ask s.unit short d parts good_parts.some z (dir_at view d).htlc_max in
      absurd (false≢true (sym b ∙ e)))
      (cases_lt (times_in s.caps d) 3)

  all_faulty : All IsListedTwiceAtMost (faulty_dirs view (carried (routes_of view ask s parts)))
  all_faulty = filter_all _ (λ d. d < length view.dirs) IsListedTwiceAtMost (all_dirs view) faulty_twice_at_most (place_in view)

  all_oversize : All IsListedTwiceAtMost (oversize_dirs view (carried (routes_of view ask s parts)))
  all_oversize = filter_all _ (λ d. d < length view.dirs) IsListedTwiceAtMost (all_dirs view) oversize_twice_at_most (place_in view)

  -- caps stay good if only faulty_parts are listed that were listed at most twice before
  module _ (listed : ℕ → Bool) (cap : ℕ → ℕ) (twice_at_most : (d : ℕ) → listed d ≡ true → times_in s.caps d ≤ 2) where
    abbrev after : List Cap
    after = caps_after view s.caps listed cap

    within_after : All (λ (c : Cap). c.dir < length view.dirs) after
    within_after = all_after view s.caps listed cap (λ (c : Cap). c.dir < length view.dirs) (λ d l e. l) good_state.within

    some_after : All (λ (c : Cap). 1 ≤ c.times) after
    some_after = all_after view s.caps listed cap (λ (c : Cap). 1 ≤ c.times) (λ d l e. omega arith) good_state.some_times

    times_after_most : All (λ (c : Cap). c.times ≤ 3) after
    times_after_most = all_after view s.caps listed cap (λ (c : Cap). c.times ≤ 3) (λ d l e. let o = twice_at_most d e in omega (arith, o)) good_state.most_times

    closed_after_three : All (λ (c : Cap). 3 ≤ c.times → c.cap ≡ 0) after
    closed_after_three = all_after view s.caps listed cap (λ (c : Cap). 3 ≤ c.times → c.cap ≡ 0) (λ d l e three. ap (λ b. cond b (cap d) 0) (le-ltb (times_in s.caps d) 2 (omega (arith, three)))) good_state.closed

    spent_after_most : spent view after ≤ length view.dirs * 3
    spent_after_most = spent_most view after (λ d l. times_most after times_after_most d)

    -- the same state with these caps, and with another size
    good_after : (size' : ℕ) → 1 ≤ size' → size' ≤ MAX → IsGoodState view ask (record s { size = size'; caps = after })
    good_after size' some most = record {
      some_unit = good_state.some_unit;
      most_unit = good_state.most_unit;
      fee = good_state.fee;
      delay = good_state.delay;
      some_size = some;
      most_size = most;
      order = order_after view s.caps listed cap;
      within = within_after;
      some_times = some_after;
      most_times = times_after_most;
      closed = closed_after_three;
    }

  abbrev AdvancesAfter : Fault → Type 0
  AdvancesAfter f = is_last s f ≡ false → Advances view ask s (next_state view ask s parts f)

  many_parts : view.maxparts < length parts → AdvancesAfter TooManyParts
  many_parts more e =
      let a = ask.amount in
      let m = view.maxparts in
      let q = coarse_unit view ask in
      let c = div_ceil a q in
      let first = div_ceil_times a m (let h = seen.some_parts in omega (arith, h)) in
      let q_some : 1 ≤ q = some_from q m a first.0 good.some in
      let second = div_ceil_times a q (omega (arith, q_some)) in
      let few : c ≤ m = coarse_few a m q c first.0 second.1 in
      let c_some : 1 ≤ c = some_from c q a second.0 good.some in
      let count = few_parts parts good_parts.some in
      let sent = good_parts.sent in
      record {
        good = record {
          some_unit = q_some;
          most_unit = let h = count_some a m good.some seen.some_parts in omega (arith, h);
          fee = good_state.fee;
          delay = good_state.delay;
          some_size = c_some;
          most_size = let h = count_some a q good.some q_some in let amount = good.most in omega (arith, h, amount);
          order = λ i j d l less. absurd (omega (arith, l, less));
          within = All-nil (λ (x : Cap). x.dir < length view.dirs);
          some_times = All-nil (λ (x : Cap). 1 ≤ x.times);
          most_times = All-nil (λ (x : Cap). x.times ≤ 3);
          closed = All-nil (λ (x : Cap). 3 ≤ x.times → x.cap ≡ 0);
        };
        nearer = inr (inr (
          ap {B = ℕ} (λ b. cond b 1 0) (lt-ltb m (demand_of a s) (omega (arith, more, count, sent))),
          ap {B = ℕ} (λ b. cond b 1 0) (le-ltb m c few),
          refl,
          refl,
          few,
        ));
      }

  faulty_parts : (d : ℕ) (ds : List ℕ) → All IsListedTwiceAtMost (d ∷ ds) → AdvancesAfter (Directions (d ∷ ds))
  faulty_parts d ds listed_before e =
      let listed = is_listed (d ∷ ds) in
      let cap = cap_within_limit view ask s parts in
      let twice_at_most : (x : ℕ) → listed x ≡ true → times_in s.caps x ≤ 2 = λ x h. (holds_of_listed IsListedTwiceAtMost (d ∷ ds) x listed_before h).1 in
      let head = All-head IsListedTwiceAtMost d ds listed_before in
      let here : listed d ≡ true = ap (λ b. b || is_listed ds d) (eq-eqb d d refl) in
      let rises = spent_rises view s.caps listed cap d head.0 here in
      let most = spent_after_most listed cap twice_at_most in
      record {
        good = good_after listed cap twice_at_most s.size good_state.some_size good_state.most_size;
        nearer = inl (refl, omega (arith, rises, most), omega arith);
      }

  oversize_parts : (d : ℕ) (ds : List ℕ) → All IsListedTwiceAtMost (d ∷ ds) → AdvancesAfter (Htlc (d ∷ ds))
  oversize_parts d ds listed_before e = by (list_any (can_halve view ask s.size) (d ∷ ds)) refl
    where
      first_true : (a b : Bool) → (a && b) ≡ true → a ≡ true
      first_true true b h = refl
      first_true false b h = h

      twice_at_most : (x : ℕ) → (is_listed (d ∷ ds) x && not (can_halve view ask s.size x)) ≡ true → times_in s.caps x ≤ 2
      twice_at_most x h = (holds_of_listed IsListedTwiceAtMost (d ∷ ds) x listed_before (first_true (is_listed (d ∷ ds) x) (not (can_halve view ask s.size x)) h)).1

      by : (b : Bool) → list_any (can_halve view ask s.size) (d ∷ ds) ≡ b → Advances view ask s (record s { size = cond b (s.size / 2) s.size; caps = caps_after view s.caps (λ x. is_listed (d ∷ ds) x && not (can_halve view ask s.size x)) (λ x. 0) })
      by true h =
          let l : ℕ → Bool = λ x. is_listed (d ∷ ds) x && not (can_halve view ask s.size x) in
          let z : ℕ → ℕ = λ x. 0 in
          let big : 1 < s.size = ltb-true 1 s.size (first_of_any (λ x. nat_le (coarse_unit view ask) (dir_at view x).htlc_max) (nat_lt 1 s.size) (d ∷ ds) h) in
          let keeps_limits = spent_kept view s.caps l z in
          let w = good_state.most_size in
          record {
            good = good_after l z twice_at_most (s.size / 2) (omega (arith, big)) (omega (arith, w));
            nearer = inr (inl (refl, omega (arith, keeps_limits), omega (arith, big), refl));
          }
      by false h =
          let l : ℕ → Bool = λ x. is_listed (d ∷ ds) x && not (can_halve view ask s.size x) in
          let z : ℕ → ℕ = λ x. 0 in
          let head = All-head IsListedTwiceAtMost d ds listed_before in
          let no_half = or_false (can_halve view ask s.size d) (list_any (can_halve view ask s.size) ds) h in
          let here : (is_listed (d ∷ ds) d && not (can_halve view ask s.size d)) ≡ true = ap (λ b. (b || is_listed ds d) && not (can_halve view ask s.size d)) (eq-eqb d d refl) ∙ ap not no_half in
          let rises = spent_rises view s.caps l z d head.0 here in
          let most = spent_after_most l z twice_at_most in
          record {
            good = good_after l z twice_at_most s.size good_state.some_size good_state.most_size;
            nearer = inl (refl, omega (arith, rises, most), omega arith);
          }

  fee_rises : (f : ℕ) → AdvancesAfter (Fee f)
  fee_rises f e =
      let ne = eqb-false s.fee_level 8 e in
      let le = good_state.fee in
      let less : s.fee_level + 1 ≤ 8 = ⊎_elim (λ (k : s.fee_level < 8). omega (arith, k)) (λ (k : 8 ≤ s.fee_level). absurd (ne (omega (arith, k, le)))) (cases_lt s.fee_level 8) in
      record {
        good = record { some_unit = good_state.some_unit; most_unit = good_state.most_unit; fee = less; delay = good_state.delay; some_size = good_state.some_size; most_size = good_state.most_size; order = good_state.order; within = good_state.within; some_times = good_state.some_times; most_times = good_state.most_times; closed = good_state.closed };
        nearer = inl (refl, omega (arith, less), omega arith);
      }

  delay_rises : (p x : ℕ) → AdvancesAfter (Delay p x)
  delay_rises p x e =
      let ne = eqb-false s.delay_level 5 e in
      let le = good_state.delay in
      let less : s.delay_level + 1 ≤ 5 = ⊎_elim (λ (k : s.delay_level < 5). omega (arith, k)) (λ (k : 5 ≤ s.delay_level). absurd (ne (omega (arith, k, le)))) (cases_lt s.delay_level 5) in
      record {
        good = record { some_unit = good_state.some_unit; most_unit = good_state.most_unit; fee = good_state.fee; delay = less; some_size = good_state.some_size; most_size = good_state.most_size; order = good_state.order; within = good_state.within; some_times = good_state.some_times; most_times = good_state.most_times; closed = good_state.closed };
        nearer = inl (refl, omega (arith, less), omega arith);
      }

  after_late : (k : ℕ) (routes : List Route) → AdvancesAfter (first_late ask k routes)
  after_late k [] e = absurd (false≢true (sym e))
  after_late k (r ∷ routes) e = by (nat_lt ask.maxdelay (delay_of ask r)) (after_late (k + 1) routes) e
    where
      by : (b : Bool) → AdvancesAfter (first_late ask (k + 1) routes) → AdvancesAfter (cond b (Delay k (delay_of ask r)) (first_late ask (k + 1) routes))
      by true q = delay_rises k (delay_of ask r)
      by false q = q

  after_fees : (b : Bool) (f : ℕ) (other : Fault) → AdvancesAfter other → AdvancesAfter (cond b (Fee f) other)
  after_fees true f other q = fee_rises f
  after_fees false f other q = q

  after_oversize : (ds : List ℕ) (other : Fault) → All IsListedTwiceAtMost ds → AdvancesAfter other → AdvancesAfter (or_listed Htlc ds other)
  after_oversize [] other listed_before q = q
  after_oversize (d ∷ ds) other listed_before q = oversize_parts d ds listed_before

  after_faulty : (ds : List ℕ) (other : Fault) → All IsListedTwiceAtMost ds → AdvancesAfter other → AdvancesAfter (or_listed Directions ds other)
  after_faulty [] other listed_before q = q
  after_faulty (d ∷ ds) other listed_before q = faulty_parts d ds listed_before

  after_many : (b : Bool) (other : Fault) → nat_lt view.maxparts (length parts) ≡ b → AdvancesAfter other → AdvancesAfter (cond b TooManyParts other)
  after_many true other e q = many_parts (ltb-true view.maxparts (length parts) e)
  after_many false other e q = q

  pub advances : is_last s (fault_of view ask s parts) ≡ false → Advances view ask s (next_state view ask s parts (fault_of view ask s parts))
  advances =
      let routes = routes_of view ask s parts in
      let ls = carried routes in
      after_many (nat_lt view.maxparts (length parts)) (fault_of_routes view ask routes) refl
      (after_faulty (faulty_dirs view ls) _ all_faulty (after_oversize (oversize_dirs view ls) _ all_oversize (after_fees (nat_lt ask.maxfee (fees_of routes)) (fees_of routes) (first_late ask 0 routes) (after_late 0 routes))))
