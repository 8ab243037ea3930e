-- How many rounds a run can have.
use Rattle.std.proofs.Common.{ℕ, zero, suc, ◌+◌, ◌*◌, ◌/◌, ◌<◌, ◌≤◌, ◌≡◌, Bool, true, false, cond, List, [], ◌∷◌, sym, ap, ◌∙◌, subst, ⊎_elim, arith, length}
use Rattle.std.specs.Prelude.{nat_lt}
use Rattle.std.proofs.lemmas.List.Elements.{All-nil}
use Rattle.layer.specs.declared.ask.Ask.{Ask}
use Rattle.round_rules.specs.declared.round.Round.{Round}
use Rattle.view_build.specs.View.{ViewParts, IsGoodView}
use Rattle.round_rules.specs.State.{RoundState}
use Rattle.round_rules.specs.declared.round.Cap.{Cap}
use Rattle.round_rules.specs.State.{first_state, state_of, IsGoodState}
use Rattle.round_rules.specs.Instance.{demand_of}
use Rattle.round_rules.specs.Faults.{fault_of}
use Rattle.round_rules.specs.Next.{next_state}
use Rattle.layer.specs.Ask.{IsGoodAsk}
use Rattle.round_rules.specs.Runs.{HasCheapestParts, IsRunFrom, is_last}
use Rattle.round_rules.specs.Laws.{RoundsAreFew}
use Rattle.round_rules.proofs.Advances.{Advances, rises_left, can_be_many, advances}

abbrev pub pow2 : ℕ → ℕ
pow2 zero = 1
pow2 (suc h) = 2 * pow2 h

pub step_of : (view : ViewParts) (ask : Ask) (s : RoundState) (r : Round) → IsGoodView view → IsGoodAsk ask → IsGoodState view ask s → state_of r ≡ s → HasCheapestParts view ask (state_of r) r.parts r.fault → is_last s r.fault ≡ false → Advances view ask s (next_state view ask s r.parts r.fault)
step_of view ask s r seen good good_state same solved goes =
    let f : r.fault ≡ fault_of view ask s r.parts = solved.fault_is ∙ ap (λ x. fault_of view ask x r.parts) same in
    subst (λ x. Advances view ask s (next_state view ask s r.parts x)) (sym f)
    (subst (λ x. IsGoodState view ask x → is_last x (fault_of view ask x r.parts) ≡ false → Advances view ask x (next_state view ask x r.parts (fault_of view ask x r.parts))) same
    (λ good_state' e. advances view ask seen good (state_of r) good_state' r.size r.parts solved.good e)
    good_state
    (ap (is_last s) (sym f) ∙ goes))

pub can_be_many_once : (view : ViewParts) (ask : Ask) (s : RoundState) → can_be_many view ask s ≤ 1
can_be_many_once view ask s = by (nat_lt view.maxparts (demand_of ask.amount s))
  where
    by : (b : Bool) → cond b 1 0 ≤ 1
    by true = omega arith
    by false = omega arith

count : (view : ViewParts) (ask : Ask) (seen : IsGoodView view) (good : IsGoodAsk ask) (rounds : List Round) (s : RoundState) (h : ℕ) → IsGoodState view ask s → s.size < pow2 (suc h) → IsRunFrom view ask s rounds → length rounds ≤ rises_left view s + h + can_be_many view ask s * (length view.dirs * 3 + 7) + 1
count view ask seen good [] s h good_state small follows = absurd follows
count view ask seen good (r ∷ []) s h good_state small follows = omega arith
count view ask seen good (r ∷ q ∷ rounds) s h good_state small follows =
    let t = next_state view ask s r.parts r.fault in
    let f = step_of view ask s r seen good good_state follows.0 follows.1 follows.2 in
    let again : (k : ℕ) → t.size < pow2 (suc k) → length (q ∷ rounds) ≤ rises_left view t + k + can_be_many view ask t * (length view.dirs * 3 + 7) + 1 = λ k small_after. count view ask seen good (q ∷ rounds) t k f.good small_after follows.3 in
    ⊎_elim
    (λ (x : (can_be_many view ask t ≡ can_be_many view ask s) × (rises_left view t < rises_left view s) × (t.size ≤ s.size)).
    let i = again h (omega (arith, x.2, small)) in
    let p = ap (λ m. m * (length view.dirs * 3 + 7)) x.0 in
    omega (arith, i, p, x.1))
    (λ y. ⊎_elim
    (λ (x : (can_be_many view ask t ≡ can_be_many view ask s) × (rises_left view t ≤ rises_left view s) × (2 ≤ s.size) × (t.size ≡ s.size / 2)). halved t h again small x.0 x.1 x.2 x.3)
    (λ (x : (can_be_many view ask s ≡ 1) × (can_be_many view ask t ≡ 0) × (t.fee_level ≡ s.fee_level) × (t.delay_level ≡ s.delay_level) × (t.size ≤ view.maxparts)).
    let i = again 6 (let m = seen.few_parts in omega (arith, x.4, m)) in
    let p = ap (λ m. m * (length view.dirs * 3 + 7)) x.0 in
    let p' = ap (λ m. m * (length view.dirs * 3 + 7)) x.1 in
    omega (arith, i, p, p', x.2, x.3))
    y)
    f.nearer
  where
    halved : (t : RoundState) (h : ℕ) → ((k : ℕ) → t.size < pow2 (suc k) → length (q ∷ rounds) ≤ rises_left view t + k + can_be_many view ask t * (length view.dirs * 3 + 7) + 1) → s.size < pow2 (suc h) → can_be_many view ask t ≡ can_be_many view ask s → rises_left view t ≤ rises_left view s → 2 ≤ s.size → t.size ≡ s.size / 2 → suc (length (q ∷ rounds)) ≤ rises_left view s + h + can_be_many view ask s * (length view.dirs * 3 + 7) + 1
    halved t zero again small p less big half = absurd (omega (arith, small, big))
    halved t (suc h) again small p less big half =
        let i = again h (omega (arith, half, small)) in
        let m = ap (λ n. n * (length view.dirs * 3 + 7)) p in
        omega (arith, i, m, less)

pub first_good : (view : ViewParts) (ask : Ask) → IsGoodAsk ask → IsGoodState view ask (first_state ask.amount)
first_good view ask good = record {
  some_unit = omega arith;
  most_unit = good.some;
  fee = omega arith;
  delay = omega arith;
  some_size = good.some;
  most_size = good.most;
  order = λ i j d l less. absurd (omega (arith, l, less));
  within = All-nil (λ (x : Cap). x.dir < length view.dirs);
  some_times = All-nil (λ (x : Cap). 1 ≤ x.times);
  most_times = All-nil (λ (x : Cap). x.times ≤ 3);
  closed = All-nil (λ (x : Cap). 3 ≤ x.times → x.cap ≡ 0);
}

pub rounds_are_few : RoundsAreFew
rounds_are_few view ask rounds seen good follows =
    let s = first_state ask.amount in
    let most = good.most in
    let small : ask.amount < pow2 61 = omega (arith, most) in
    let h = count view ask seen good rounds s 60 (first_good view ask good) small follows in
    let p = can_be_many_once view ask s in
    let m = product (can_be_many view ask s) (length view.dirs * 3 + 7) p in
    omega (arith, h, m)
  where
    product : (p x : ℕ) → p ≤ 1 → p * x ≤ x
    product zero x le = omega arith
    product (suc zero) x le = omega arith
    product (suc (suc p)) x le = absurd (omega (arith, le))
