-- The probability, direction by direction.
use Rattle.std.proofs.Common.{ℕ, suc, ◌+◌, ◌-◌, ◌*◌, ◌/◌, ◌<◌, ◌≤◌, ◌≡◌, ◌^◌, List, [], ◌∷◌, sym, refl, ap, ◌∙◌, subst, arith, length}
use Rattle.std.specs.Prelude.{drop, slice_index_or}
use Rattle.std.proofs.Math.Nat.{div-le_of_le-mul}
use Rattle.std.proofs.Math.Seq.{drop-cons}
use Rattle.std.proofs.lemmas.Nat.{mul-le}
use Rattle.path_split.specs.declared.part.Part.{Part}
use Rattle.layer.specs.declared.ask.Ask.{Ask}
use Rattle.layer.specs.Ask.{IsGoodAsk}
use Rattle.view_build.specs.declared.view.ViewDir.{ViewDir}
use Rattle.view_build.specs.View.{ViewParts, IsGoodView}
use Rattle.round_rules.specs.declared.round.Fault.TheVariants.{None}
use Rattle.round_rules.specs.View.{no_dir}
use Rattle.round_rules.specs.State.{RoundState, IsGoodState}
use Rattle.round_rules.specs.Instance.{demand_of, instance_of}
use Rattle.round_rules.specs.Parts.{AreGoodParts}
use Rattle.round_rules.specs.Amounts.{routes_of, carried}
use Rattle.round_rules.specs.Faults.{fault_of}
use Rattle.round_rules.specs.Chance.{chance_of, chances, probability_of}
use Rattle.round_rules.proofs.Keeps.{keeps_limits, length-routes_with}
use Rattle.limit_rounds.specs.declared.loads.Load.{Load}
use Rattle.limit_rounds.specs.Loads.{load_at, load_on}
use Rattle.limit_rounds.proofs.Carried.{total_load}

pub chance_fits : (p more width : ℕ) → p ≤ 10 ^ 6 → more ≤ width → p * more / width ≤ 10 ^ 6
chance_fits p more width le few =
    let m = mul-le p more (10 ^ 6) width le few in
    div-le_of_le-mul width (omega (arith, m))

pub chance_turn : (total : ℕ → ℕ) (dirs : List ViewDir) (i p q : ℕ) (whole : ℕ) → i < length dirs → q ≡ chance_of (slice_index_or dirs i no_dir).min (slice_index_or dirs i no_dir).max (total i) p → chances total i p (drop i dirs) ≡ whole → chances total (i + 1) q (drop (i + 1) dirs) ≡ whole
chance_turn total dirs i p q whole l is old =
    let e : suc i ≡ i + 1 = omega arith in
    let v = slice_index_or dirs i no_dir in
    let a : chances total i p (drop i dirs) ≡ chances total (i + 1) q (drop (i + 1) dirs) = ap (chances total i p) (drop-cons dirs i no_dir l) ∙ ap (λ n. chances total n (chance_of v.min v.max (total i) p) (drop n dirs)) e ∙ ap (λ y. chances total (i + 1) y (drop (i + 1) dirs)) (sym is) in
    sym a ∙ old

chances_same : (f g : ℕ → ℕ) (dir p : ℕ) (dirs : List ViewDir) → ((d : ℕ) → dir ≤ d → d < dir + length dirs → f d ≡ g d) → chances f dir p dirs ≡ chances g dir p dirs
chances_same f g dir p [] same = refl
chances_same f g dir p (v ∷ dirs) same =
    ap (λ n. chances f (suc dir) (chance_of v.min v.max n p) dirs) (same dir (omega arith) (omega arith))
    ∙ chances_same f g (suc dir) (chance_of v.min v.max (g dir) p) dirs (λ d l m. same d (omega (arith, l)) (omega (arith, m)))

pub same_probability : (view : ViewParts) (dirs : List ViewDir) (loads all : List Load) (total : ℕ → ℕ) → dirs ≡ view.dirs → loads ≡ all → ((d : ℕ) → d < length dirs → (load_at all d).total ≡ total d) → probability_of (λ d. (load_at loads d).total) dirs ≡ probability_of total view.dirs
same_probability view dirs loads all total is same value =
    ap (λ (ls : List Load). probability_of (λ d. (load_at ls d).total) dirs) same
    ∙ chances_same (λ d. (load_at all d).total) total 0 (10 ^ 6) dirs (λ d l m. value d (omega (arith, m)))
    ∙ ap (probability_of total) is

-- a round without a fault has few parts, and keeps the limits of directions
pub few_parts : (view : ViewParts) (ask : Ask) (s : RoundState) (size : ℕ) (parts : List Part) → IsGoodView view → IsGoodAsk ask → IsGoodState view ask s → AreGoodParts (instance_of view ask s) size parts → fault_of view ask s parts ≡ None → length parts ≤ 100
few_parts view ask s size parts seen good state are none =
    let k = keeps_limits view ask seen good s state.some_unit size parts are none in
    let few = k.few in
    let n = length-routes_with view ask s.unit (demand_of ask.amount s * s.unit - ask.amount) parts in
    let most = seen.few_parts in
    omega (arith, few, n, most)

pub totals_within : (view : ViewParts) (ask : Ask) (s : RoundState) (size : ℕ) (parts : List Part) (dirs : List ViewDir) (loads all : List Load) → IsGoodView view → IsGoodAsk ask → IsGoodState view ask s → AreGoodParts (instance_of view ask s) size parts → fault_of view ask s parts ≡ None → dirs ≡ view.dirs → loads ≡ all → ((d : ℕ) → d < length dirs → load_at all d ≡ load_on d (carried (routes_of view ask s parts))) → (d : ℕ) → d < length dirs → (load_at loads d).total ≤ (slice_index_or dirs d no_dir).max
totals_within view ask s size parts dirs loads all seen good state are none is same value d l =
    let k = keeps_limits view ask seen good s state.some_unit size parts are none in
    let t = k.totals d (subst (λ (vs : List ViewDir). d < length vs) is l) in
    let e = ap (λ (ls : List Load). (load_at ls d).total) same ∙ ap (λ (x : Load). x.total) (value d l) ∙ total_load d (carried (routes_of view ask s parts)) in
    let v = ap (λ (vs : List ViewDir). (slice_index_or vs d no_dir).max) is in
    omega (arith, t, e, v)
