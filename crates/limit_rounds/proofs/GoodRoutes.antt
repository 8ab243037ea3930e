-- The routes of good parts: their hops, and what they carry.
use Rattle.std.proofs.Common.{ℕ, suc, ◌+◌, ◌-◌, ◌*◌, ◌<◌, ◌≤◌, ◌≡◌, Bool, true, false, cond, List, [], ◌∷◌, refl, ap, ◌∙◌, arith, length, map}
use Rattle.std.specs.Prelude.{All, zip, nat_eq, slice_index_or}
use Rattle.std.proofs.lemmas.Nat.{mul-le}
use Rattle.std.proofs.lemmas.Grind.{div_ceil_times}
use Rattle.std.proofs.lemmas.List.{length-map}
use Rattle.std.proofs.lemmas.List.Elements.{All-head, All-tail, All-cons, All-nil}
use Rattle.std.proofs.lemmas.List.Sums.{sum_by-append, sum_by-le, get_or-le-sum_by}
use Rattle.std.proofs.lemmas.Slice.Zip.{length-zip}
use Rattle.plan_base.specs.declared.amount.TheConstants.{MAX}
use Rattle.plan_base.specs.declared.fee.Toll.{Toll}
use Rattle.fee_backward.specs.declared.hop.Hop.{Hop}
use Rattle.fee_backward.specs.Hop.{amounts_of, carried_before}
use Rattle.path_split.specs.declared.part.Part.{Part}
use Rattle.layer.specs.declared.ask.Ask.{Ask}
use Rattle.layer.specs.Ask.{IsGoodAsk}
use Rattle.view_build.specs.View.{ViewParts, IsGoodView}
use Rattle.round_rules.specs.declared.round.Route.{Route}
use Rattle.round_rules.specs.View.{dir_at}
use Rattle.round_rules.specs.State.{RoundState, IsGoodState}
use Rattle.round_rules.specs.Instance.{demand_of, instance_of}
use Rattle.round_rules.specs.Parts.{AreGoodParts}
use Rattle.round_rules.specs.Amounts.{toll_of, route_of, routes_with, routes_of, carried_of, carried, total_on}
use Rattle.round_rules.proofs.Keeps.{paths_within, length-routes_with}
use Rattle.limit_rounds.specs.Loads.{AreGoodRoutes}

pub length-amounts_of : (tolls : List Toll) (delivered final_cltv : ℕ) → length (amounts_of tolls delivered final_cltv) ≡ length tolls
length-amounts_of [] delivered final_cltv = refl
length-amounts_of (t ∷ tolls) delivered final_cltv = ap suc (length-amounts_of tolls delivered final_cltv)

-- a hop carries at most what is delivered or MAX + 1
carried_most : (tolls : List Toll) (delivered final_cltv most : ℕ) → delivered ≤ most → MAX + 1 ≤ most → All (λ (h : Hop). h.carried ≤ most) (amounts_of tolls delivered final_cltv) × (carried_before (amounts_of tolls delivered final_cltv) delivered ≤ most)
carried_most [] delivered final_cltv most le large = (All-nil (λ (h : Hop). h.carried ≤ most), le)
carried_most (t ∷ tolls) delivered final_cltv most le large =
    let rest = carried_most tolls delivered final_cltv most le large in
    (All-cons (λ (h : Hop). h.carried ≤ most) _ (amounts_of tolls delivered final_cltv) rest.1 rest.0, omega (arith, large))

-- what holds of each part's route, however much of its units it delivers, holds of all routes
all_routes : (view : ViewParts) (ask : Ask) (unit less : ℕ) (P : Route → Type 0) (parts : List Part) → All (λ (p : Part). (delivered : ℕ) → delivered ≤ p.units * unit → P (route_of view ask p.path delivered)) parts → All P (routes_with view ask unit less parts)
all_routes view ask unit less P [] each = All-nil P
all_routes view ask unit less P (p ∷ []) each = All-cons P (route_of view ask p.path (p.units * unit - less)) [] (All-head (λ (q : Part). (delivered : ℕ) → delivered ≤ q.units * unit → P (route_of view ask q.path delivered)) p [] each (p.units * unit - less) (omega arith)) (All-nil P)
all_routes view ask unit less P (p ∷ q ∷ parts) each =
    let Q : Part → Type 0 = λ (x : Part). (delivered : ℕ) → delivered ≤ x.units * unit → P (route_of view ask x.path delivered) in
    All-cons P (route_of view ask p.path (p.units * unit)) (routes_with view ask unit less (q ∷ parts)) (All-head Q p (q ∷ parts) each (p.units * unit) (omega arith)) (all_routes view ask unit less P (q ∷ parts) (All-tail Q p (q ∷ parts) each))

-- so many routes, each of so many hops, each of which carries so much
total_most : (d nodes most : ℕ) (routes : List Route) → All (λ (r : Route). length r.path ≤ nodes) routes → All (λ (r : Route). length r.hops ≡ length r.path) routes → All (λ (r : Route). All (λ (h : Hop). h.carried ≤ most) r.hops) routes → total_on d (carried routes) ≤ length routes * (nodes * most)
total_most d nodes most [] short long small = omega arith
total_most d nodes most (r ∷ routes) short long small =
    let S : Route → Type 0 = λ (x : Route). length x.path ≤ nodes in
    let L : Route → Type 0 = λ (x : Route). length x.hops ≡ length x.path in
    let C : Route → Type 0 = λ (x : Route). All (λ (h : Hop). h.carried ≤ most) x.hops in
    let term : ℕ × Hop → ℕ = λ (l : ℕ × Hop). cond (nat_eq l.0 d) l.1.carried 0 in
    let rest = total_most d nodes most routes (All-tail S r routes short) (All-tail L r routes long) (All-tail C r routes small) in
    let s = sum_by-append term (carried_of r) (carried routes) in
    let one = sum_by-le term most (carried_of r) (terms r.path r.hops (All-head C r routes small)) in
    let n : length (carried_of r) ≤ nodes = let z = length-zip r.path r.hops in let a = All-head S r routes short in let b = All-head L r routes long in omega (arith, z, a, b) in
    let m = mul-le (length (carried_of r)) most nodes most n (omega arith) in
    omega (arith, rest, s, one, m)
  where
    terms : (path : List ℕ) (hops : List Hop) → All (λ (h : Hop). h.carried ≤ most) hops → All (λ (l : ℕ × Hop). cond (nat_eq l.0 d) l.1.carried 0 ≤ most) (zip path hops)
    terms [] hops all = All-nil (λ (l : ℕ × Hop). cond (nat_eq l.0 d) l.1.carried 0 ≤ most)
    terms (e ∷ path) [] all = All-nil (λ (l : ℕ × Hop). cond (nat_eq l.0 d) l.1.carried 0 ≤ most)
    terms (e ∷ path) (h ∷ hops) all = All-cons (λ (l : ℕ × Hop). cond (nat_eq l.0 d) l.1.carried 0 ≤ most) (e, h) (zip path hops) (by (nat_eq e d)) (terms path hops (All-tail (λ (x : Hop). x.carried ≤ most) h hops all))
      where
        by : (b : Bool) → cond b h.carried 0 ≤ most
        by true = All-head (λ (x : Hop). x.carried ≤ most) h hops all
        by false = omega arith

module _ (view : ViewParts) (ask : Ask) (s : RoundState) (size : ℕ) (parts : List Part) (seen : IsGoodView view) (good : IsGoodAsk ask) (state : IsGoodState view ask s) (are : AreGoodParts (instance_of view ask s) size parts) where
  abbrev less : ℕ
  less = demand_of ask.amount s * s.unit - ask.amount

  -- all units together are less than the amount and one unit
  pub product_most : demand_of ask.amount s * s.unit ≤ 2 * MAX
  product_most =
      let c = div_ceil_times ask.amount s.unit (let u = state.some_unit in omega (arith, u)) in
      let u = state.most_unit in
      let m = good.most in
      omega (arith, c, u, m)

  units_most : All (λ (p : Part). p.units * s.unit ≤ 2 * MAX) parts
  units_most k d l =
      let h = get_or-le-sum_by (λ (p : Part). p.units) parts k d l in
      let e = are.sent in
      let m = mul-le (slice_index_or parts k d).units s.unit (demand_of ask.amount s) s.unit (omega (arith, h, e)) (omega arith) in
      let p = product_most in
      omega (arith, m, p)

  long : All (λ (r : Route). length r.hops ≡ length r.path) (routes_of view ask s parts)
  long = all_routes view ask s.unit less (λ (r : Route). length r.hops ≡ length r.path) parts (λ k d l delivered le. length-amounts_of (map (λ x. toll_of (dir_at view x)) (slice_index_or parts k d).path) delivered ask.final_cltv ∙ length-map (slice_index_or parts k d).path (λ x. toll_of (dir_at view x)))

  small : All (λ (r : Route). All (λ (h : Hop). h.carried ≤ 2 * MAX) r.hops) (routes_of view ask s parts)
  small = all_routes view ask s.unit less (λ (r : Route). All (λ (h : Hop). h.carried ≤ 2 * MAX) r.hops) parts (λ k d l delivered le. let u = units_most k d l in (carried_most (map (λ x. toll_of (dir_at view x)) (slice_index_or parts k d).path) delivered ask.final_cltv (2 * MAX) (omega (arith, le, u)) (omega arith)).0)

  short : All (λ (r : Route). length r.path ≤ length view.nodes) (routes_of view ask s parts)
  short = all_routes view ask s.unit less (λ (r : Route). length r.path ≤ length view.nodes) parts (λ k d l delivered le. are.short k d l)

  pub good_routes : length parts ≤ 100 → AreGoodRoutes (length view.dirs) (routes_of view ask s parts)
  good_routes few = record {
    long = long;
    within = all_routes view ask s.unit less (λ (r : Route). All (λ d. d < length view.dirs) r.path) parts (λ k d l delivered le. paths_within view ask s size parts are k d l);
    few = let n = length-routes_with view ask s.unit less parts in omega (arith, n, few);
    fits = λ d.
        let t = total_most d (length view.nodes) (2 * MAX) (routes_of view ask s parts) short long small in
        let n = length-routes_with view ask s.unit less parts in
        let nodes : length view.nodes ≤ 8921088 = let a = seen.few_nodes in let b = seen.few_dirs in omega (arith, a, b) in
        let m = mul-le (length (routes_of view ask s parts)) (length view.nodes * (2 * MAX)) 100 (8921088 * (2 * MAX)) (omega (arith, n, few)) (omega (arith, nodes)) in
        omega (arith, t, m);
  }
