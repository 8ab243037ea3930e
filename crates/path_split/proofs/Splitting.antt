-- The paths found so far, and what is left.
use Rattle.std.proofs.Common.{ℕ, ◌+◌, ◌-◌, ◌*◌, ◌^◌, ◌<◌, ◌≤◌, ◌≡◌, Bool, true, false, cond, List, [], ◌∷◌, ◌++◌, sym, refl, ap, ◌∙◌, subst, ⊎_elim, arith, length}
use Rattle.std.specs.Prelude.{All, AllPairs, sum_by, zip, map, nat_eq, slice_index_or}
use Rattle.std.specs.List.{list_any}
use Rattle.std.proofs.lemmas.Bool.{cases_eq}
use Rattle.std.proofs.lemmas.List.{get_or-map, length-map, length_push}
use Rattle.std.proofs.lemmas.List.Elements.{All-head, All-nil, All-push, All-weaker}
use Rattle.std.proofs.lemmas.List.Quantifiers.{all_pairs_push}
use Rattle.std.proofs.lemmas.List.Sums.{sum_by-cons, sum_by_push, get_or-le-sum_by}
use Rattle.flow_model.specs.Instance.{Net, IsInstance}
use Rattle.flow_model.specs.Flow.{IsCheapest, loads, units_of, leaving, entering}
use Rattle.flow_model.specs.declared.instance.Arc.{Arc}
use Rattle.flow_model.proofs.Balance.{arrives}
use Rattle.path_split.specs.declared.edge.Edge.{Edge}
use Rattle.path_split.specs.declared.part.Part.{Part}
use Rattle.path_split.specs.Path.{IsPath, IsBefore}
use Rattle.path_split.specs.Walk.{no_edge, edge_at, IsWalk, HasUnits, IsFirstEdge, HasNoCycle, HasBottleneck, CanLower, AreFirstPlaces, UnitsGoOn, HasEndsBelow, IsFirstWalk, amount_at, weighted_sum, leaves, enters, over, IsBalanced, lowered, HasOrderedEdges, directions}
use Rattle.path_split.specs.Edges.{weighted_units, AreDirections, AreEdgesOf, IsAscending, HasEqualEnds}
use Rattle.path_split.specs.Parts.{units_on, IsDecomposition}
use Rattle.path_split.proofs.Circulation.{leaving-weighs, entering-weighs, units-weighs}
use Rattle.path_split.proofs.Walks.{weight, at-here, at-same, at-other, bears_from, lone_from_apart, weigh_lowered, lowered_le, walk_within, balanced_lowered, goes_on}
use Rattle.path_split.proofs.Order.{HasEmptyEdge, AvoidsNode, spent_stays, first_stays, spent_lowered, live, live_falls, live_some, live_most, before_next, counted_once, few_steps}
use Rattle.path_split.proofs.Rest.{no_cycle, nothing_left}
use Rattle.path_split.proofs.Gathered.{one_ends}

-- a path found before, one of whose edges has nothing left
pub record IsEarlierPath (es : List Edge) (left : List ℕ) (s t : ℕ) (p : Part) : Type 0 where
  pub path : List ℕ
  pub is : directions es path ≡ p.path
  pub walk : IsWalk es s path t
  pub before : AvoidsNode es t path
  pub first : All (IsFirstEdge es left) path
  pub spent : HasEmptyEdge left path

pub record FoundSoFar (net : Net) (flow : List ℕ) (es : List Edge) (left first : List ℕ) (units : ℕ) (paths : List Part) : Type 0 where
  pub balanced : IsBalanced net.nodes es left net.source net.destination units
  pub both : (d : ℕ) → weighted_sum (over d) (zip es left) + units_on d paths ≡ units_of d (loads net flow)
  pub firsts : AreFirstPlaces es left first
  pub nodes : length first ≡ net.nodes
  pub leads : All (λ (p : Part). IsPath net.arcs net.source p.path net.destination) paths
  pub some : All (λ (p : Part). 1 ≤ p.units) paths
  pub short : All (λ (p : Part). length p.path ≤ net.nodes) paths
  pub order : AllPairs (λ (a b : Part). IsBefore a.path b.path) paths
  pub sent : sum_by (λ (p : Part). p.units) paths + units ≡ net.demand
  pub past : 0 < units → All (IsEarlierPath es left net.source net.destination) paths
  pub few : length paths ≤ length es
  pub fewer : 0 < units → length paths + live left ≤ length es

abbrev room_left : List Edge → List ℕ
room_left es = map (λ (e : Edge). e.units) es

weigh-units : (q : ℕ → ℕ → ℕ → ℕ) (es : List Edge) → weighted_sum q (zip es (room_left es)) ≡ weighted_units q es
weigh-units q [] = refl
weigh-units q (e ∷ es) = omega (arith, weigh-units q es, sum_by-cons (λ (x : Edge). x.units * q x.from x.dir x.to) e es, sum_by-cons (λ (l : Edge × ℕ). l.1 * q l.0.from l.0.dir l.0.to) (e, e.units) (zip es (room_left es)))

leads_over : (arcs : List Arc) (es : List Edge) (u w : ℕ) (path : List ℕ) → AreDirections arcs es → IsWalk es u path w → IsPath arcs u (directions es path) w
leads_over arcs es u w [] known walk = walk
leads_over arcs es u w (i ∷ path) known walk =
    let j = known i no_edge walk.0 in
    ((edge_at es i).to, record { at = j.at; within = j.within; of_dir = j.of_dir; starts = j.starts ∙ walk.1; ends = j.ends }, leads_over arcs es (edge_at es i).to w path known walk.2)

module _ (net : Net) (flow : List ℕ) (es : List Edge) (good : IsInstance net) (best : IsCheapest net flow) (gathers : AreEdgesOf net.arcs (loads net flow) es) (ascend : IsAscending es) where
  ends : HasEqualEnds es
  ends = one_ends net es good gathers.known

  pub ends_below : HasEndsBelow net.nodes es
  ends_below k d l =
      let j = gathers.known k d l in
      (subst (λ n. n < net.nodes) j.starts (good.ranges.ends.froms j.at _ j.within), subst (λ n. n < net.nodes) j.ends (good.ranges.ends.tos j.at _ j.within))

  ordered : HasOrderedEdges es
  ordered i j l lj e =
      let h = ascend i j no_edge l lj in
      let f = ap (λ n. n * 2 ^ 32) e in
      omega (arith, h, f)

  units-all : (d : ℕ) → weighted_sum (over d) (zip es (room_left es)) ≡ units_of d (loads net flow)
  units-all d = weigh-units (over d) es ∙ gathers.sums (over d) ∙ sym (units-weighs d (loads net flow))

  pub paths_none : (left first : List ℕ) (paths : List Part) → left ≡ map (λ (e : Edge). e.units) es → length first ≡ net.nodes → ((j : ℕ) → j < length es → slice_index_or first (edge_at es j).from 0 ≤ j) → paths ≡ [] → FoundSoFar net flow es left first net.demand paths
  paths_none left first paths is nodes first_is none = subst (FoundSoFar net flow es left first net.demand) (sym none) (subst (λ xs. FoundSoFar net flow es xs first net.demand []) (sym is) record {
    balanced = record {
      long = length-map es (λ (e : Edge). e.units);
      each = balanced_each;
    };
    both = λ d. let h = units-all d in omega (arith, h);
    firsts = λ v l j lj e some. subst (λ n. slice_index_or first n 0 ≤ j) e (first_is j lj);
    nodes = nodes;
    leads = All-nil (λ (p : Part). IsPath net.arcs net.source p.path net.destination);
    some = All-nil (λ (p : Part). 1 ≤ p.units);
    short = All-nil (λ (p : Part). length p.path ≤ net.nodes);
    order = λ i j d l m. absurd (omega (arith, l, m));
    sent = omega arith;
    past = λ l. All-nil (IsEarlierPath es (room_left es) net.source net.destination);
    few = omega arith;
    fewer = λ l. let m = live_most (room_left es) in let e = length-map es (λ (x : Edge). x.units) in omega (arith, m, e);
  })
    where
      balanced_each : (v : ℕ) → v < net.nodes → weighted_sum (leaves v) (zip es (room_left es)) + amount_at net.destination net.demand v ≡ weighted_sum (enters v) (zip es (room_left es)) + amount_at net.source net.demand v
      balanced_each v l =
          let a = weigh-units (leaves v) es ∙ gathers.sums (leaves v) ∙ sym (leaving-weighs v (loads net flow)) in
          let b = weigh-units (enters v) es ∙ gathers.sums (enters v) ∙ sym (entering-weighs v (loads net flow)) in
          ⊎_elim
          (λ (e : v ≡ net.source).
          let on = at-here net.source net.demand v (sym e) in
          let off = at-other net.destination net.demand v (λ f. good.ranges.ends.apart (sym e ∙ sym f)) in
          let s = best.feasible.sent in
          let la = ap (λ n. leaving n (loads net flow)) e in
          let lb = ap (λ n. entering n (loads net flow)) e in
          omega (arith, a, b, on, off, s, la, lb))
          (λ (not_s : v ≡ net.source → ⊥). ⊎_elim
          (λ (e : v ≡ net.destination).
          let on = at-here net.destination net.demand v (sym e) in
          let off = at-other net.source net.demand v (λ f. not_s (sym f)) in
          let s = arrives net flow good.ranges.ends net.demand best.feasible in
          let la = ap (λ n. leaving n (loads net flow)) e in
          let lb = ap (λ n. entering n (loads net flow)) e in
          omega (arith, a, b, on, off, s, la, lb))
          (λ (not_t : v ≡ net.destination → ⊥).
          let off = at-other net.source net.demand v (λ f. not_s (sym f)) in
          let off' = at-other net.destination net.demand v (λ f. not_t (sym f)) in
          let k = best.feasible.kept v l not_s not_t in
          omega (arith, a, b, off, off', k))
          (cases_eq v net.destination))
          (cases_eq v net.source)

  module _ (left first : List ℕ) (units : ℕ) (paths : List Part) (old : FoundSoFar net flow es left first units paths) where
    below : (d : ℕ) → weighted_sum (over d) (zip es left) ≤ units_of d (loads net flow)
    below d = let h = old.both d in omega (arith, h)

    pub acyclic : HasNoCycle es left
    acyclic = no_cycle net flow es left good best gathers.known old.balanced.long below

    pub on : 0 < units → UnitsGoOn net.nodes es left net.source net.destination
    on some v l ne came = goes_on net.nodes es left net.source net.destination units v old.balanced some l ne came

    module _ (some : 0 < units) (next : List ℕ) (path : List ℕ) (k : ℕ) (part : Part) (more : List Part) (lower : List ℕ) (way : IsFirstWalk es left net.source net.destination net.destination path) (firsts : AreFirstPlaces es left next) (nodes : length next ≡ length first) (within : k ≤ units) (positive : 0 < k) (fits : All (λ i. k ≤ slice_index_or left i 0) path) (tight : k < units → HasBottleneck left k path) (part_is : part ≡ record { path = directions es path; units = k }) (grows : more ≡ paths ++ part ∷ []) (lower_is : lower ≡ lowered left k path) where
      pub bears : CanLower left k path
      bears = bears_from left k path (λ m d l. let h = walk_within es net.source net.destination path way.walk m d l in let e = old.balanced.long in omega (arith, h, e)) fits (lone_from_apart es path way.apart)

      abbrev new : Part
      new = record { path = directions es path; units = k }

      le : (j : ℕ) → slice_index_or (lowered left k path) j 0 ≤ slice_index_or left j 0
      le j = lowered_le left k path j

      on_new : (d : ℕ) → cond (list_any (nat_eq d) (directions es path)) k 0 ≡ k * sum_by (weight (over d) es) path
      on_new d =
          let c = counted_once (λ i. (edge_at es i).dir) d path (λ i j e l m f. way.apart i j e l m (ends (slice_index_or path i e) (slice_index_or path j e) (walk_within es net.source net.destination path way.walk i e (omega (arith, l, m))) (walk_within es net.source net.destination path way.walk j e m) f).0) in
          by (list_any (nat_eq d) (directions es path)) ∙ ap (λ n. k * n) (sym c)
        where
          by : (b : Bool) → cond b k 0 ≡ k * cond b 1 0
          by true = omega arith
          by false = omega arith

      nonempty : 1 ≤ live left
      nonempty = from path way.walk way.carries
        where
          from : (p : List ℕ) → IsWalk es net.source p net.destination → HasUnits left p → 1 ≤ live left
          from [] walk carries = absurd (good.ranges.ends.apart walk)
          from (i ∷ p) walk carries = let h = All-head (λ j. 0 < slice_index_or left j 0) i p carries in let e = old.balanced.long in let w = walk.0 in live_some left i h (omega (arith, w, e))

      after : All (λ (p : Part). IsBefore p.path (directions es path)) paths
      after m d l =
          let p = old.past some m d l in
          subst (λ x. IsBefore x (directions es path)) p.is (before_next es left net.source net.destination p.path path ordered p.walk way.walk p.before way.before p.first way.carries p.spent)

      pub paths_turn : FoundSoFar net flow es lower next (units - k) more
      paths_turn = subst (λ xs. FoundSoFar net flow es xs next (units - k) more) (sym lower_is) (subst (FoundSoFar net flow es (lowered left k path) next (units - k)) (sym (grows ∙ ap (λ x. paths ++ x ∷ []) part_is)) record {
        balanced = balanced_lowered net.nodes es left net.source net.destination units k path old.balanced within way.walk bears;
        both = λ d. let a = weigh_lowered (over d) es left k path old.balanced.long bears in let b = sum_by_push (λ (p : Part). cond (list_any (nat_eq d) p.path) p.units 0) paths new in let c = on_new d in let o = old.both d in omega (arith, a, b, c, o);
        firsts = λ v l j lj e g. let h = le j in firsts v l j lj e (omega (arith, h, g));
        nodes = nodes ∙ old.nodes;
        leads = All-push (λ (p : Part). IsPath net.arcs net.source p.path net.destination) paths new old.leads (leads_over net.arcs es net.source net.destination path gathers.known way.walk);
        some = All-push (λ (p : Part). 1 ≤ p.units) paths new old.some positive;
        short = All-push (λ (p : Part). length p.path ≤ net.nodes) paths new old.short (let e = length-map path (λ i. (edge_at es i).dir) in let f = few_steps es net.nodes path way.apart (λ m d l. (ends_below (slice_index_or path m d) no_edge (walk_within es net.source net.destination path way.walk m d l)).0) in omega (arith, e, f));
        order = all_pairs_push (λ (a b : Part). IsBefore a.path b.path) paths new old.order after;
        sent = let b = sum_by_push (λ (p : Part). p.units) paths new in let o = old.sent in omega (arith, b, o, within);
        past = λ left_some. All-push (IsEarlierPath es (lowered left k path) net.source net.destination) paths new
            (λ m d l. let p = old.past some m d l in record { path = p.path; is = p.is; walk = p.walk; before = p.before; first = All-weaker (IsFirstEdge es left) (IsFirstEdge es (lowered left k path)) (λ i. first_stays es (lowered left k path) left i le) p.path p.first; spent = spent_stays (lowered left k path) left p.path le p.spent })
            record { path = path; is = refl; walk = way.walk; before = way.before; first = All-weaker (IsFirstEdge es left) (IsFirstEdge es (lowered left k path)) (λ i. first_stays es (lowered left k path) left i le) path way.first; spent = spent_lowered left k path (lone_from_apart es path way.apart) bears (tight (omega (arith, left_some, within))) };
        few = let a = length_push paths new in let f = old.fewer some in let n = nonempty in omega (arith, a, f, n);
        fewer = λ left_some. let a = length_push paths new in let f = old.fewer some in let n = live_falls left k path positive (lone_from_apart es path way.apart) bears (tight (omega (arith, left_some, within))) in omega (arith, a, f, n);
      })

  pub paths_all : (left first : List ℕ) (units : ℕ) (paths : List Part) → units ≤ 0 → FoundSoFar net flow es left first units paths → IsDecomposition net flow paths
  paths_all left first units paths none old = record {
    leads = old.leads;
    some = old.some;
    short = old.short;
    order = old.order;
    over = λ d. let h = old.both d in let z = nothing_left net flow es left net.source net.destination good best gathers.known (subst (IsBalanced net.nodes es left net.source net.destination) zero_units old.balanced) (λ e. let g = old.both e in omega (arith, g)) (over d) in omega (arith, h, z);
    sent = let h = old.sent in omega (arith, h, none);
    most = λ k d l. let h = get_or-le-sum_by (λ (p : Part). p.units) paths k d l in let s = old.sent in let m = good.ranges.most_demand in omega (arith, h, s, m);
    carriers = map (λ (e : Edge). e.dir) es;
    distinct = λ i j d l m e.
        let lj : j < length es = let c = length-map es (λ (x : Edge). x.dir) in omega (arith, m, c) in
        let li : i < length es = omega (arith, l, lj) in
        let same = sym (get_or-map (λ (x : Edge). x.dir) es i no_edge d li) ∙ e ∙ get_or-map (λ (x : Edge). x.dir) es j no_edge d lj in
        let from = ap (λ n. n * 2 ^ 32) (ends i j li lj same).0 in
        let less = ascend i j no_edge l lj in
        omega (arith, less, from, same);
    carry = λ k d l.
        let lk : k < length es = let c = length-map es (λ (x : Edge). x.dir) in omega (arith, l, c) in
        let dir = (edge_at es k).dir in
        let is = get_or-map (λ (x : Edge). x.dir) es k no_edge d lk in
        let one = ap (λ n. (edge_at es k).units * n) (at-same dir 1) in
        let le = get_or-le-sum_by (λ (x : Edge). x.units * over dir x.from x.dir x.to) es k no_edge lk in
        let pos = gathers.some k no_edge lk in
        let s = gathers.sums (over dir) ∙ sym (units-weighs dir (loads net flow)) in
        subst (λ n. 0 < units_of n (loads net flow)) (sym is) (omega (arith, one, le, pos, s));
    few = let c = length-map es (λ (x : Edge). x.dir) in let f = old.few in omega (arith, c, f);
  }
    where
      zero_units : units ≡ 0
      zero_units = omega (arith, none)
