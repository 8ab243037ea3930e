-- The first arcs of all directions, and the next steps that are found from them.
use Rattle.std.proofs.Common.{ℕ, ◌+◌, ◌-◌, ◌<◌, ◌≤◌, ◌≡◌, ◌++◌, Bool, true, false, List, [], ◌∷◌, sym, refl, ap, ◌∙◌, subst, ⊎_elim, arith, length}
use Rattle.std.specs.Prelude.{slice_index, slice_index_or, ◌≢◌}
use Rattle.std.proofs.lemmas.Bool.{cases_lt, cases_eq}
use Rattle.std.proofs.lemmas.List.{length-append, get_or_append_left}
use Rattle.std.proofs.Math.Seq.{get_or-append_seam}
use Rattle.flow_model.specs.declared.instance.Arc.{Arc}
use Rattle.flow_model.specs.Instance.{Net, IsInstance, IsGoodArc, StandTogether, arc_at, no_arc}
use Rattle.residual_net.proofs.Loads.{get_or-any}
use Rattle.flow_solver.specs.Heads.{IsHead, HasHeads, IsOnlyNext}
use Rattle.residual_net.specs.Residual.{ResidualNet, IsResidualNet}
use Rattle.flow_solver.specs.declared.steps.NextStep.{NextStep}
use Rattle.flow_solver.specs.Meeting.{IsStepOf}
use Rattle.flow_solver.specs.Search.{InOrder, IsNextForward, IsNextBackward, tail_of, head_of}
use Rattle.flow_solver.proofs.Order.{same_ends}

pub heads_init : (arcs : List Arc) → HasHeads arcs [] 0
heads_init arcs = record { each = λ g l. absurd (omega arith); below = λ g l. absurd (omega arith); rises = λ g h l m. absurd (omega arith); all = λ i l. absurd (omega arith); few = omega arith }

-- an arc that isn't the first of its direction needs no head
pub heads_skip : (arcs heads : List Arc) (n : ℕ) → n < length arcs → (1 ≤ n) × ((k : ℕ) → k + 1 ≡ n → (arc_at arcs k).dir ≡ (arc_at arcs n).dir) → HasHeads arcs heads n → HasHeads arcs heads (n + 1)
heads_skip arcs heads n l follows so = record {
  each = so.each;
  below = λ g lg. let b = so.below g lg in omega (arith, b);
  rises = so.rises;
  all = λ i li. ⊎_elim
      (λ (k : i < n). so.all i k)
      (λ (k : n ≤ i).
      let one = follows.0 in
      let before : n - 1 < n = omega (arith, one) in
      let at : i ≡ n = omega (arith, k, li) in
      let old = so.all (n - 1) before in
      let e = follows.1 (n - 1) (omega (arith, one)) in
      (old.0, old.1, old.2 ∙ e ∙ ap (λ m. (arc_at arcs m).dir) (sym at)))
      (cases_lt i n);
  few = let f = so.few in omega (arith, f);
}

-- a first arc gets a head
pub heads_push : (arcs heads more : List Arc) (head : Arc) (n : ℕ) → n < length arcs → more ≡ heads ++ head ∷ [] → head ≡ record { from = (arc_at arcs n).from; to = (arc_at arcs n).to; room = (arc_at arcs n).room; cost = (arc_at arcs n).cost; dir = n } → ((k : ℕ) → k + 1 ≡ n → (arc_at arcs k).dir ≢ (arc_at arcs n).dir) → HasHeads arcs heads n → HasHeads arcs more (n + 1)
heads_push arcs heads more head n l e is starts so = subst (λ hs. HasHeads arcs hs (n + 1)) (sym e) record {
  each = λ g lg. at IsHead' g lg (λ lo. so.each g lo) (λ f. made);
  below = λ g lg. at (λ h. h.dir < n + 1) g lg (λ lo. let b = so.below g lo in omega (arith, b)) (λ f. let d = dir_is in omega (arith, d));
  rises = λ g h gh lh. ⊎_elim
      (λ (lo : h < length heads). subst (λ (x : Arc). x.dir < (arc_at (heads ++ head ∷ []) h).dir) (sym (left g (omega (arith, gh, lo)))) (subst (λ (y : Arc). (arc_at heads g).dir < y.dir) (sym (left h lo)) (so.rises g h gh lo)))
      (λ (hi : length heads ≤ h).
      let n' = long in
      let lo : g < length heads = omega (arith, gh, lh, n') in
      let f : h ≡ length heads = omega (arith, hi, lh, n') in
      let b = so.below g lo in
      let x = ap (λ (z : Arc). z.dir) (left g lo) in
      let y = ap (λ (z : Arc). z.dir) (ap (λ k. arc_at (heads ++ head ∷ []) k) f ∙ last) in
      let d = dir_is in
      omega (arith, b, x, y, d))
      (cases_lt h (length heads));
  all = λ i li. ⊎_elim
      (λ (k : i < n). let old = so.all i k in let lo = old.1 in let n' = long in (old.0, omega (arith, lo, n'), ap (λ (h : Arc). (arc_at arcs h.dir).dir) (left old.0 lo) ∙ old.2))
      (λ (k : n ≤ i). let at' : n ≡ i = omega (arith, k, li) in let n' = long in (length heads, omega (arith, n'), ap (λ (h : Arc). (arc_at arcs h.dir).dir) last ∙ ap (λ m. (arc_at arcs m).dir) (dir_is ∙ at')))
      (cases_lt i n);
  few = let f = so.few in let n' = long in omega (arith, f, n');
}
  where
    long : length (heads ++ head ∷ []) ≡ length heads + 1
    long = length-append heads (head ∷ [])

    dir_is : head.dir ≡ n
    dir_is = ap (λ (h : Arc). h.dir) is

    IsHead' : Arc → Type 0
    IsHead' h = IsHead arcs h

    made : IsHead arcs head
    made = subst (IsHead arcs) (sym is) record { known = l; from = refl; to = refl; room = refl; cost = refl; starts = starts }

    left : (g : ℕ) → g < length heads → arc_at (heads ++ head ∷ []) g ≡ arc_at heads g
    left g lo = get_or_append_left heads (head ∷ []) no_arc g lo

    last : arc_at (heads ++ head ∷ []) (length heads) ≡ head
    last = get_or-append_seam heads head [] no_arc

    at : (P : Arc → Type 0) (g : ℕ) → g < length (heads ++ head ∷ []) → (g < length heads → P (arc_at heads g)) → (g ≡ length heads → P head) → P (arc_at (heads ++ head ∷ []) g)
    at P g lg lo hi = ⊎_elim
        (λ (less : g < length heads). subst P (sym (left g less)) (lo less))
        (λ (ge : length heads ≤ g). let n' = long in let f : g ≡ length heads = omega (arith, ge, lg, n') in subst P (sym (ap (λ k. arc_at (heads ++ head ∷ []) k) f ∙ last)) (hi f))
        (cases_lt g (length heads))

-- the heads are the arcs of an instance
pub heads_instance : (net : Net) (heads : List Arc) → IsInstance net → HasHeads net.arcs heads (length net.arcs) → IsInstance (record { nodes = net.nodes; source = net.source; destination = net.destination; demand = net.demand; arcs = heads })
heads_instance net heads good so = record {
  ranges = record {
    ends = record {
      source_in = good.ranges.ends.source_in;
      destination_in = good.ranges.ends.destination_in;
      apart = good.ranges.ends.apart;
      froms = λ k d l. let h = so.each k l in let e = ap (λ (a : Arc). a.from) (any k d l) in let f = h.from in let i = good.ranges.ends.froms (arc_at heads k).dir no_arc h.known in omega (arith, e, f, i);
      tos = λ k d l. let h = so.each k l in let e = ap (λ (a : Arc). a.to) (any k d l) in let f = h.to in let i = good.ranges.ends.tos (arc_at heads k).dir no_arc h.known in omega (arith, e, f, i);
    };
    few_nodes = good.ranges.few_nodes;
    few_arcs = let f = so.few in let g = good.ranges.few_arcs in omega (arith, f, g);
    some_demand = good.ranges.some_demand;
    most_demand = good.ranges.most_demand;
    good_arcs = λ k d l. subst IsGoodArc (sym (any k d l)) (good_head k l);
  };
  dearer = λ i j d less l e. absurd (let r = so.rises i j less l in let a = ap (λ (a : Arc). a.dir) (any i d (omega (arith, less, l))) in let b = ap (λ (a : Arc). a.dir) (any j d l) in omega (arith, r, a, b, e));
  together = λ i j k d ij jk l e. absurd (let r = so.rises i k (omega (arith, ij, jk)) l in let a = ap (λ (a : Arc). a.dir) (any i d (omega (arith, ij, jk, l))) in let b = ap (λ (a : Arc). a.dir) (any k d l) in omega (arith, r, a, b, e));
}
  where
    any : (k : ℕ) (d : Arc) → k < length heads → slice_index_or heads k d ≡ arc_at heads k
    any k d l = get_or-any heads k d no_arc l

    good_head : (k : ℕ) → k < length heads → IsGoodArc (arc_at heads k)
    good_head k l =
        let h = so.each k l in
        let g = good.ranges.good_arcs (arc_at heads k).dir no_arc h.known in
        let few = good.ranges.few_arcs in
        let known = h.known in
        let room = h.room in
        let cost = h.cost in
        let a = g.some_room in
        let b = g.most_room in
        let c = g.some_cost in
        let d = g.most_cost in
        record {
          apart = λ e. g.apart (sym h.from ∙ e ∙ h.to);
          some_room = omega (arith, a, room);
          most_room = omega (arith, b, room);
          some_cost = omega (arith, c, cost);
          most_cost = omega (arith, d, cost);
          direction = omega (arith, few, known);
        }

-- all arcs of a direction below an index are full
abbrev pub FullTo : List Arc → List ℕ → Arc → ℕ → Type 0
FullTo arcs flow head n = (j : ℕ) → head.dir ≤ j → j < n → ((arc_at arcs j).dir ≡ (arc_at arcs head.dir).dir) × (slice_index flow j ≡ (arc_at arcs j).room)

-- all arcs of a direction below an index carry something
abbrev pub SomeTo : List Arc → List ℕ → Arc → ℕ → Type 0
SomeTo arcs flow head n = (j : ℕ) → head.dir ≤ j → j < n → ((arc_at arcs j).dir ≡ (arc_at arcs head.dir).dir) × (0 < slice_index flow j)

module _ (arcs : List Arc) (flow : List ℕ) (head : Arc) (is : IsHead arcs head) (together : StandTogether arcs) (order : InOrder arcs flow) (rooms : (i : ℕ) → i < length arcs → 0 < (arc_at arcs i).room) where
  abbrev SameDir : ℕ → Type 0
  SameDir j = (arc_at arcs j).dir ≡ (arc_at arcs head.dir).dir

  -- no arc of the direction is before its first one
  pub from_first : (j : ℕ) → j < length arcs → SameDir j → head.dir ≤ j
  from_first j l e = ⊎_elim
      (λ (less : j < head.dir). absurd (
      let k : ℕ = head.dir - 1 in
      let one : k + 1 ≡ head.dir = omega (arith, less) in
      ⊎_elim
      (λ (at : j ≡ k). is.starts k one (ap (λ m. (arc_at arcs m).dir) (sym at) ∙ e))
      (λ (ne : j ≡ k → ⊥). is.starts k one (sym (together j k head.dir no_arc (omega (arith, less, one, ne)) (omega (arith, one)) is.known e) ∙ e))
      (cases_eq j k)))
      (λ (ge : head.dir ≤ j). ge)
      (cases_lt j head.dir)

  pub full_turn : (i : ℕ) → i < length arcs → SameDir i → slice_index flow i ≡ (arc_at arcs i).room → FullTo arcs flow head i → FullTo arcs flow head (i + 1)
  full_turn i l e full so j ge less = ⊎_elim
      (λ (k : j < i). so j ge k)
      (λ (k : i ≤ j). let at : i ≡ j = omega (arith, k, less) in subst (λ m. SameDir m × (slice_index flow m ≡ (arc_at arcs m).room)) at (e, full))
      (cases_lt j i)

  pub some_turn : (i : ℕ) → SameDir i → 0 < slice_index flow i → SomeTo arcs flow head i → SomeTo arcs flow head (i + 1)
  some_turn i e some so j ge less = ⊎_elim
      (λ (k : j < i). so j ge k)
      (λ (k : i ≤ j). let at : i ≡ j = omega (arith, k, less) in subst (λ m. SameDir m × (0 < slice_index flow m)) at (e, some))
      (cases_lt j i)

  pub forward_found : (i : ℕ) → i < length arcs → SameDir i → slice_index flow i < (arc_at arcs i).room → FullTo arcs flow head i → IsNextForward arcs flow i
  forward_found i l e room so = (room, λ h at d. (so h (from_first h (omega (arith, at, l)) (d ∙ e)) (omega (arith, at))).1)

  pub forward_only : (i j : ℕ) → i < length arcs → SameDir i → slice_index flow i < (arc_at arcs i).room → FullTo arcs flow head i → j < length arcs → SameDir j → IsNextForward arcs flow j → j ≡ i
  forward_only i j l e room so lj ej next = ⊎_elim
      (λ (less : j < i). absurd (let f = (so j (from_first j lj ej) less).1 in let n = next.0 in omega (arith, f, n)))
      (λ (ge : i ≤ j). ⊎_elim
      (λ (at : j ≡ i). at)
      (λ (ne : j ≡ i → ⊥). absurd (
      let k : ℕ = j - 1 in
      let one : k + 1 ≡ j = omega (arith, ge, ne) in
      let ek : SameDir k = ⊎_elim (λ (at : i ≡ k). subst SameDir at e) (λ (nk : i ≡ k → ⊥). sym (together i k j no_arc (omega (arith, ge, ne, one, nk)) (omega (arith, one)) lj (e ∙ sym ej)) ∙ e) (cases_eq i k) in
      let full = next.1 k one (ek ∙ sym ej) in
      ⊎_elim
      (λ (at : i ≡ k). let f = ap (slice_index flow) at in let g = ap (λ m. (arc_at arcs m).room) at in omega (arith, full, f, g, room))
      (λ (nk : i ≡ k → ⊥). let some = rooms k (omega (arith, one, lj)) in let f = order i k (omega (arith, ge, ne, one, nk)) (omega (arith, one, lj)) (e ∙ sym ek) (omega (arith, some, full)) in omega (arith, f, room))
      (cases_eq i k)))
      (cases_eq j i))
      (cases_lt j i)

  -- the direction ends where an arc of another one follows
  pub before_end : (n j : ℕ) → head.dir < n → (j < length arcs) → SameDir j → (n < length arcs → SameDir n → ⊥) → SameDir (n - 1) → j < n
  before_end n j some lj ej ends last = ⊎_elim
      (λ (less : j < n). less)
      (λ (ge : n ≤ j). absurd (⊎_elim
      (λ (at : n ≡ j). ends (omega (arith, at, lj)) (subst SameDir (sym at) ej))
      (λ (ne : n ≡ j → ⊥). ends (omega (arith, ge, lj)) (sym (together (n - 1) n j no_arc (omega (arith, some)) (omega (arith, ge, ne)) lj (last ∙ sym ej)) ∙ last))
      (cases_eq n j)))
      (cases_lt j n)

  pub forward_none : (n j : ℕ) → head.dir < n → FullTo arcs flow head n → (n < length arcs → SameDir n → ⊥) → j < length arcs → SameDir j → IsNextForward arcs flow j → ⊥
  forward_none n j some so ends lj ej next =
      let less = before_end n j some lj ej ends (so (n - 1) (omega (arith, some)) (omega (arith, some))).0 in
      let f = (so j (from_first j lj ej) less).1 in
      let r = next.0 in
      omega (arith, f, r)

  pub backward_found : (n : ℕ) → head.dir < n → n ≤ length arcs → SomeTo arcs flow head n → (n < length arcs → SameDir n → slice_index flow n ≡ 0) → SameDir (n - 1) × IsNextBackward arcs flow (n - 1)
  backward_found n some most so ends =
      let at = so (n - 1) (omega (arith, some)) (omega (arith, some)) in
      let one : n - 1 + 1 ≡ n = omega (arith, some) in
      (at.0, (at.1, λ l d. subst (λ m. slice_index flow m ≡ 0) (sym one) (ends (omega (arith, l, one)) (subst (λ m. (arc_at arcs m).dir ≡ (arc_at arcs (n - 1)).dir) one d ∙ at.0))))

  pub backward_only : (n j : ℕ) → head.dir < n → n ≤ length arcs → SomeTo arcs flow head n → (n < length arcs → SameDir n → slice_index flow n ≡ 0) → j < length arcs → SameDir j → IsNextBackward arcs flow j → j ≡ n - 1
  backward_only n j some most so ends lj ej next = ⊎_elim
      (λ (less : j < n - 1). absurd (
      let after = so (j + 1) (let f = from_first j lj ej in omega (arith, f)) (omega (arith, less)) in
      let none = next.1 (omega (arith, less, most)) (after.0 ∙ sym ej) in
      let s = after.1 in
      omega (arith, none, s)))
      (λ (ge : n - 1 ≤ j). ⊎_elim
      (λ (at : j ≡ n - 1). at)
      (λ (ne : j ≡ n - 1 → ⊥). absurd (
      let last = so (n - 1) (omega (arith, some)) (omega (arith, some)) in
      let ln : n < length arcs = omega (arith, ge, ne, lj, some) in
      let en : SameDir n = ⊎_elim (λ (at : n ≡ j). subst SameDir (sym at) ej) (λ (nj : n ≡ j → ⊥). sym (together (n - 1) n j no_arc (omega (arith, some)) (omega (arith, ge, ne, nj, some)) lj (last.0 ∙ sym ej)) ∙ last.0) (cases_eq n j) in
      let none = ends ln en in
      let x = next.0 in
      ⊎_elim
      (λ (at : n ≡ j). let f = ap (slice_index flow) at in omega (arith, f, none, x))
      (λ (nj : n ≡ j → ⊥). let full = order n j (omega (arith, ge, ne, nj, some)) lj (en ∙ sym ej) x in let r = rooms n ln in omega (arith, full, r, none))
      (cases_eq n j)))
      (cases_eq j (n - 1)))
      (cases_lt j (n - 1))

  pub backward_none : (j : ℕ) → slice_index flow head.dir ≡ 0 → j < length arcs → SameDir j → IsNextBackward arcs flow j → ⊥
  backward_none j none lj ej next = ⊎_elim
      (λ (at : head.dir ≡ j). let f = ap (slice_index flow) at in let x = next.0 in omega (arith, f, none, x))
      (λ (ne : head.dir ≡ j → ⊥). let ge = from_first j lj ej in let x = next.0 in let full = order head.dir j (omega (arith, ge, ne)) lj (sym ej) x in let r = rooms head.dir is.known in omega (arith, full, r, none))
      (cases_eq head.dir j)

  pub forward_is : (i : ℕ) → i < length arcs → SameDir i → slice_index flow i < (arc_at arcs i).room → FullTo arcs flow head i → IsOnlyNext arcs flow head false i
  forward_is i l e room so = record { known = l; dir = e; next = forward_found i l e room so; only = λ j lj ej next. forward_only i j l e room so lj ej next }

  pub backward_is : (n i : ℕ) → i ≡ n - 1 → head.dir < n → n ≤ length arcs → SomeTo arcs flow head n → (n < length arcs → SameDir n → slice_index flow n ≡ 0) → IsOnlyNext arcs flow head true i
  backward_is n i is' some most so ends = subst (IsOnlyNext arcs flow head true) (sym is') (let found = backward_found n some most so ends in record { known = omega (arith, some, most); dir = found.0; next = found.1; only = λ j lj ej next. backward_only n j some most so ends lj ej next })

-- a step over an arc of a direction
pub head_step : (residual : ResidualNet) (head : Arc) (s : NextStep) → IsResidualNet residual → IsHead residual.net.arcs head → IsOnlyNext residual.net.arcs residual.flow head s.back s.arc → s.tail ≡ tail_of head s.back → s.head ≡ head_of head s.back → s.cost ≡ (arc_at residual.net.arcs s.arc).cost → IsStepOf residual s
head_step residual head s ok is only tail head' cost = record {
  next = record { known = only.known; way = only.next };
  tail = by_tail s.back ∙ sym tail;
  head = by_head s.back ∙ sym head';
  cost = cost;
}
  where
    ends : ((arc_at residual.net.arcs s.arc).from ≡ head.from) × ((arc_at residual.net.arcs s.arc).to ≡ head.to)
    ends = let e = same_ends residual.net.arcs s.arc head.dir ok.good.dearer only.known is.known only.dir in (e.0 ∙ sym is.from, e.1 ∙ sym is.to)

    by_tail : (b : Bool) → tail_of (arc_at residual.net.arcs s.arc) b ≡ tail_of head b
    by_tail true = ends.1
    by_tail false = ends.0

    by_head : (b : Bool) → head_of (arc_at residual.net.arcs s.arc) b ≡ head_of head b
    by_head true = ends.0
    by_head false = ends.1

pub all_rooms : (residual : ResidualNet) → IsResidualNet residual → (i : ℕ) → i < length residual.net.arcs → 0 < (arc_at residual.net.arcs i).room
all_rooms residual ok i l = (ok.good.ranges.good_arcs i no_arc l).some_room
