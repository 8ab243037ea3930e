-- A flow that fills each direction's arcs in order.
use Rattle.std.proofs.Common.{ℕ, suc, ◌+◌, ◌-◌, ◌<◌, ◌≤◌, ◌≡◌, ◌++◌, List, [], ◌∷◌, sym, refl, ap, ◌∙◌, subst, ⊎_elim, arith, length}
use Rattle.std.specs.Prelude.{All, AllPairs, zip, min, slice_index_or, slice_index, set, drop}
use Rattle.std.proofs.Math.Seq.{drop-cons}
use Rattle.std.proofs.lemmas.Bool.{cases_eq}
use Rattle.std.proofs.lemmas.List.{append_assoc, get_or-set_other, get_or-set_same}
use Rattle.std.proofs.lemmas.List.Elements.{All-cons, All-nil, All-head, All-tail, All-weaker}
use Rattle.std.proofs.lemmas.List.Kept.{AllPairs-cons}
use Rattle.std.proofs.lemmas.List.Sums.{sum_by-cons}
use Rattle.flow_model.specs.declared.instance.Arc.{Arc}
use Rattle.flow_model.specs.Instance.{Net}
use Rattle.flow_model.specs.Flow.{Fits, FillsFirst, IsFilledInOrder, loads, units_of, room_of, flow_of}
use Rattle.flow_model.specs.Laws.{FirstArcsFirst}
use Rattle.flow_model.proofs.Balance.{at_node, at_node-same, at_node-other}

-- each direction gets its units, as far as its room holds them
pub units-flow_of : (d : ℕ) (left : ℕ → ℕ) (arcs : List Arc) → units_of d (zip arcs (flow_of left arcs)) ≡ min (left d) (room_of d arcs)
units-flow_of d left [] = omega arith
units-flow_of d left (a ∷ arcs) =
    let m = min a.room (left a.dir) in
    let next : ℕ → ℕ = λ e. left e - at_node a.dir (min a.room (left a.dir)) e in
    let rest = units-flow_of d next arcs in
    let c1 = sum_by-cons (λ (l : Arc × ℕ). at_node l.0.dir l.1 d) (a, m) (zip arcs (flow_of next arcs)) in
    let c2 = sum_by-cons (λ (b : Arc). at_node b.dir b.room d) a arcs in
    ⊎_elim
    (λ (e : a.dir ≡ d). let s1 = at_node-same a.dir (min a.room (left a.dir)) in let s2 = at_node-same a.dir a.room in let t1 = ap (at_node a.dir (min a.room (left a.dir))) e in let t2 = ap (at_node a.dir a.room) e in let t3 = ap left e in omega (arith, rest, c1, c2, s1, s2, t1, t2, t3))
    (λ (ne : a.dir ≡ d → ⊥). omega (arith, rest, c1, c2, at_node-other a.dir (min a.room (left a.dir)) d ne, at_node-other a.dir a.room d ne))
    (cases_eq a.dir d)

pub length-flow_of : (left : ℕ → ℕ) (arcs : List Arc) → length (flow_of left arcs) ≡ length arcs
length-flow_of left [] = refl
length-flow_of left (a ∷ arcs) = let rest = length-flow_of (λ e. left e - at_node a.dir (min a.room (left a.dir)) e) arcs in omega (arith, rest)

pub fits-flow_of : (left : ℕ → ℕ) (arcs : List Arc) → All (λ (l : Arc × ℕ). l.1 ≤ l.0.room) (zip arcs (flow_of left arcs))
fits-flow_of left [] = All-nil (λ (l : Arc × ℕ). l.1 ≤ l.0.room)
fits-flow_of left (a ∷ arcs) =
    let next : ℕ → ℕ = λ e. left e - at_node a.dir (min a.room (left a.dir)) e in
    All-cons (λ (l : Arc × ℕ). l.1 ≤ l.0.room) (a, min a.room (left a.dir)) (zip arcs (flow_of next arcs)) (omega arith) (fits-flow_of next arcs)

-- only what each direction has counts
pub flow_of-same : (left other : ℕ → ℕ) (arcs : List Arc) → ((d : ℕ) → left d ≡ other d) → flow_of left arcs ≡ flow_of other arcs
flow_of-same left other [] same = refl
flow_of-same left other (a ∷ arcs) same =
    let e = same a.dir in
    let given : min a.room (left a.dir) ≡ min a.room (other a.dir) = ap (min a.room) e in
    let rest = flow_of-same (λ d. left d - at_node a.dir (min a.room (left a.dir)) d) (λ d. other d - at_node a.dir (min a.room (other a.dir)) d) arcs (λ d. let s = same d in let g = ap (λ m. at_node a.dir m d) given in omega (arith, s, g)) in
    ap (λ m. m ∷ flow_of (λ d. left d - at_node a.dir (min a.room (left a.dir)) d) arcs) given ∙ ap (λ r. min a.room (other a.dir) ∷ r) rest

-- what is left of a direction's units after an arc took some
left_after : (left : List ℕ) (u given d : ℕ) → u < length left → slice_index left d - at_node u given d ≡ slice_index (set left u (slice_index left u - given)) d
left_after left u given d known = ⊎_elim
    (λ (e : u ≡ d). subst (λ w. slice_index left w - at_node u given w ≡ slice_index (set left u (slice_index left u - given)) w) e (ap (λ m. slice_index left u - m) (at_node-same u given) ∙ sym (get_or-set_same left u (slice_index left u - given) 0 known)))
    (λ (ne : u ≡ d → ⊥). let s = at_node-other u given d ne in let o = get_or-set_other left u d (slice_index left u - given) 0 (λ f. ne (sym f)) in omega (arith, s, o))
    (cases_eq u d)

-- a turn of the loop that fills arc after arc
pub fill_turn : (flow left more : List ℕ) (arcs : List Arc) (i old given : ℕ) (a : Arc) → i < length arcs → (slice_index_or arcs i a).dir < length left → old ≡ slice_index left (slice_index_or arcs i a).dir → given ≡ min (slice_index_or arcs i a).room old → more ≡ flow ++ given ∷ [] → more ++ flow_of (slice_index (set left (slice_index_or arcs i a).dir (old - given))) (drop (i + 1) arcs) ≡ flow ++ flow_of (slice_index left) (drop i arcs)
fill_turn flow left more arcs i old given a l known was takes grows =
    let b = slice_index_or arcs i a in
    let next : suc i ≡ i + 1 = omega arith in
    let rest = drop (i + 1) arcs in
    let after = set left b.dir (old - given) in
    let taken : given ≡ min b.room (slice_index left b.dir) = takes ∙ ap (min b.room) was in
    let left_is : set left b.dir (slice_index left b.dir - given) ≡ after = ap (λ m. set left b.dir (m - given)) (sym was) in
    let placed : flow_of (λ d. slice_index left d - at_node b.dir (min b.room (slice_index left b.dir)) d) rest ≡ flow_of (slice_index after) rest = flow_of-same _ _ rest (λ d. ap (λ m. slice_index left d - at_node b.dir m d) (sym taken) ∙ left_after left b.dir given d known ∙ ap (λ xs. slice_index xs d) left_is) in
    let first : flow_of (slice_index left) (drop i arcs) ≡ given ∷ flow_of (slice_index after) rest = ap (flow_of (slice_index left)) (drop-cons arcs i a l ∙ ap (λ n. b ∷ drop n arcs) next) ∙ ap (λ r. min b.room (slice_index left b.dir) ∷ r) placed ∙ ap (λ m. m ∷ flow_of (slice_index after) rest) (sym taken) in
    ap (λ xs. xs ++ flow_of (slice_index after) rest) grows ∙ append_assoc flow (given ∷ []) _ ∙ sym (ap (λ r. flow ++ r) first)

-- what the filled flow keeps
pub fits-filled : (net : Net) (units : ℕ → ℕ) (flow : List ℕ) → flow ≡ flow_of units net.arcs → Fits net flow
fits-filled net units flow e = subst (Fits net) (sym e) (fits-flow_of units net.arcs)

pub units-filled : (net : Net) (units : ℕ → ℕ) (flow : List ℕ) (d : ℕ) → flow ≡ flow_of units net.arcs → units d ≤ room_of d net.arcs → units_of d (loads net flow) ≡ units d
units-filled net units flow d e room = ap (λ f. units_of d (loads net f)) e ∙ units-flow_of d units net.arcs ∙ omega (arith, room)

-- only what the arcs' directions have counts
flow_of-known : (left other : ℕ → ℕ) (arcs : List Arc) → All (λ a. left a.dir ≡ other a.dir) arcs → flow_of left arcs ≡ flow_of other arcs
flow_of-known left other [] same = refl
flow_of-known left other (a ∷ arcs) same =
    let given : min a.room (left a.dir) ≡ min a.room (other a.dir) = ap (min a.room) (All-head (λ b. left b.dir ≡ other b.dir) a arcs same) in
    let next : ℕ → ℕ = λ d. left d - at_node a.dir (min a.room (left a.dir)) d in
    let after : ℕ → ℕ = λ d. other d - at_node a.dir (min a.room (other a.dir)) d in
    let rest = flow_of-known next after arcs (All-weaker (λ b. left b.dir ≡ other b.dir) (λ b. next b.dir ≡ after b.dir) (λ b e. let g = ap (λ m. at_node a.dir m b.dir) given in omega (arith, e, g)) arcs (All-tail (λ b. left b.dir ≡ other b.dir) a arcs same)) in
    ap (λ m. m ∷ flow_of next arcs) given ∙ ap (λ r. min a.room (other a.dir) ∷ r) rest

pub in_order-filled : (net : Net) (units : ℕ → ℕ) (flow : List ℕ) → flow ≡ flow_of units net.arcs → All (λ a. units a.dir ≤ room_of a.dir net.arcs) net.arcs → IsFilledInOrder net flow
in_order-filled net units flow e room = e ∙ flow_of-known units (λ d. units_of d (loads net flow)) net.arcs (All-weaker (λ a. units a.dir ≤ room_of a.dir net.arcs) (λ a. units a.dir ≡ units_of a.dir (loads net flow)) (λ a fits. sym (units-filled net units flow a.dir e fits)) net.arcs room)

-- no arc gets more than its direction has
share-flow_of : (left : ℕ → ℕ) (arcs : List Arc) → All (λ (l : Arc × ℕ). l.1 ≤ left l.0.dir) (zip arcs (flow_of left arcs))
share-flow_of left [] = All-nil (λ (l : Arc × ℕ). l.1 ≤ left l.0.dir)
share-flow_of left (a ∷ arcs) =
    let next : ℕ → ℕ = λ d. left d - at_node a.dir (min a.room (left a.dir)) d in
    All-cons (λ (l : Arc × ℕ). l.1 ≤ left l.0.dir) (a, min a.room (left a.dir)) (zip arcs (flow_of next arcs)) (omega arith) (All-weaker (λ (l : Arc × ℕ). l.1 ≤ next l.0.dir) (λ (l : Arc × ℕ). l.1 ≤ left l.0.dir) (λ l h. omega (arith, h)) (zip arcs (flow_of next arcs)) (share-flow_of next arcs))

pairs-flow_of : (left : ℕ → ℕ) (arcs : List Arc) → AllPairs FillsFirst (zip arcs (flow_of left arcs))
pairs-flow_of left [] = λ i j d l k. absurd (omega arith)
pairs-flow_of left (a ∷ arcs) =
    let m = min a.room (left a.dir) in
    let next : ℕ → ℕ = λ d. left d - at_node a.dir (min a.room (left a.dir)) d in
    let later : All (FillsFirst (a, m)) (zip arcs (flow_of next arcs)) = All-weaker (λ (l : Arc × ℕ). l.1 ≤ next l.0.dir) (FillsFirst (a, m)) (λ l h e some. full l.0.dir l.1 e h some) (zip arcs (flow_of next arcs)) (share-flow_of next arcs) in
    AllPairs-cons FillsFirst (a, m) (zip arcs (flow_of next arcs)) later (pairs-flow_of next arcs)
  where
    full : (d x : ℕ) → a.dir ≡ d → x ≤ left d - at_node a.dir (min a.room (left a.dir)) d → 0 < x → min a.room (left a.dir) ≡ a.room
    full d x e h some =
        let took = ap (at_node a.dir (min a.room (left a.dir))) e in
        let had = ap left e in
        omega (arith, h, some, took, had, at_node-same a.dir (min a.room (left a.dir)))

pub first_arcs_first : FirstArcsFirst
first_arcs_first net flow e = subst (λ f. AllPairs FillsFirst (zip net.arcs f)) (sym e) (pairs-flow_of (λ d. units_of d (loads net flow)) net.arcs)
