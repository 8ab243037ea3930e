-- Paths cut into parts.
use Rattle.std.proofs.Common.{ℕ, zero, suc, ◌+◌, ◌-◌, ◌*◌, ◌/◌, ◌%◌, ◌<◌, ◌≤◌, ◌≡◌, Bool, true, false, cond, List, [], ◌∷◌, ◌++◌, sym, refl, ap, ◌∙◌, subst, inl, inr, ⊎_elim, arith, length, replicate}
use Rattle.std.specs.Prelude.{All, AllPairs, sum_by, zip, nat_eq, min, slice_index_or}
use Rattle.std.specs.List.{list_any}
use Rattle.std.specs.Int.{div_ceil}
use Rattle.std.proofs.Math.Nat.{div-add-mod, mod-lt}
use Rattle.std.proofs.lemmas.Bool.{cases_lt}
use Rattle.std.proofs.lemmas.Nat.{mul-le}
use Rattle.std.proofs.lemmas.List.Kept.{AllPairs-cons}
use Rattle.std.proofs.lemmas.List.Elements.{All-head, All-tail, All-nil, All-append, All-replicate}
use Rattle.std.proofs.lemmas.List.Sums.{sum_by-cons, sum_by-append}
use Rattle.std.proofs.lemmas.List.Folds.{sum_by-replicate}
use Rattle.flow_model.specs.Instance.{Net}
use Rattle.flow_model.specs.Flow.{IsCheapest, IsFilledInOrder, loads, units_of, room_of, flow_of}
use Rattle.flow_model.specs.declared.instance.Arc.{Arc}
use Rattle.flow_model.proofs.Filled.{flow_of-same}
use Rattle.flow_model.proofs.Balance.{at_node}
use Rattle.path_split.specs.declared.part.Part.{Part}
use Rattle.path_split.specs.Path.{IsPath, IsBefore, IsNotAfter}
use Rattle.path_split.specs.Parts.{units_on, IsDecomposition, IsSplit, parts_of_path, parts_of_paths}
use Rattle.path_split.proofs.Circulation.{sum_by-same}
use Rattle.path_split.proofs.Walks.{AllPairs-head, AllPairs-tail}

-- a sum over the parts of a path is that over the path
abbrev weighed : (List ℕ → ℕ) → Part → ℕ
weighed g p = p.units * g p.path

whole_cut : (x c q r g : ℕ) → c * q + r ≡ x → r ≤ c → r * ((q + 1) * g) + (c - r) * (q * g) ≡ x * g
whole_cut x c q r g h le =
    let s = c - r in
    let e : c ≡ r + s = omega arith in
    let m = ap (λ n. n * q) e in
    let w : x ≡ (r + s) * q + r = omega (arith, h, m) in
    let t = ap (λ n. n * g) w in
    omega (arith, t)

pub count_some : (x z : ℕ) → 1 ≤ x → 1 ≤ z → (1 ≤ div_ceil x z) × (div_ceil x z ≤ x)
count_some x z some size =
    let h = div-add-mod x z in
    let q = x / z in
    let qq : q ≤ q = omega arith in
    let m = mul-le 1 q z q size qq in
    (positive (x / z) (x % z) h, omega (arith, h, m))
  where
    positive : (q r : ℕ) → z * q + r ≡ x → 1 ≤ q + min 1 r
    positive zero zero e = absurd (omega (arith, e, some))
    positive zero (suc r) e = omega arith
    positive (suc q) r e = omega arith

module _ (size : ℕ) (positive : 1 ≤ size) where
  sum_cut : (g : List ℕ → ℕ) (p : Part) → 1 ≤ p.units → sum_by (weighed g) (parts_of_path size p) ≡ weighed g p
  sum_cut g p some =
      let c = div_ceil p.units size in
      let n = count_some p.units size some positive in
      let h = div-add-mod p.units c in
      let lt = mod-lt p.units n.0 in
      let large : Part = record { path = p.path; units = p.units / c + 1 } in
      let small : Part = record { path = p.path; units = p.units / c } in
      let a = sum_by-append (weighed g) (replicate (p.units % c) large) (replicate (c - p.units % c) small) in
      let b = sum_by-replicate (weighed g) (p.units % c) large in
      let d = sum_by-replicate (weighed g) (c - p.units % c) small in
      let w = whole_cut p.units c (p.units / c) (p.units % c) (g p.path) h (omega (arith, lt)) in
      omega (arith, a, b, d, w)

  sum_parts : (g : List ℕ → ℕ) (paths : List Part) → All (λ (p : Part). 1 ≤ p.units) paths → sum_by (weighed g) (parts_of_paths size paths) ≡ sum_by (weighed g) paths
  sum_parts g [] some = refl
  sum_parts g (p ∷ paths) some =
      let a = sum_by-append (weighed g) (parts_of_path size p) (parts_of_paths size paths) in
      let b = sum_cut g p (All-head (λ (p : Part). 1 ≤ p.units) p paths some) in
      let c = sum_parts g paths (All-tail (λ (p : Part). 1 ≤ p.units) p paths some) in
      omega (arith, a, b, c, sum_by-cons (weighed g) p paths)

  all_parts : (P : List ℕ → Type 0) (paths : List Part) → All (λ (p : Part). 1 ≤ p.units) paths → All (λ (p : Part). P p.path) paths → All (λ (p : Part). (1 ≤ p.units) × P p.path) (parts_of_paths size paths)
  all_parts P [] some all = All-nil (λ (p : Part). (1 ≤ p.units) × P p.path)
  all_parts P (p ∷ paths) some all =
      let Q : Part → Type 0 = λ (x : Part). (1 ≤ x.units) × P x.path in
      let c = div_ceil p.units size in
      let one = All-head (λ (x : Part). 1 ≤ x.units) p paths some in
      let path = All-head (λ (x : Part). P x.path) p paths all in
      let n = count_some p.units size one positive in
      let q = quotient_some p.units c one n.0 n.1 in
      All-append Q (parts_of_path size p) (parts_of_paths size paths)
      (All-append Q (replicate (p.units % c) (record { path = p.path; units = p.units / c + 1 })) (replicate (c - p.units % c) (record { path = p.path; units = p.units / c }))
      (All-replicate Q (p.units % c) (record { path = p.path; units = p.units / c + 1 }) (omega arith, path))
      (All-replicate Q (c - p.units % c) (record { path = p.path; units = p.units / c }) (q, path)))
      (all_parts P paths (All-tail (λ (x : Part). 1 ≤ x.units) p paths some) (All-tail (λ (x : Part). P x.path) p paths all))
    where
      quotient_some : (x c : ℕ) → 1 ≤ x → 1 ≤ c → c ≤ x → 1 ≤ x / c
      quotient_some x c some c_some le = from (x / c) (div-add-mod x c) (mod-lt x c_some)
        where
          from : (q : ℕ) → c * q + x % c ≡ x → x % c < c → 1 ≤ q
          from zero e l = absurd (omega (arith, e, l, le))
          from (suc q) e l = omega arith

units_weighed : (d : ℕ) (ps : List Part) → units_on d ps ≡ sum_by (weighed (λ path. cond (list_any (nat_eq d) path) 1 0)) ps
units_weighed d ps = sum_by-same (λ (p : Part). cond (list_any (nat_eq d) p.path) p.units 0) (weighed (λ path. cond (list_any (nat_eq d) path) 1 0)) ps (λ k e l. by _ _)
  where
    by : (b : Bool) (x : ℕ) → cond b x 0 ≡ x * cond b 1 0
    by true x = omega arith
    by false x = omega arith

sum_weighed : (ps : List Part) → sum_by (λ (p : Part). p.units) ps ≡ sum_by (weighed (λ path. 1)) ps
sum_weighed ps = sum_by-same (λ (p : Part). p.units) (weighed (λ path. 1)) ps (λ k e l. omega arith)

units_room : (d : ℕ) (arcs : List Arc) (flow : List ℕ) → All (λ (l : Arc × ℕ). l.1 ≤ l.0.room) (zip arcs flow) → units_of d (zip arcs flow) ≤ room_of d arcs
units_room d [] flow fits = omega arith
units_room d (a ∷ arcs) [] fits = omega arith
units_room d (a ∷ arcs) (x ∷ flow) fits =
    let P : Arc × ℕ → Type 0 = λ l. l.1 ≤ l.0.room in
    let one = by (nat_eq a.dir d) (All-head P (a, x) (zip arcs flow) fits) in
    let rest = units_room d arcs flow (All-tail P (a, x) (zip arcs flow) fits) in
    omega (arith, one, rest, sum_by-cons (λ (l : Arc × ℕ). at_node l.0.dir l.1 d) (a, x) (zip arcs flow), sum_by-cons (λ (b : Arc). at_node b.dir b.room d) a arcs)
  where
    by : (b : Bool) → x ≤ a.room → cond b x 0 ≤ cond b a.room 0
    by true le = le
    by false le = omega arith

AllPairs-append : {X : Type 0} (R : X → X → Type 0) (xs ys : List X) → AllPairs R xs → AllPairs R ys → All (λ x. All (R x) ys) xs → AllPairs R (xs ++ ys)
AllPairs-append R [] ys first second across = second
AllPairs-append R (x ∷ xs) ys first second across = AllPairs-cons R x (xs ++ ys)
    (All-append (R x) xs ys (AllPairs-head R x xs first) (All-head (λ y. All (R y) ys) x xs across))
    (AllPairs-append R xs ys (AllPairs-tail R x xs first) second (All-tail (λ y. All (R y) ys) x xs across))

abbrev PathOrder : Part → Part → Type 0
PathOrder p q = IsNotAfter p.path q.path

-- the parts of a path have its path
same_path : (size : ℕ) (p : Part) → All (λ (x : Part). x.path ≡ p.path) (parts_of_path size p)
same_path size p =
    let c = div_ceil p.units size in
    let P : Part → Type 0 = λ x. x.path ≡ p.path in
    All-append P (replicate (p.units % c) (record { path = p.path; units = p.units / c + 1 })) (replicate (c - p.units % c) (record { path = p.path; units = p.units / c }))
    (All-replicate P (p.units % c) (record { path = p.path; units = p.units / c + 1 }) refl)
    (All-replicate P (c - p.units % c) (record { path = p.path; units = p.units / c }) refl)

in_order : (size : ℕ) → 1 ≤ size → (paths : List Part) → All (λ (p : Part). 1 ≤ p.units) paths → AllPairs (λ (a b : Part). IsBefore a.path b.path) paths → AllPairs PathOrder (parts_of_paths size paths)
in_order size positive [] some order = λ i j d l m. absurd (omega (arith, l, m))
in_order size positive (p ∷ paths) some order =
    let rest = All-tail (λ (x : Part). 1 ≤ x.units) p paths some in
    let same = same_path size p in
    let later = all_parts size positive (IsBefore p.path) paths rest (AllPairs-head (λ (a b : Part). IsBefore a.path b.path) p paths order) in
    AllPairs-append PathOrder (parts_of_path size p) (parts_of_paths size paths)
    (λ i j d l m. inl (same i d (omega (arith, l, m)) ∙ sym (same j d m)))
    (in_order size positive paths rest (AllPairs-tail (λ (a b : Part). IsBefore a.path b.path) p paths order))
    (λ k d l n e m. inr (subst (λ path. IsBefore path (slice_index_or (parts_of_paths size paths) n e).path) (sym (same k d l)) (later n e m).1))

-- the parts, filled to the size, would hold all units
ceil_covers : (x z : ℕ) → 1 ≤ z → x ≤ div_ceil x z * z
ceil_covers x z some = from (x / z) (x % z) (div-add-mod x z) (mod-lt x some)
  where
    from : (q r : ℕ) → z * q + r ≡ x → r < z → x ≤ (q + min 1 r) * z
    from q zero e l = let m = ap (λ n. (q + n) * z) (zero_least) in omega (arith, e, m)
      where
        zero_least : min 1 zero ≡ 0
        zero_least = omega arith
    from q (suc r) e l = let m = ap (λ n. (q + n) * z) (one_least) in omega (arith, e, l, m)
      where
        one_least : min 1 (suc r) ≡ 1
        one_least = omega arith

share_least : (x c z q r : ℕ) → c * q + r ≡ x → r < c → x ≤ c * z → q ≤ z
share_least x c z q r e l covers = ⊎_elim
    (λ (h : z < q). let m = mul-le c (z + 1) c q (omega arith) (omega (arith, h)) in absurd (omega (arith, e, l, covers, m)))
    (λ (h : q ≤ z). h)
    (cases_lt z q)

share_most : (x c z q r : ℕ) → c * q + r ≡ x → x ≤ c * z → 1 ≤ r → q + 1 ≤ z
share_most x c z q r e covers some = ⊎_elim
    (λ (h : q < z). omega (arith, h))
    (λ (h : z ≤ q). let m = mul-le c z c q (omega arith) h in absurd (omega (arith, e, some, covers, m)))
    (cases_lt q z)

All-replicate_some : {X : Type 0} (P : X → Type 0) (n : ℕ) (x : X) → (1 ≤ n → P x) → All P (replicate n x)
All-replicate_some P zero x h = All-nil P
All-replicate_some P (suc n) x h = All-replicate P (suc n) x (h (omega arith))

within_size : (size : ℕ) → 1 ≤ size → (paths : List Part) → All (λ (p : Part). 1 ≤ p.units) paths → All (λ (p : Part). p.units ≤ size) (parts_of_paths size paths)
within_size size positive [] some = All-nil (λ (p : Part). p.units ≤ size)
within_size size positive (p ∷ paths) some =
    let Q : Part → Type 0 = λ x. x.units ≤ size in
    let c = div_ceil p.units size in
    let n = count_some p.units size (All-head (λ (x : Part). 1 ≤ x.units) p paths some) positive in
    let e = div-add-mod p.units c in
    let covers = ceil_covers p.units size positive in
    All-append Q (parts_of_path size p) (parts_of_paths size paths)
    (All-append Q (replicate (p.units % c) (record { path = p.path; units = p.units / c + 1 })) (replicate (c - p.units % c) (record { path = p.path; units = p.units / c }))
    (All-replicate_some Q (p.units % c) (record { path = p.path; units = p.units / c + 1 }) (λ more. share_most p.units c size (p.units / c) (p.units % c) e covers more))
    (All-replicate Q (c - p.units % c) (record { path = p.path; units = p.units / c }) (share_least p.units c size (p.units / c) (p.units % c) e (mod-lt p.units n.0) covers)))
    (within_size size positive paths (All-tail (λ (x : Part). 1 ≤ x.units) p paths some))

-- what the parts of a split keep of the instance and of the flow
pub record KeepsFlow (net : Net) (flow : List ℕ) (size : ℕ) (parts : List Part) : Type 0 where
  pub paths : All (λ (p : Part). IsPath net.arcs net.source p.path net.destination) parts
  pub short : All (λ (p : Part). length p.path ≤ net.nodes) parts
  pub order : AllPairs (λ (p q : Part). IsNotAfter p.path q.path) parts
  pub some : All (λ (p : Part). 1 ≤ p.units) parts
  pub most : All (λ (p : Part). p.units ≤ size) parts
  pub sent : sum_by (λ (p : Part). p.units) parts ≡ net.demand
  pub over : (dir : ℕ) → units_on dir parts ≡ units_of dir (loads net flow)
  pub fits : (dir : ℕ) → units_on dir parts ≤ room_of dir net.arcs
  pub filled : flow_of (λ dir. units_on dir parts) net.arcs ≡ flow

pub keeps_flow : (net : Net) (flow : List ℕ) (size : ℕ) (parts : List Part) → IsCheapest net flow → IsFilledInOrder net flow → 1 ≤ size → IsSplit net flow size parts → KeepsFlow net flow size parts
keeps_flow net flow size parts best filled positive split = subst (KeepsFlow net flow size) (sym split.cut) record {
  paths = λ k d l. (all k d l).1;
  short = λ k d l. (all_parts size positive (λ path. length path ≤ net.nodes) split.paths split.are.some split.are.short k d l).1;
  order = in_order size positive split.paths split.are.some split.are.order;
  some = λ k d l. (all k d l).0;
  most = within_size size positive split.paths split.are.some;
  sent = sum_weighed (parts_of_paths size split.paths) ∙ sum_parts size positive (λ path. 1) split.paths split.are.some ∙ sym (sum_weighed split.paths) ∙ split.are.sent;
  over = over;
  fits = λ d. let h = over d in let r = units_room d net.arcs flow best.feasible.fits in omega (arith, h, r);
  filled = flow_of-same (λ d. units_on d (parts_of_paths size split.paths)) (λ d. units_of d (loads net flow)) net.arcs over ∙ sym filled;
}
  where
    all : All (λ (p : Part). (1 ≤ p.units) × IsPath net.arcs net.source p.path net.destination) (parts_of_paths size split.paths)
    all = all_parts size positive (λ path. IsPath net.arcs net.source path net.destination) split.paths split.are.some split.are.leads

    over : (d : ℕ) → units_on d (parts_of_paths size split.paths) ≡ units_of d (loads net flow)
    over d = units_weighed d (parts_of_paths size split.paths) ∙ sum_parts size positive (λ path. cond (list_any (nat_eq d) path) 1 0) split.paths split.are.some ∙ sym (units_weighed d split.paths) ∙ split.are.over d

pub split_of : (net : Net) (flow : List ℕ) (size : ℕ) (paths read parts : List Part) → IsDecomposition net flow paths → read ≡ paths → parts ≡ parts_of_paths size read → IsSplit net flow size parts
split_of net flow size paths read parts are same cut = record { paths = paths; are = are; cut = cut ∙ ap (parts_of_paths size) same }

pub kept : (net : Net) (flow : List ℕ) (size : ℕ) (paths read parts : List Part) → IsCheapest net flow → IsFilledInOrder net flow → 1 ≤ size → IsDecomposition net flow paths → read ≡ paths → parts ≡ parts_of_paths size read → KeepsFlow net flow size parts
kept net flow size paths read parts best filled positive are same cut = keeps_flow net flow size parts best filled positive (split_of net flow size paths read parts are same cut)
