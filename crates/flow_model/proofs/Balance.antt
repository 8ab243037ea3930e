-- Sums over nodes of what leaves and enters them, weighed, as sums over arcs.
use Rattle.std.proofs.Common.{ℕ, zero, suc, ◌+◌, ◌*◌, ◌<◌, ◌≡◌, cond, List, [], ◌∷◌, sym, refl, ap, ◌∙◌, subst, ⊎_elim, arith}
use Rattle.std.specs.Prelude.{All, sum_by, zip, nat_eq, ◌≢◌}
use Rattle.std.proofs.lemmas.Bool.{cases_eq, eq-eqb, ne_eqb}
use Rattle.std.proofs.lemmas.List.Elements.{All-head, All-tail}
use Rattle.std.proofs.lemmas.List.Sums.{sum_by-cons}
use Rattle.flow_model.specs.declared.instance.Arc.{Arc}
use Rattle.flow_model.specs.Instance.{Net, IsNet}
use Rattle.flow_model.specs.Flow.{Sends, loads, leaving, entering}

abbrev pub sum_below : (ℕ → ℕ) → ℕ → ℕ
sum_below h zero = 0
sum_below h (suc n) = sum_below h n + h n

pub below_same : (h k : ℕ → ℕ) (n : ℕ) → ((v : ℕ) → v < n → h v ≡ k v) → sum_below h n ≡ sum_below k n
below_same h k zero e = refl
below_same h k (suc n) e = omega (arith, below_same h k n (λ v l. e v (omega arith)), e n (omega arith))

pub below_add : (h k : ℕ → ℕ) (n : ℕ) → sum_below (λ v. h v + k v) n ≡ sum_below h n + sum_below k n
below_add h k zero = refl
below_add h k (suc n) = omega (arith, below_add h k n)

pub below_none : (h : ℕ → ℕ) (n : ℕ) → ((v : ℕ) → v < n → h v ≡ 0) → sum_below h n ≡ 0
below_none h zero e = refl
below_none h (suc n) e = omega (arith, below_none h n (λ v l. e v (omega arith)), e n (omega arith))

-- x at the node u, and 0 elsewhere
abbrev pub at_node : ℕ → ℕ → ℕ → ℕ
at_node u x v = cond (nat_eq u v) x 0

pub at_node-same : (u x : ℕ) → at_node u x u ≡ x
at_node-same u x = ap (λ b. cond b x 0) (eq-eqb u u refl)

pub at_node-other : (u x v : ℕ) → u ≢ v → at_node u x v ≡ 0
at_node-other u x v ne = ap (λ b. cond b x 0) (ne_eqb u v ne)

pub below_point : (q : ℕ → ℕ) (u x n : ℕ) → u < n → sum_below (λ v. q v * at_node u x v) n ≡ q u * x
below_point q u x zero l = absurd (omega arith)
below_point q u x (suc n) l = ⊎_elim here (there (below_point q u x n)) (cases_eq u n)
  where
    here : u ≡ n → sum_below (λ v. q v * at_node u x v) (suc n) ≡ q u * x
    here e =
        let rest = below_none (λ v. q v * at_node u x v) n (λ v k. ap (λ z. q v * z) (at_node-other u x v (λ f. omega arith)) ∙ omega arith) in
        let last : q n * at_node u x n ≡ q u * x = subst (λ m. q m * at_node u x m ≡ q u * x) e (ap (λ z. q u * z) (at_node-same u x)) in
        omega (arith, rest, last)

    there : (u < n → sum_below (λ v. q v * at_node u x v) n ≡ q u * x) → (u ≡ n → ⊥) → sum_below (λ v. q v * at_node u x v) (suc n) ≡ q u * x
    there before ne =
        let last : q n * at_node u x n ≡ 0 = ap (λ z. q n * z) (at_node-other u x n ne) ∙ omega arith in
        omega (arith, before (omega arith), last)

-- the sum over nodes is the sum over arcs, for any end of an arc
pub swapped : (end : Arc → ℕ) (q : ℕ → ℕ) (n : ℕ) (ls : List (Arc × ℕ)) → All (λ (l : Arc × ℕ). end l.0 < n) ls → sum_below (λ v. q v * sum_by (λ (l : Arc × ℕ). at_node (end l.0) l.1 v) ls) n ≡ sum_by (λ (l : Arc × ℕ). l.1 * q (end l.0)) ls
swapped end q n [] all = below_none (λ v. q v * 0) n (λ v l. omega arith)
swapped end q n (l ∷ ls) all =
    let f : ℕ → List (Arc × ℕ) → ℕ = λ v ms. sum_by (λ (k : Arc × ℕ). at_node (end k.0) k.1 v) ms in
    let one = below_point q (end l.0) l.1 n (All-head (λ (k : Arc × ℕ). end k.0 < n) l ls all) in
    let rest = swapped end q n ls (All-tail (λ (k : Arc × ℕ). end k.0 < n) l ls all) in
    let split = below_same (λ v. q v * f v (l ∷ ls)) (λ v. q v * at_node (end l.0) l.1 v + q v * f v ls) n (λ v k. ap (λ z. q v * z) (sum_by-cons (λ (k : Arc × ℕ). at_node (end k.0) k.1 v) l ls) ∙ omega arith) in
    let added = below_add (λ v. q v * at_node (end l.0) l.1 v) (λ v. q v * f v ls) n in
    omega (arith, split, added, one, rest, sum_by-cons (λ (k : Arc × ℕ). k.1 * q (end k.0)) l ls)

scaled : (a hv kv x y z : ℕ) → hv + x ≡ kv + y + z → a * hv + a * x ≡ a * kv + a * y + a * z
scaled a hv kv x y z e = let p = ap (λ m. a * m) e in omega (arith, p)

-- h is what leaves a node, k what enters it
pub conserved : (q h k : ℕ → ℕ) (n s t u : ℕ) → s < n → t < n → s ≢ t → ((v : ℕ) → v < n → v ≢ s → v ≢ t → h v ≡ k v) → h s ≡ k s + u → sum_below (λ v. q v * h v) n + q t * k t ≡ sum_below (λ v. q v * k v) n + q s * u + q t * h t
conserved q h k n s t u sn tn ne kept sent =
    let same = below_same (λ v. q v * h v + q v * at_node t (k t) v) (λ v. q v * k v + q v * at_node s u v + q v * at_node t (h t) v) n (λ v l. scaled (q v) (h v) (k v) (at_node t (k t) v) (at_node s u v) (at_node t (h t) v) (each v l)) in
    let a = below_add (λ v. q v * h v) (λ v. q v * at_node t (k t) v) n in
    let b = below_add (λ v. q v * k v + q v * at_node s u v) (λ v. q v * at_node t (h t) v) n in
    let c = below_add (λ v. q v * k v) (λ v. q v * at_node s u v) n in
    omega (arith, same, a, b, c, below_point q t (k t) n tn, below_point q s u n sn, below_point q t (h t) n tn)
  where
    each : (v : ℕ) → v < n → h v + at_node t (k t) v ≡ k v + at_node s u v + at_node t (h t) v
    each v l = ⊎_elim
        (λ (e : v ≡ t). subst (λ w. h w + at_node t (k t) w ≡ k w + at_node s u w + at_node t (h t) w) (sym e) (omega (arith, at_node-same t (k t), at_node-same t (h t), at_node-other s u t ne)))
        (λ (not_t : v ≡ t → ⊥). ⊎_elim
        (λ (e : v ≡ s). subst (λ w. h w + at_node t (k t) w ≡ k w + at_node s u w + at_node t (h t) w) (sym e) (omega (arith, sent, at_node-same s u, at_node-other t (k t) s (λ f. ne (sym f)), at_node-other t (h t) s (λ f. ne (sym f)))))
        (λ (not_s : v ≡ s → ⊥). omega (arith, kept v l not_s not_t, at_node-other t (k t) v (λ f. not_t (sym f)), at_node-other t (h t) v (λ f. not_t (sym f)), at_node-other s u v (λ f. not_s (sym f))))
        (cases_eq v s))
        (cases_eq v t)

pub All-zip : (P : Arc → Type 0) (xs : List Arc) (ys : List ℕ) → All P xs → All (λ (l : Arc × ℕ). P l.0) (zip xs ys)
All-zip P [] ys all k d l = absurd (omega arith)
All-zip P (x ∷ xs) [] all k d l = absurd (omega arith)
All-zip P (x ∷ xs) (y ∷ ys) all zero d l = All-head P x xs all
All-zip P (x ∷ xs) (y ∷ ys) all (suc k) d l = All-zip P xs ys (All-tail P x xs all) k d (omega arith)

-- the units, each weighed by its arc's start or its end
abbrev pub out_sum : (ℕ → ℕ) → List (Arc × ℕ) → ℕ
out_sum q ls = sum_by (λ (l : Arc × ℕ). l.1 * q l.0.from) ls

abbrev pub in_sum : (ℕ → ℕ) → List (Arc × ℕ) → ℕ
in_sum q ls = sum_by (λ (l : Arc × ℕ). l.1 * q l.0.to) ls

module _ (net : Net) (flow : List ℕ) (good : IsNet net) (units : ℕ) (ok : Sends net flow units) where
  outs : (q : ℕ → ℕ) → sum_below (λ v. q v * leaving v (loads net flow)) net.nodes ≡ out_sum q (loads net flow)
  outs q = swapped (λ a. a.from) q net.nodes (loads net flow) (All-zip (λ a. a.from < net.nodes) net.arcs flow good.froms)

  ins : (q : ℕ → ℕ) → sum_below (λ v. q v * entering v (loads net flow)) net.nodes ≡ in_sum q (loads net flow)
  ins q = swapped (λ a. a.to) q net.nodes (loads net flow) (All-zip (λ a. a.to < net.nodes) net.arcs flow good.tos)

  both : (q : ℕ → ℕ) → out_sum q (loads net flow) + q net.destination * entering net.destination (loads net flow) ≡ in_sum q (loads net flow) + q net.source * units + q net.destination * leaving net.destination (loads net flow)
  both q = omega (arith, outs q, ins q, conserved q (λ v. leaving v (loads net flow)) (λ v. entering v (loads net flow)) net.nodes net.source net.destination units good.source_in good.destination_in good.apart ok.kept ok.sent)

  -- the destination takes in the demand
  pub arrives : entering net.destination (loads net flow) ≡ leaving net.destination (loads net flow) + units
  arrives = omega (arith, both (λ v. 1))

  -- for any weights of nodes
  pub balanced : (q : ℕ → ℕ) → out_sum q (loads net flow) + q net.destination * units ≡ in_sum q (loads net flow) + q net.source * units
  balanced q = let e = ap (λ m. q net.destination * m) arrives in omega (arith, e, both q)
