-- Arcs with the units on them, and the two lists that they are made of.
use Rattle.std.proofs.Common.{ℕ, zero, suc, ◌<◌, ◌≡◌, List, [], ◌∷◌, length, map, refl, sym, ap, arith}
use Rattle.std.specs.Prelude.{All, zip, sum_by, slice_index_or}
use Rattle.std.proofs.lemmas.List.{get_or-map, length-map}
use Rattle.std.proofs.lemmas.List.Sums.{sum_by-cons}
use Rattle.std.proofs.lemmas.List.Elements.{All-head, All-tail}
use Rattle.flow_model.specs.declared.instance.Arc.{Arc}
use Rattle.certificate.specs.declared.cert.Evidence.{Evidence}
use Rattle.certificate.specs.declared.cert.Evidence.TheVariants.{Potentials, Side}
use Rattle.certificate.specs.declared.problem.Problem.{Problem}
use Rattle.certificate.specs.Cert.{arcs_in, units_in, net_of, answer_of, FitsLoads}
use Rattle.certificate.specs.Check.{carried}

pub loads_are : (loads : List (Arc × ℕ)) → zip (arcs_in loads) (units_in loads) ≡ loads
loads_are [] = refl
loads_are (l ∷ loads) = ap (λ ls. l ∷ ls) (loads_are loads)

pub arcs_back : (arcs : List Arc) (flow : List ℕ) → length flow ≡ length arcs → arcs_in (zip arcs flow) ≡ arcs
arcs_back [] flow long = refl
arcs_back (a ∷ arcs) [] long = absurd (omega arith)
arcs_back (a ∷ arcs) (n ∷ flow) long = ap (λ ls. a ∷ ls) (arcs_back arcs flow (omega arith))

pub units_back : (arcs : List Arc) (flow : List ℕ) → length flow ≡ length arcs → units_in (zip arcs flow) ≡ flow
units_back [] [] long = refl
units_back [] (n ∷ flow) long = absurd (omega arith)
units_back (a ∷ arcs) [] long = absurd (omega arith)
units_back (a ∷ arcs) (n ∷ flow) long = ap (λ ns. n ∷ ns) (units_back arcs flow (omega arith))

-- arcs without units
abbrev pub unloaded : List Arc → List (Arc × ℕ)
unloaded arcs = map (λ (a : Arc). (a, 0)) arcs

pub length-unloaded : (arcs : List Arc) → length (unloaded arcs) ≡ length arcs
length-unloaded arcs = let f : Arc → Arc × ℕ = λ a. (a, 0) in length-map arcs f

pub unloaded_at : (arcs : List Arc) (k : ℕ) (d : Arc × ℕ) → k < length arcs → slice_index_or (unloaded arcs) k d ≡ (slice_index_or arcs k d.0, 0)
unloaded_at arcs k d l = let f : Arc → Arc × ℕ = λ a. (a, 0) in get_or-map f arcs k d.0 d l

pub unloaded_back : (arcs : List Arc) → arcs_in (unloaded arcs) ≡ arcs
unloaded_back [] = refl
unloaded_back (a ∷ arcs) = ap (λ ls. a ∷ ls) (unloaded_back arcs)

-- arcs that carry nothing
pub unloaded_are : (ls : List (Arc × ℕ)) → All (λ l. l.1 ≡ 0) ls → unloaded (arcs_in ls) ≡ ls
unloaded_are [] none = refl
unloaded_are (l ∷ ls) none = (λ i. (l.0, sym (All-head (λ (m : Arc × ℕ). m.1 ≡ 0) l ls none) i) ∷ unloaded_are ls (All-tail (λ (m : Arc × ℕ). m.1 ≡ 0) l ls none) i)

-- what a certificate's arcs carry is what was read
pub carried_are : (p : Problem) (ls : List (Arc × ℕ)) (e : Evidence) → FitsLoads p.nodes ls e → carried (net_of p ls) (answer_of ls e) ≡ ls
carried_are p ls (Potentials potentials balances) fits = loads_are ls
carried_are p ls (Side side) fits = unloaded_are ls fits

-- a sum over what a map gives
pub sum_map : {X Y : Type 0} (w : Y → ℕ) (f : X → Y) (xs : List X) → sum_by w (map f xs) ≡ sum_by (λ x. w (f x)) xs
sum_map w f [] = refl
sum_map w f (x ∷ xs) = omega (arith, sum_by-cons w (f x) (map f xs), sum_by-cons (λ y. w (f y)) x xs, sum_map w f xs)

pub All-arcs : (P : Arc → Type 0) (loads : List (Arc × ℕ)) → All P (arcs_in loads) → All (λ (l : Arc × ℕ). P l.0) loads
All-arcs P [] all k d l = absurd (omega arith)
All-arcs P (m ∷ loads) all zero d l = All-head P m.0 (arcs_in loads) all
All-arcs P (m ∷ loads) all (suc k) d l = All-arcs P loads (All-tail P m.0 (arcs_in loads) all) k d (omega arith)

pub All-units : (P : ℕ → Type 0) (arcs : List Arc) (flow : List ℕ) → All P flow → All (λ (l : Arc × ℕ). P l.1) (zip arcs flow)
All-units P [] flow all k d l = absurd (omega arith)
All-units P (a ∷ arcs) [] all k d l = absurd (omega arith)
All-units P (a ∷ arcs) (n ∷ flow) all zero d l = All-head P n flow all
All-units P (a ∷ arcs) (n ∷ flow) all (suc k) d l = All-units P arcs flow (All-tail P n flow all) k d (omega arith)
