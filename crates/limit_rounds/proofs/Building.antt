-- Turns of the loops that build an instance.
use Rattle.std.proofs.Common.{ℕ, suc, ◌+◌, ◌-◌, ◌^◌, ◌<◌, ◌≤◌, ◌≡◌, cond, List, [], ◌∷◌, ◌++◌, sym, ap, ◌∙◌, subst, ⊎_elim, arith, length}
use Rattle.std.specs.Prelude.{min, set, drop, nat_eq, Option, None, Some, slice_index_or}
use Rattle.std.specs.Option.{option_map_or}
use Rattle.std.proofs.Math.Seq.{drop-cons}
use Rattle.std.proofs.lemmas.Bool.{cases_eq, eq-eqb, ne_eqb}
use Rattle.std.proofs.lemmas.List.{append_assoc, append-nil, drop_all, get_or-set_same, get_or-set_other}
use Rattle.flow_model.specs.declared.instance.Arc.{Arc}
use Rattle.view_build.specs.declared.view.ViewDir.{ViewDir}
use Rattle.round_rules.specs.declared.round.Cap.{Cap}
use Rattle.round_rules.specs.State.{RoundState}
use Rattle.round_rules.specs.Instance.{find_cap, cap_in, arcs_with, arcs_of_dir, arcs_from}

pub drop_next : {X : Type 0} (xs : List X) (i : ℕ) (d : X) → i < length xs → drop i xs ≡ slice_index_or xs i d ∷ drop (i + 1) xs
drop_next xs i d l = let e : suc i ≡ i + 1 = omega arith in drop-cons xs i d l ∙ ap (λ n. slice_index_or xs i d ∷ drop n xs) e

-- a piece's arc is added, or its room is 0
pub piece_push : (f : ℕ → ℕ → Arc) (arcs more : List Arc) (rooms : List ℕ) (i : ℕ) (whole : List Arc) → i < length rooms → 0 < slice_index_or rooms i 0 → more ≡ arcs ++ f i (slice_index_or rooms i 0) ∷ [] → arcs ++ arcs_with f i (drop i rooms) ≡ whole → more ++ arcs_with f (i + 1) (drop (i + 1) rooms) ≡ whole
piece_push f arcs more rooms i whole l some grows old =
    let r = slice_index_or rooms i 0 in
    let e : suc i ≡ i + 1 = omega arith in
    let rest = arcs_with f (i + 1) (drop (i + 1) rooms) in
    let a : arcs_with f i (drop i rooms) ≡ f i r ∷ rest = ap (arcs_with f i) (drop_next rooms i 0 l) ∙ ap (λ b. cond b (arcs_with f (suc i) (drop (i + 1) rooms)) (f i r ∷ arcs_with f (suc i) (drop (i + 1) rooms))) (ne_eqb r 0 (λ z. omega (arith, z, some))) ∙ ap (λ n. f i r ∷ arcs_with f n (drop (i + 1) rooms)) e in
    ap (λ xs. xs ++ rest) grows ∙ append_assoc arcs (f i r ∷ []) rest ∙ ap (λ xs. arcs ++ xs) (sym a) ∙ old

pub piece_skip : (f : ℕ → ℕ → Arc) (arcs : List Arc) (rooms : List ℕ) (i : ℕ) (whole : List Arc) → i < length rooms → slice_index_or rooms i 0 ≤ 0 → arcs ++ arcs_with f i (drop i rooms) ≡ whole → arcs ++ arcs_with f (i + 1) (drop (i + 1) rooms) ≡ whole
piece_skip f arcs rooms i whole l none old =
    let r = slice_index_or rooms i 0 in
    let e : suc i ≡ i + 1 = omega arith in
    let a : arcs_with f i (drop i rooms) ≡ arcs_with f (i + 1) (drop (i + 1) rooms) = ap (arcs_with f i) (drop_next rooms i 0 l) ∙ ap (λ b. cond b (arcs_with f (suc i) (drop (i + 1) rooms)) (f i r ∷ arcs_with f (suc i) (drop (i + 1) rooms))) (eq-eqb r 0 (omega (arith, none))) ∙ ap (λ n. arcs_with f n (drop (i + 1) rooms)) e in
    ap (λ xs. arcs ++ xs) (sym a) ∙ old

pub dir_turn : (amount : ℕ) (s : RoundState) (arcs more : List Arc) (dirs : List ViewDir) (i : ℕ) (d : ViewDir) (added whole : List Arc) → i < length dirs → more ≡ arcs ++ added → added ≡ arcs_of_dir amount s i (slice_index_or dirs i d) → arcs ++ arcs_from amount s i (drop i dirs) ≡ whole → more ++ arcs_from amount s (i + 1) (drop (i + 1) dirs) ≡ whole
dir_turn amount s arcs more dirs i d added whole l grows is old =
    let e : suc i ≡ i + 1 = omega arith in
    let rest = arcs_from amount s (i + 1) (drop (i + 1) dirs) in
    let a : arcs_from amount s i (drop i dirs) ≡ added ++ rest = ap (arcs_from amount s i) (drop_next dirs i d l) ∙ ap (λ n. arcs_of_dir amount s i (slice_index_or dirs i d) ++ arcs_from amount s n (drop (i + 1) dirs)) e ∙ ap (λ xs. xs ++ rest) (sym is) in
    ap (λ xs. xs ++ rest) grows ∙ append_assoc arcs added rest ∙ ap (λ xs. arcs ++ xs) (sym a) ∙ old

pub cap_is : (caps : List Cap) (d m x : ℕ) → m < 2 ^ 64 → x ≡ option_map_or (λ (c : Cap). c.cap) (find_cap caps d) (2 ^ 64 - 1) → min x m ≡ cap_in caps d m
cap_is caps d m x small e = from (find_cap caps d) e
  where
    from : (o : Option Cap) → x ≡ option_map_or (λ (c : Cap). c.cap) o (2 ^ 64 - 1) → min x m ≡ option_map_or (λ (c : Cap). min c.cap m) o m
    from None f = omega (arith, f, small)
    from (Some c) f = ap (λ y. min y m) f

pub cap_turn : (all : List ℕ) (caps : List Cap) (count i : ℕ) (d : Cap) → i < length caps → (slice_index_or caps (length caps - 1 - i) d).dir < count → length all ≡ count → ((x : ℕ) → x < count → slice_index_or all x 0 ≡ option_map_or (λ (c : Cap). c.cap) (find_cap (drop (length caps - i) caps) x) (2 ^ 64 - 1)) → (x : ℕ) → x < count → slice_index_or (set all (slice_index_or caps (length caps - 1 - i) d).dir (slice_index_or caps (length caps - 1 - i) d).cap) x 0 ≡ option_map_or (λ (c : Cap). c.cap) (find_cap (drop (length caps - (i + 1)) caps) x) (2 ^ 64 - 1)
cap_turn all caps count i d l dir_in long old x lx =
    let j = length caps - 1 - i in
    let c = slice_index_or caps j d in
    let after = drop (length caps - i) caps in
    let e : length caps - (i + 1) ≡ j = omega (arith, l) in
    let f : j + 1 ≡ length caps - i = omega (arith, l) in
    let g : drop (length caps - (i + 1)) caps ≡ c ∷ after = ap (λ n. drop n caps) e ∙ drop_next caps j d (omega (arith, l)) ∙ ap (λ n. c ∷ drop n caps) f in
    let target : option_map_or (λ (c : Cap). c.cap) (find_cap (drop (length caps - (i + 1)) caps) x) (2 ^ 64 - 1) ≡ option_map_or (λ (c : Cap). c.cap) (cond (nat_eq c.dir x) (Some c) (find_cap after x)) (2 ^ 64 - 1) = ap (λ cs. option_map_or (λ (c : Cap). c.cap) (find_cap cs x) (2 ^ 64 - 1)) g in
    ⊎_elim
    (λ (same : c.dir ≡ x). subst (λ n. slice_index_or (set all c.dir c.cap) n 0 ≡ c.cap) same (get_or-set_same all c.dir c.cap 0 (omega (arith, dir_in, long))) ∙ sym (target ∙ ap (λ b. option_map_or (λ (c : Cap). c.cap) (cond b (Some c) (find_cap after x)) (2 ^ 64 - 1)) (eq-eqb c.dir x same)))
    (λ (ne : c.dir ≡ x → ⊥). get_or-set_other all c.dir x c.cap 0 (λ q. ne (sym q)) ∙ old x lx ∙ sym (target ∙ ap (λ b. option_map_or (λ (c : Cap). c.cap) (cond b (Some c) (find_cap after x)) (2 ^ 64 - 1)) (ne_eqb c.dir x ne)))
    (cases_eq c.dir x)

pub all_arcs : (amount : ℕ) (s : RoundState) (arcs : List Arc) (dirs : List ViewDir) (i : ℕ) → length dirs ≤ i → arcs ++ arcs_from amount s i (drop i dirs) ≡ arcs_from amount s 0 dirs → arcs ≡ arcs_from amount s 0 dirs
all_arcs amount s arcs dirs i l old = sym (append-nil arcs) ∙ ap (λ ds. arcs ++ arcs_from amount s i ds) (sym (drop_all i dirs l)) ∙ old
