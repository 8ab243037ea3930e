-- Turns of the loops over caps.
use Rattle.std.proofs.Common.{ℕ, suc, ◌+◌, ◌-◌, ◌<◌, ◌≤◌, ◌≡◌, Bool, false, cond, List, [], ◌∷◌, ◌++◌, sym, refl, ap, ◌∙◌, subst, ⊎_elim, arith, length, true}
use Rattle.std.proofs.lemmas.List.Folds.{list_any_more}
use Rattle.std.proofs.lemmas.List.Elements.{All-head, All-tail}
use Rattle.view_build.specs.View.{ViewParts}
use Rattle.round_rules.specs.Faults.{all_dirs}
use Rattle.round_rules.proofs.Caps.{place_in}
use Rattle.std.proofs.Math.Bool.{or-true, or-false}
use Rattle.std.specs.Prelude.{All, take, ◌||◌, set, drop, nat_eq, Option, None, Some, slice_index_or}
use Rattle.std.specs.List.{filter_map, range_with_len, cons_option}
use Rattle.std.proofs.lemmas.Bool.{cases_eq, eq-eqb, ne_eqb}
use Rattle.std.proofs.lemmas.List.{append_assoc, append-nil, get_or-set_same, get_or-set_other}
use Rattle.round_rules.specs.declared.round.Cap.{Cap}
use Rattle.round_rules.specs.Instance.{find_cap}
use Rattle.round_rules.specs.Next.{raised, caps_after, is_listed}
use Rattle.view_build.specs.declared.view.ViewDir.{ViewDir}
use Rattle.round_rules.specs.View.{no_dir}
use Rattle.limit_rounds.specs.declared.loads.Load.{Load}
use Rattle.limit_rounds.specs.declared.units.Share.{Share}
use Rattle.limit_rounds.specs.Loads.{load_at, no_load}
use Rattle.limit_rounds.specs.Caps.{cap_for_load, next_entry, no_share, share_at, entry}
use Rattle.std.proofs.lemmas.List.{get_or_default}
use Rattle.limit_rounds.proofs.Building.{drop_next}

pub range_next : (i n : ℕ) → i < n → range_with_len i (n - i) ≡ i ∷ range_with_len (i + 1) (n - (i + 1))
range_next i n l = let e : n - i ≡ suc (n - (i + 1)) = omega (arith, l) in ap (range_with_len i) e

pub entry_turn : (f : ℕ → Option Cap) (out more : List Cap) (i n : ℕ) (whole : List Cap) → i < n → more ≡ out ++ cons_option (f i) [] → out ++ filter_map f (range_with_len i (n - i)) ≡ whole → more ++ filter_map f (range_with_len (i + 1) (n - (i + 1))) ≡ whole
entry_turn f out more i n whole l grows old =
    let rest = filter_map f (range_with_len (i + 1) (n - (i + 1))) in
    ap (λ xs. xs ++ rest) grows ∙ append_assoc out (cons_option (f i) []) rest ∙ ap (λ xs. out ++ xs) (one (f i) rest) ∙ ap (λ xs. out ++ filter_map f xs) (sym (range_next i n l)) ∙ old
  where
    one : (o : Option Cap) (rest : List Cap) → cons_option o [] ++ rest ≡ cons_option o rest
    one None rest = refl
    one (Some c) rest = refl

pub entry_end : (f : ℕ → Option Cap) (out : List Cap) (i n : ℕ) (whole : List Cap) → n ≤ i → out ++ filter_map f (range_with_len i (n - i)) ≡ whole → out ≡ whole
entry_end f out i n whole l old = let e : n - i ≡ 0 = omega (arith, l) in sym (append-nil out) ∙ ap (λ k. out ++ filter_map f (range_with_len i k)) (sym e) ∙ old

pub found_turn : (all : List (Option Cap)) (caps : List Cap) (count i : ℕ) (d : Cap) → i < length caps → (slice_index_or caps (length caps - 1 - i) d).dir < count → length all ≡ count → ((x : ℕ) → x < count → slice_index_or all x None ≡ find_cap (drop (length caps - i) caps) x) → (x : ℕ) → x < count → slice_index_or (set all (slice_index_or caps (length caps - 1 - i) d).dir (Some (slice_index_or caps (length caps - 1 - i) d))) x None ≡ find_cap (drop (length caps - (i + 1)) caps) x
found_turn all caps count i d l dir_in long old x lx =
    let j = length caps - 1 - i in
    let c = slice_index_or caps j d in
    let after = drop (length caps - i) caps in
    let e : length caps - (i + 1) ≡ j = omega (arith, l) in
    let f : j + 1 ≡ length caps - i = omega (arith, l) in
    let g : drop (length caps - (i + 1)) caps ≡ c ∷ after = ap (λ n. drop n caps) e ∙ drop_next caps j d (omega (arith, l)) ∙ ap (λ n. c ∷ drop n caps) f in
    let target : find_cap (drop (length caps - (i + 1)) caps) x ≡ cond (nat_eq c.dir x) (Some c) (find_cap after x) = ap (λ cs. find_cap cs x) g in
    ⊎_elim
    (λ (same : c.dir ≡ x). subst (λ n. slice_index_or (set all c.dir (Some c)) n None ≡ Some c) same (get_or-set_same all c.dir (Some c) None (omega (arith, dir_in, long))) ∙ sym (target ∙ ap (λ b. cond b (Some c) (find_cap after x)) (eq-eqb c.dir x same)))
    (λ (ne : c.dir ≡ x → ⊥). get_or-set_other all c.dir x (Some c) None (λ q. ne (sym q)) ∙ old x lx ∙ sym (target ∙ ap (λ b. cond b (Some c) (find_cap after x)) (ne_eqb c.dir x ne)))
    (cases_eq c.dir x)

filter_map_same : (g h : ℕ → Option Cap) (xs : List ℕ) → All (λ x. g x ≡ h x) xs → filter_map g xs ≡ filter_map h xs
filter_map_same g h [] same = refl
filter_map_same g h (x ∷ xs) same = ap (λ o. cons_option o (filter_map g xs)) (All-head (λ y. g y ≡ h y) x xs same) ∙ ap (cons_option (h x)) (filter_map_same g h xs (All-tail (λ y. g y ≡ h y) x xs same))

-- the raised caps are those after the round
pub raised_all : (view : ViewParts) (caps caps' : List Cap) (wanted wanted' : List (Option ℕ)) (listed : ℕ → Bool) (cap : ℕ → ℕ) → caps' ≡ caps → wanted' ≡ wanted → length wanted ≡ length view.dirs → ((d : ℕ) → d < length view.dirs → slice_index_or wanted d None ≡ cond (listed d) (Some (cap d)) None) → filter_map (entry caps' wanted') (range_with_len 0 (length wanted')) ≡ caps_after view caps listed cap
raised_all view caps caps' wanted wanted' listed cap same_caps same long value =
    ap (λ cs. filter_map (entry cs wanted') (range_with_len 0 (length wanted'))) same_caps
    ∙ ap (λ ws. filter_map (entry caps ws) (range_with_len 0 (length ws))) same
    ∙ ap (λ n. filter_map (entry caps wanted) (range_with_len 0 n)) long
    ∙ filter_map_same (entry caps wanted) (λ dir. cond (listed dir) (Some (raised caps dir (cap dir))) (find_cap caps dir)) (all_dirs view) (λ k e l. each _ (place_in view k e l))
  where
    each : (d : ℕ) → d < length view.dirs → entry caps wanted d ≡ cond (listed d) (Some (raised caps d (cap d))) (find_cap caps d)
    each d l = ap (λ o. next_entry d o (find_cap caps d)) (value d l) ∙ by (listed d)
      where
        by : (b : Bool) → next_entry d (cond b (Some (cap d)) None) (find_cap caps d) ≡ cond b (Some (raised caps d (cap d))) (find_cap caps d)
        by true = refl
        by false = refl

-- one more listed direction gets its cap
pub wanted_turn : (all : List (Option ℕ)) (listed : List ℕ) (count i : ℕ) (f : ℕ → ℕ) (x : ℕ) → i < length listed → slice_index_or listed i 0 < count → length all ≡ count → x ≡ f (slice_index_or listed i 0) → ((d : ℕ) → d < count → slice_index_or all d None ≡ cond (is_listed (take i listed) d) (Some (f d)) None) → (d : ℕ) → d < count → slice_index_or (set all (slice_index_or listed i 0) (Some x)) d None ≡ cond (is_listed (take (i + 1) listed) d) (Some (f d)) None
wanted_turn all listed count i f x l within long is old d ld =
    let u = slice_index_or listed i 0 in
    let more = list_any_more (nat_eq d) listed i 0 l in
    ⊎_elim
    (λ (e : u ≡ d). subst (λ n. slice_index_or (set all n (Some x)) d None ≡ Some (f n)) (sym e) (get_or-set_same all d (Some x) None (omega (arith, ld, long)) ∙ ap Some is ∙ ap (λ n. Some (f n)) e) ∙ ap (λ n. Some (f n)) e ∙ sym (ap (λ b. cond b (Some (f d)) None) (more ∙ ap (λ b. is_listed (take i listed) d || b) (eq-eqb d u (sym e)) ∙ or-true (is_listed (take i listed) d))))
    (λ (ne : u ≡ d → ⊥). get_or-set_other all u d (Some x) None (λ q. ne (sym q)) ∙ old d ld ∙ sym (ap (λ b. cond b (Some (f d)) None) (more ∙ ap (λ b. is_listed (take i listed) d || b) (ne_eqb d u (λ q. ne (sym q))) ∙ or-false (is_listed (take i listed) d))))
    (cases_eq u d)

pub cap_is_for_load : (dirs : List ViewDir) (loads : List Load) (shares : List Share) (unit d : ℕ) (v w : ViewDir) (e : Load) (s : Share) → d < length dirs → length loads ≡ length dirs → length shares ≡ length dirs → v ≡ slice_index_or dirs d w → cap_for_load v (slice_index_or loads d e) (slice_index_or shares d s).units unit ≡ cap_for_load (slice_index_or dirs d no_dir) (load_at loads d) (share_at shares d).units unit
cap_is_for_load dirs loads shares unit d v w e s l long_loads long_shares is =
    ap (λ (x : Load). cap_for_load v x (slice_index_or shares d s).units unit) (get_or_default loads d e no_load (omega (arith, l, long_loads)))
    ∙ ap (λ (x : Share). cap_for_load v (load_at loads d) x.units unit) (get_or_default shares d s no_share (omega (arith, l, long_shares)))
    ∙ ap (λ (x : ViewDir). cap_for_load x (load_at loads d) (share_at shares d).units unit) (is ∙ get_or_default dirs d w no_dir l)
