-- Directions without repetition, sorted, ascend.
use Rattle.std.proofs.Common.{◌≡◌, ℕ, ◌+◌, ◌<◌, List, [], ◌∷◌, ◌++◌, length, get_or, Bool, true, false, Some, None, if◌then◌else◌, refl, sym, ap, ◌∙◌, arith, true≢false, append_assoc, append-nil}
use Rattle.std.specs.Cmp.{IsTotalOrder, IsEquivalence, nat_cmp_total, nat_eq_equiv, then_total, on_total, and_equiv, on_equiv}
use Rattle.std.specs.List.{list_any, AllByRecursion, IsDistinct}
use Rattle.std.specs.List.Sorted.{IsPermutation, IsSortedByKey}
use Rattle.std.specs.Ordering.{ordering_reverse, is_lt, is_eq, eq_by_cmp}
use Rattle.std.specs.declared.cmp.Ordering.{Ordering}
use Rattle.std.specs.declared.cmp.Ordering.TheVariants.{Less, Equal, Greater}
use Rattle.std.proofs.lemmas.Bool.Decides.{nat_tests}
use Rattle.std.proofs.lemmas.List.{get_or-map, length-map}
use Rattle.std.proofs.lemmas.List.Sorted.{IsPermutation-map, IsPermutation-sym}
use Rattle.std.proofs.lemmas.Map.Keys.{IsDistinct-cons, IsDistinct-from_sorted, IsDistinct-head, IsDistinct-tail, IsDistinct-push, IsDistinct-IsPermutation, apart_from_distinct, sorted_from_all_adjacent}
use Rattle.plan_base.specs.Dir.{Direction, same_dir, dir_order}
use Rattle.channel_map.specs.declared.edge.Edge.{Edge}
use Rattle.channel_map.specs.Edge.{directions_of, IsAscending}
use Rattle.channel_map.specs.Reading.{repeated_after, first_repeated}

IsDistinct-nil : (e : Direction → Direction → Bool) → IsDistinct e []
unfolding IsDistinct
IsDistinct-nil e = tt

pub dir_order_total : IsTotalOrder dir_order
dir_order_total = then_total (on_total (λ (d : Direction). d.scid) nat_cmp_total) (on_total (λ (d : Direction). d.side) nat_cmp_total)

pub same_dir_equiv : IsEquivalence same_dir
same_dir_equiv = and_equiv (on_equiv (λ (d : Direction). d.scid) nat_eq_equiv) (on_equiv (λ (d : Direction). d.side) nat_eq_equiv)

distinct_from : (seen : List Direction) (edges : List Edge) → IsDistinct same_dir seen → repeated_after seen edges ≡ None → IsDistinct same_dir (seen ++ directions_of edges)
distinct_from seen [] h e = rw (append-nil seen) h
distinct_from seen (edge ∷ edges) h e = by (distinct_from (seen ++ edge.dir ∷ []) edges) (list_any (same_dir edge.dir) seen) refl e
  where
    by : (IsDistinct same_dir (seen ++ edge.dir ∷ []) → repeated_after (seen ++ edge.dir ∷ []) edges ≡ None → IsDistinct same_dir ((seen ++ edge.dir ∷ []) ++ directions_of edges))
        → (b : Bool) → list_any (same_dir edge.dir) seen ≡ b → (if b then Some edge.dir else repeated_after (seen ++ edge.dir ∷ []) edges) ≡ None → IsDistinct same_dir (seen ++ directions_of (edge ∷ edges))
    by rest true is f = absurd (cc)
    by rest false is f = rw (append_assoc seen (edge.dir ∷ []) (directions_of edges)) at (rest (IsDistinct-push same_dir_equiv seen edge.dir h is) f)

-- the same direction has no order, and only it has none
pub order_of_same : (a b : Direction) → same_dir a b ≡ eq_by_cmp dir_order a b
order_of_same a b = grind (arith, nat_tests)

less : (a b : Direction) → is_lt (dir_order b a) ≡ false → same_dir a b ≡ false → dir_order a b ≡ Less
less a b f g = by (dir_order a b) refl
  where
    by : (r : Ordering) → dir_order a b ≡ r → dir_order a b ≡ Less
    by Less e = e
    by Equal e = absurd (true≢false (sym (order_of_same a b ∙ ap is_eq e) ∙ g))
    by Greater e = absurd (true≢false (sym (ap is_lt (dir_order_total.antisymm b a ∙ ap ordering_reverse e)) ∙ f))

rising : (edges : List Edge) → IsDistinct same_dir (directions_of edges) → IsSortedByKey (λ edge. edge.dir) dir_order edges → IsAscending edges
rising [] h s = sorted_from_all_adjacent dir_order_total [] (record { scid = 0; side = 0 }) (λ k l. absurd (omega arith))
rising (edge ∷ edges) h s =
    let all = edge ∷ edges in
    let key : Edge → Direction = λ (x : Edge). x.dir in
    let long : length (directions_of all) ≡ length all = length-map all key in
    sorted_from_all_adjacent dir_order_total (directions_of all) edge.dir (λ k l.
    (let first : k < length all = omega (arith, long) in
    let second : k + 1 < length all = omega (arith, long) in
    let apart = apart_from_distinct same_dir (directions_of all) k (k + 1) edge.dir h (omega arith) l in
    let a = get_or-map key all k edge edge.dir first in
    let b = get_or-map key all (k + 1) edge edge.dir second in
    rw (a, b) (less (get_or all k edge).dir (get_or all (k + 1) edge).dir (s k edge (omega arith) second) (rw (a, b) at apart))))

pub ascending_from_sort : (old edges : List Edge) → first_repeated old ≡ None → IsPermutation old edges → IsSortedByKey (λ edge. edge.dir) dir_order edges → IsAscending edges
ascending_from_sort old edges none moved sorted =
    let before = distinct_from [] old (IsDistinct-nil same_dir) none in
    rising edges (IsDistinct-IsPermutation same_dir same_dir_equiv.symm (directions_of old) (directions_of edges) (IsPermutation-map (λ (x : Edge). x.dir) old edges moved) before) sorted

-- ---- directions that ascend in some order have no repetition

apart : (x s : Direction) (seen rest : List Direction) → AllByRecursion (λ y. same_dir s y ≡ false) (seen ++ x ∷ rest) → same_dir x s ≡ false
apart x s [] rest h = same_dir_equiv.symm x s ∙ h.0
apart x s (t ∷ seen) rest h = apart x s seen rest h.1

lacks : (x : Direction) (seen rest : List Direction) → IsDistinct same_dir (seen ++ x ∷ rest) → list_any (same_dir x) seen ≡ false
lacks x [] rest h = refl
lacks x (s ∷ seen) rest h =
    let first : same_dir x s ≡ false = apart x s seen rest (IsDistinct-head same_dir s (seen ++ x ∷ rest) h) in
    let others : list_any (same_dir x) seen ≡ false = lacks x seen rest (IsDistinct-tail same_dir s (seen ++ x ∷ rest) h) in
    rw (first, others) refl

none_after : (seen : List Direction) (edges : List Edge) → IsDistinct same_dir (seen ++ directions_of edges) → repeated_after seen edges ≡ None
none_after seen [] h = refl
none_after seen (edge ∷ edges) h =
    ap (λ b. if b then Some edge.dir else repeated_after (seen ++ edge.dir ∷ []) edges) (lacks edge.dir seen (directions_of edges) h)
    ∙ none_after (seen ++ edge.dir ∷ []) edges (rw (append_assoc seen (edge.dir ∷ []) (directions_of edges)) h)

all_apart : (x : Direction) (ds : List Direction) → AllByRecursion (λ y. eq_by_cmp dir_order x y ≡ false) ds → AllByRecursion (λ y. same_dir x y ≡ false) ds
all_apart x [] h = tt
all_apart x (d ∷ ds) h = (order_of_same x d ∙ h.0, all_apart x ds h.1)

same_distinct : (ds : List Direction) → IsDistinct (eq_by_cmp dir_order) ds → IsDistinct same_dir ds
same_distinct [] h = IsDistinct-nil same_dir
same_distinct (d ∷ ds) h =
    IsDistinct-cons same_dir d ds (all_apart d ds (IsDistinct-head (eq_by_cmp dir_order) d ds h)) (same_distinct ds (IsDistinct-tail (eq_by_cmp dir_order) d ds h))

pub none_repeated : (old edges : List Edge) → IsPermutation old edges → IsAscending edges → first_repeated old ≡ None
none_repeated old edges moved up =
    let key : Edge → Direction = λ (x : Edge). x.dir in
    let after = same_distinct (directions_of edges) (IsDistinct-from_sorted dir_order (directions_of edges) up) in
    none_after [] old (IsDistinct-IsPermutation same_dir same_dir_equiv.symm (directions_of edges) (directions_of old) (IsPermutation-map key edges old (IsPermutation-sym old edges moved)) after)

pub ascending_from_steps : (edges : List Edge) → ((k : ℕ) (d : Edge) → k + 1 < length edges → dir_order (get_or edges k d).dir (get_or edges (k + 1) d).dir ≡ Less) → IsAscending edges
ascending_from_steps [] h = sorted_from_all_adjacent dir_order_total [] (record { scid = 0; side = 0 }) (λ k l. absurd (omega arith))
ascending_from_steps (edge ∷ edges) h =
    let all = edge ∷ edges in
    let key : Edge → Direction = λ (x : Edge). x.dir in
    let long : length (directions_of all) ≡ length all = length-map all key in
    sorted_from_all_adjacent dir_order_total (directions_of all) edge.dir (λ k l.
    (let second : k + 1 < length all = omega (arith, long) in
    let a = get_or-map key all k edge edge.dir (omega arith) in
    let b = get_or-map key all (k + 1) edge edge.dir second in
    rw (a, b) (h k edge second)))
