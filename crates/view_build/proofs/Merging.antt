-- What two ascending lists of directions have as one.
use Rattle.std.proofs.Common.{◌≡◌, ◌+◌, List, [], ◌∷◌, ◌++◌, length, Bool, true, false, Option, Some, None, if◌then◌else◌, refl, sym, ap, ◌∙◌, arith}
use Rattle.std.specs.List.{AllByRecursion}
use Rattle.std.specs.Option.{option_or, is_some}
use Rattle.std.specs.Ordering.{is_lt, is_eq, ordering_reverse}
use Rattle.std.specs.declared.cmp.Ordering.{Ordering}
use Rattle.std.specs.declared.cmp.Ordering.TheVariants.{Less, Equal, Greater}
use Rattle.std.proofs.lemmas.Bool.Decides.{nat_tests}
use Rattle.std.proofs.lemmas.List.{length-append}
use Rattle.std.proofs.lemmas.Map.Keys.{sorted_head, sorted_tail}
use Rattle.channel_map.specs.declared.edge.Edge.{Edge}
use Rattle.channel_map.specs.Edge.{IsAscending, directions_of}
use Rattle.channel_map.specs.Listed.{edge_for}
use Rattle.channel_map.proofs.Ascending.{dir_order_total}
use Rattle.plan_base.specs.Dir.{Direction, same_dir, dir_order}
use Rattle.view_build.specs.Merged.{below, from_dir, merged}
use Rattle.view_build.proofs.Dirs.{equal_is_same}
use Rattle.view_build.proofs.Each.{each_append, each_map, each_unmap, each_more}
use Rattle.view_build.proofs.Filtered.{sorted_nil, sorted_cons}

-- ---- each direction of both

module _ (P : Edge → Type 0) where
  each_below : (dir : Direction) (edges : List Edge) → AllByRecursion P edges → AllByRecursion P (below dir edges)
  each_below dir [] h = tt
  each_below dir (e ∷ edges) h = by (each_below dir edges h.1) (is_lt (dir_order e.dir dir))
    where
      by : AllByRecursion P (below dir edges) → (less : Bool) → AllByRecursion P (if less then e ∷ below dir edges else [])
      by rest true = (h.0, rest)
      by rest false = tt

  each_from : (dir : Direction) (edges : List Edge) → AllByRecursion P edges → AllByRecursion P (from_dir dir edges)
  each_from dir [] h = tt
  each_from dir (e ∷ edges) h = by (each_from dir edges h.1) (is_lt (dir_order e.dir dir))
    where
      by : AllByRecursion P (from_dir dir edges) → (less : Bool) → AllByRecursion P (if less then from_dir dir edges else e ∷ edges)
      by rest true = rest
      by rest false = h

  pub each_merged : (edges others : List Edge) → AllByRecursion P edges → AllByRecursion P others → AllByRecursion P (merged edges others)
  each_merged [] others h i = i
  each_merged (e ∷ edges) others h i =
      each_append P (below e.dir others) (e ∷ merged edges (from_dir e.dir others)) (each_below e.dir others i) (h.0, each_merged edges (from_dir e.dir others) h.1 (each_from e.dir others i))

-- ---- their order

abbrev above : Direction → Edge → Type 0
above dir edge = dir_order dir edge.dir ≡ Less

head_above : (e : Edge) (edges : List Edge) → IsAscending (e ∷ edges) → AllByRecursion (above e.dir) edges
head_above e edges up = each_unmap (λ d. dir_order e.dir d ≡ Less) (λ (x : Edge). x.dir) edges (sorted_head dir_order e.dir (directions_of edges) up)

tail_up : (e : Edge) (edges : List Edge) → IsAscending (e ∷ edges) → IsAscending edges
tail_up e edges up = sorted_tail dir_order e.dir (directions_of edges) up

cons_up : (e : Edge) (edges : List Edge) → AllByRecursion (above e.dir) edges → IsAscending edges → IsAscending (e ∷ edges)
cons_up e edges h up = sorted_cons e.dir (directions_of edges) (each_map (λ d. dir_order e.dir d ≡ Less) (λ (x : Edge). x.dir) edges h) up

raised : (a b : Direction) (edges : List Edge) → dir_order a b ≡ Less → AllByRecursion (above b) edges → AllByRecursion (above a) edges
raised a b edges less h = each_more (above b) (above a) (λ x i. dir_order_total.trans a b x.dir less i) edges h

below_up : (dir : Direction) (edges : List Edge) → IsAscending edges → IsAscending (below dir edges)
below_up dir [] up = sorted_nil
below_up dir (e ∷ edges) up = by (below_up dir edges (tail_up e edges up)) (is_lt (dir_order e.dir dir))
  where
    by : IsAscending (below dir edges) → (less : Bool) → IsAscending (if less then e ∷ below dir edges else [])
    by rest true = cons_up e (below dir edges) (each_below (above e.dir) dir edges (head_above e edges up)) rest
    by rest false = sorted_nil

from_up : (dir : Direction) (edges : List Edge) → IsAscending edges → IsAscending (from_dir dir edges)
from_up dir [] up = up
from_up dir (e ∷ edges) up = by (from_up dir edges (tail_up e edges up)) (is_lt (dir_order e.dir dir))
  where
    by : IsAscending (from_dir dir edges) → (less : Bool) → IsAscending (if less then from_dir dir edges else e ∷ edges)
    by rest true = rest
    by rest false = up

less_from : (r : Ordering) → is_lt r ≡ true → r ≡ Less
less_from Less e = refl
less_from Equal e = cc
less_from Greater e = cc

below_less : (dir : Direction) (edges : List Edge) → AllByRecursion (λ (x : Edge). dir_order x.dir dir ≡ Less) (below dir edges)
below_less dir [] = tt
below_less dir (e ∷ edges) = by (below_less dir edges) (is_lt (dir_order e.dir dir)) refl
  where
    by : AllByRecursion (λ (x : Edge). dir_order x.dir dir ≡ Less) (below dir edges) → (less : Bool) → is_lt (dir_order e.dir dir) ≡ less
        → AllByRecursion (λ (x : Edge). dir_order x.dir dir ≡ Less) (if less then e ∷ below dir edges else [])
    by rest true is = (less_from (dir_order e.dir dir) is, rest)
    by rest false is = tt

from_above : (dir : Direction) (edges : List Edge) → IsAscending edges → edge_for dir edges ≡ None → AllByRecursion (above dir) (from_dir dir edges)
from_above dir [] up none = tt
from_above dir (e ∷ edges) up none = by (from_above dir edges (tail_up e edges up)) (dir_order e.dir dir) refl
  where
    same : same_dir e.dir dir ≡ is_eq (dir_order e.dir dir)
    same = sym (equal_is_same e.dir dir)

    by : (edge_for dir edges ≡ None → AllByRecursion (above dir) (from_dir dir edges)) → (r : Ordering) → dir_order e.dir dir ≡ r
        → AllByRecursion (above dir) (if is_lt r then from_dir dir edges else e ∷ edges)
    by rest Less is = rest (rw (same, is) at none)
    by rest Equal is = let some = rw (same, is) at none in absurd (cc)
    by rest Greater is =
        let less : dir_order dir e.dir ≡ Less = dir_order_total.antisymm dir e.dir ∙ ap ordering_reverse is in
        (less, raised dir e.dir edges less (head_above e edges up))

joined_up : (xs : List Edge) (e : Edge) (ys : List Edge) → IsAscending xs → AllByRecursion (λ (x : Edge). dir_order x.dir e.dir ≡ Less) xs → IsAscending (e ∷ ys) → IsAscending (xs ++ e ∷ ys)
joined_up [] e ys up h later = later
joined_up (x ∷ xs) e ys up h later =
    cons_up x (xs ++ e ∷ ys) (each_append (above x.dir) xs (e ∷ ys) (head_above x xs up) (h.0, raised x.dir e.dir ys h.0 (head_above e ys later)))
    (joined_up xs e ys (tail_up x xs up) h.1 later)

-- ---- what they have

-- no direction is in both
abbrev pub AreApart : List Edge → List Edge → Type 0
AreApart edges others = (dir : Direction) → is_some (edge_for dir edges) ≡ true → edge_for dir others ≡ None

parts : (dir : Direction) (edges : List Edge) → below dir edges ++ from_dir dir edges ≡ edges
parts dir [] = refl
parts dir (e ∷ edges) = by (parts dir edges) (is_lt (dir_order e.dir dir))
  where
    by : below dir edges ++ from_dir dir edges ≡ edges → (less : Bool) → (if less then e ∷ below dir edges else []) ++ (if less then from_dir dir edges else e ∷ edges) ≡ e ∷ edges
    by rest true = ap (λ xs. e ∷ xs) rest
    by rest false = refl

pub merged_length : (edges others : List Edge) → length (merged edges others) ≡ length edges + length others
merged_length [] others = omega arith
merged_length (e ∷ edges) others =
    let rest = merged_length edges (from_dir e.dir others) in
    let both = sym (length-append (below e.dir others) (from_dir e.dir others)) ∙ ap length (parts e.dir others) in
    length-append (below e.dir others) (e ∷ merged edges (from_dir e.dir others)) ∙ omega (arith, rest, both)

edge_append : (dir : Direction) (xs ys : List Edge) → edge_for dir (xs ++ ys) ≡ option_or (edge_for dir xs) (edge_for dir ys)
edge_append dir [] ys = refl
edge_append dir (x ∷ xs) ys = by (edge_append dir xs ys) (same_dir x.dir dir)
  where
    by : edge_for dir (xs ++ ys) ≡ option_or (edge_for dir xs) (edge_for dir ys) → (same : Bool)
        → (if same then Some x else edge_for dir (xs ++ ys)) ≡ option_or (if same then Some x else edge_for dir xs) (edge_for dir ys)
    by rest true = refl
    by rest false = rest

-- the parts of the others
other_parts : (dir at : Direction) (others : List Edge) → edge_for dir others ≡ option_or (edge_for dir (below at others)) (edge_for dir (from_dir at others))
other_parts dir at others = ap (edge_for dir) (sym (parts at others)) ∙ edge_append dir (below at others) (from_dir at others)

none_of : (a b : Option Edge) → option_or a b ≡ None → b ≡ None
none_of None b e = e
none_of (Some x) b e = absurd (cc)

still_apart : (e : Edge) (edges others : List Edge) → AreApart (e ∷ edges) others → AreApart edges (from_dir e.dir others)
still_apart e edges others apart dir some =
    none_of (edge_for dir (below e.dir others)) (edge_for dir (from_dir e.dir others)) (sym (other_parts dir e.dir others) ∙ apart dir (by (same_dir e.dir dir)))
  where
    by : (same : Bool) → is_some (if same then Some e else edge_for dir edges) ≡ true
    by true = refl
    by false = some

pub merged_edge : (edges others : List Edge) → AreApart edges others → (dir : Direction) → edge_for dir (merged edges others) ≡ option_or (edge_for dir edges) (edge_for dir others)
merged_edge [] others apart dir = refl
merged_edge (e ∷ edges) others apart dir =
    edge_append dir (below e.dir others) (e ∷ merged edges (from_dir e.dir others))
    ∙ by (merged_edge edges (from_dir e.dir others) (still_apart e edges others apart) dir) (edge_for dir (below e.dir others)) (same_dir e.dir dir) (apart dir) (other_parts dir e.dir others)
  where
    last : (x : Edge) → edge_for dir others ≡ Some x → (o : Option Edge) → (is_some o ≡ true → edge_for dir others ≡ None) → Some x ≡ option_or o (edge_for dir others)
    last x is None none = sym is
    last x is (Some y) none = absurd (let none_is = none refl in cc)

    by : edge_for dir (merged edges (from_dir e.dir others)) ≡ option_or (edge_for dir edges) (edge_for dir (from_dir e.dir others)) → (before : Option Edge) (same : Bool)
        → (is_some (if same then Some e else edge_for dir edges) ≡ true → edge_for dir others ≡ None) → edge_for dir others ≡ option_or before (edge_for dir (from_dir e.dir others))
        → option_or before (if same then Some e else edge_for dir (merged edges (from_dir e.dir others))) ≡ option_or (if same then Some e else edge_for dir edges) (edge_for dir others)
    by more None true none is = refl
    by more None false none is = more ∙ ap (option_or (edge_for dir edges)) (sym is)
    by more (Some x) same none is = last x is (if same then Some e else edge_for dir edges) none

pub itself : (dir : Direction) → same_dir dir dir ≡ true
itself dir = grind (arith, nat_tests)

pub merged_up : (edges others : List Edge) → IsAscending edges → IsAscending others → AreApart edges others → IsAscending (merged edges others)
merged_up [] others up others_up apart = others_up
merged_up (e ∷ edges) others up others_up apart =
    let rest = from_dir e.dir others in
    let none : edge_for e.dir others ≡ None = apart e.dir (rw (itself e.dir) refl) in
    let more = merged_up edges rest (tail_up e edges up) (from_up e.dir others others_up) (still_apart e edges others apart) in
    joined_up (below e.dir others) e (merged edges rest) (below_up e.dir others others_up) (below_less e.dir others)
    (cons_up e (merged edges rest) (each_merged (above e.dir) edges rest (head_above e edges up) (from_above e.dir others others_up none)) more)
