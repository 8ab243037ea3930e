-- Entries that are filtered and changed in one pass.
use Rattle.std.proofs.Common.{◌≡◌, List, [], ◌∷◌, ◌++◌, Bool, true, false, cond, Option, Some, None, refl, sym, ap, subst, ◌∙◌, append_assoc}
use Rattle.std.specs.Prelude.{map}
use Rattle.std.specs.List.{AllByRecursion, filter_map, cons_option, find}
use Rattle.std.specs.List.Sorted.{IsStrictlySortedBy}
use Rattle.std.specs.Option.{option_and_then}
use Rattle.std.specs.Ordering.{is_eq, ordering_reverse}
use Rattle.std.specs.declared.cmp.Ordering.TheVariants.{Less}
use Rattle.std.proofs.lemmas.Map.Keys.{sorted_head, sorted_tail}
use Rattle.plan_base.specs.Dir.{Direction, same_dir, dir_order}
use Rattle.channel_map.proofs.Ascending.{dir_order_total}
use Rattle.view_build.proofs.Dirs.{equal_is_same, same_is_equal}

-- one more entry
pub filtered_more : {X Y : Type 0} (f : X → Option Y) (kept : List Y) (rest later : List X) (x : X) (all : List Y) → rest ≡ x ∷ later
    → kept ++ filter_map f rest ≡ all → (kept ++ cons_option (f x) []) ++ filter_map f later ≡ all
filtered_more {X} {Y} f kept rest later x all rest_is before =
    append_assoc kept (cons_option (f x) []) (filter_map f later) ∙ ap (λ ys. kept ++ ys) (by (f x)) ∙ ap (λ xs. kept ++ filter_map f xs) (sym rest_is) ∙ before
  where
    by : (o : Option Y) → cons_option o [] ++ filter_map f later ≡ cons_option o (filter_map f later)
    by None = refl
    by (Some y) = refl

pub sorted_nil : IsStrictlySortedBy dir_order []
unfolding IsStrictlySortedBy
sorted_nil = tt

pub sorted_cons : (k : Direction) (ks : List Direction) → AllByRecursion (λ y. dir_order k y ≡ Less) ks → IsStrictlySortedBy dir_order ks → IsStrictlySortedBy dir_order (k ∷ ks)
unfolding IsStrictlySortedBy
sorted_cons k ks above sorted = (above, sorted)

pub less_apart : (a b : Direction) → dir_order a b ≡ Less → same_dir b a ≡ false
less_apart a b less = sym (equal_is_same b a) ∙ ap is_eq (dir_order_total.antisymm b a ∙ ap ordering_reverse less)

-- the first of a direction is the only one
pub none_above : {X : Type 0} (key : X → Direction) (k dir : Direction) (xs : List X) → AllByRecursion (λ y. dir_order k y ≡ Less) (map key xs) → same_dir k dir ≡ true
    → find (λ x. same_dir (key x) dir) xs ≡ None
none_above key k dir [] h e = refl
none_above key k dir (x ∷ xs) h e =
    let apart : same_dir (key x) dir ≡ false = rw (← same_is_equal k dir e) (less_apart k (key x) h.0) in
    rw apart (none_above key k dir xs h.1 e)

module _ {X Y : Type 0} (key : X → Direction) (out : Y → Direction) (f : X → Option Y) (keeps : (x : X) (y : Y) → f x ≡ Some y → out y ≡ key x) where
  still : (P : Direction → Type 0) (xs : List X) → AllByRecursion P (map key xs) → AllByRecursion P (map out (filter_map f xs))
  still P [] h = tt
  still P (x ∷ xs) h = by (still P xs h.1) (f x) refl
    where
      by : AllByRecursion P (map out (filter_map f xs)) → (o : Option Y) → f x ≡ o → AllByRecursion P (map out (cons_option o (filter_map f xs)))
      by rest None e = rest
      by rest (Some y) e = (subst P (sym (keeps x y e)) h.0, rest)

  pub still_sorted : (xs : List X) → IsStrictlySortedBy dir_order (map key xs) → IsStrictlySortedBy dir_order (map out (filter_map f xs))
  still_sorted [] s = s
  still_sorted (x ∷ xs) s = by (still_sorted xs (sorted_tail dir_order (key x) (map key xs) s)) (f x) refl
    where
      by : IsStrictlySortedBy dir_order (map out (filter_map f xs)) → (o : Option Y) → f x ≡ o → IsStrictlySortedBy dir_order (map out (cons_option o (filter_map f xs)))
      by rest None e = rest
      by rest (Some y) e =
          let above = still (λ k. dir_order (key x) k ≡ Less) xs (sorted_head dir_order (key x) (map key xs) s) in
          sorted_cons (out y) (map out (filter_map f xs)) (subst (λ d. AllByRecursion (λ k. dir_order d k ≡ Less) (map out (filter_map f xs))) (sym (keeps x y e)) above) rest

  pub found_filtered : (dir : Direction) (xs : List X) → IsStrictlySortedBy dir_order (map key xs)
      → find (λ y. same_dir (out y) dir) (filter_map f xs) ≡ option_and_then f (find (λ x. same_dir (key x) dir) xs)
  found_filtered dir [] s = refl
  found_filtered dir (x ∷ xs) s = by (found_filtered dir xs (sorted_tail dir_order (key x) (map key xs) s)) (f x) refl (same_dir (key x) dir) refl
    where
      by : find (λ y. same_dir (out y) dir) (filter_map f xs) ≡ option_and_then f (find (λ x. same_dir (key x) dir) xs) → (o : Option Y) → f x ≡ o → (same : Bool) → same_dir (key x) dir ≡ same
          → find (λ y. same_dir (out y) dir) (cons_option o (filter_map f xs)) ≡ option_and_then f (cond same (Some x) (find (λ x. same_dir (key x) dir) xs))
      by rest None e true g = rest ∙ ap (option_and_then f) (none_above key (key x) dir xs (sorted_head dir_order (key x) (map key xs) s) g) ∙ sym e
      by rest None e false g = rest
      by rest (Some y) e true g = rw (keeps x y e, g) (sym e)
      by rest (Some y) e false g = rw (keeps x y e, g) rest
