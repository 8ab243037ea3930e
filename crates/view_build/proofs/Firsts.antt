-- The first entries of directions, in a loop over entries.
use Rattle.std.proofs.Common.{◌≡◌, ◌≢◌, ℕ, zero, suc, ◌+◌, ◌<◌, List, [], ◌∷◌, ◌++◌, length, take, get_or, Bool, true, false, cond, eqb, Option, Some, None, refl, sym, ap, ◌∙◌, arith}
use Rattle.std.specs.Prelude.{position}
use Rattle.std.specs.List.{find, position_or_len}
use Rattle.std.specs.Option.{option_or, is_some, option_eq}
use Rattle.std.proofs.lemmas.Bool.Decides.{nat_tests}
use Rattle.std.proofs.lemmas.List.{take_more}
use Rattle.std.proofs.lemmas.List.Folds.{find-append}
use Rattle.plan_base.specs.Dir.{Direction, same_dir}
use Rattle.view_build.specs.First.{applied}
use Rattle.view_build.proofs.Dirs.{same_is_equal}

-- nothing passes before the first that does
none_before : {X : Type 0} (test : X → Bool) (xs : List X) → find test (take (position_or_len test xs) xs) ≡ None
none_before test [] = refl
none_before {X} test (x ∷ xs) = by (test x) refl (none_before test xs)
  where
    by : (b : Bool) → test x ≡ b → find test (take (position_or_len test xs) xs) ≡ None → find test (take (position_or_len test (x ∷ xs)) (x ∷ xs)) ≡ None
    by true e h = rw e refl
    by false e h =
        let more : position_or_len test (x ∷ xs) ≡ suc (position_or_len test xs) = rw e (omega arith) in
        let none : find test (take (suc (position_or_len test xs)) (x ∷ xs)) ≡ None = rw e h in
        rw more none

-- what passes, and is not the first, has one before it
some_before : {X : Type 0} (test : X → Bool) (xs : List X) (i : ℕ) (d : X) → i < length xs → test (get_or xs i d) ≡ true → position_or_len test xs ≢ i → is_some (find test (take i xs)) ≡ true
some_before test [] i d within passes other = absurd (omega arith)
some_before test (x ∷ xs) zero d within passes other = absurd (other (rw passes refl))
some_before {X} test (x ∷ xs) (suc i) d within passes other = by (test x) refl (some_before test xs i d (omega arith) passes)
  where
    by : (b : Bool) → test x ≡ b → (position_or_len test xs ≢ i → is_some (find test (take i xs)) ≡ true) → is_some (find test (take (suc i) (x ∷ xs))) ≡ true
    by true e h = rw e refl
    by false e h =
        let more : position_or_len test (x ∷ xs) ≡ suc (position_or_len test xs) = rw e (omega arith) in
        rw e (h (λ same. other (more ∙ ap (λ n. suc n) same)))

pub or_none : {A : Type 0} (o : Option A) → option_or o None ≡ o
or_none None = refl
or_none (Some a) = refl

pub place_is : (place : Option ℕ) (i : ℕ) → option_eq eqb place (Some i) ≡ true → place ≡ Some i
place_is None i e = absurd (cc)
place_is (Some n) i e = grind (arith, nat_tests)

pub place_is_not : (place : Option ℕ) (i : ℕ) → option_eq eqb place (Some i) ≡ false → place ≢ Some i
place_is_not place i e same = absurd (grind (arith, nat_tests))

first_is : {X : Type 0} (test : X → Bool) (xs : List X) (i : ℕ) → position test xs ≡ Some i → position_or_len test xs ≡ i
first_is test xs i is = grind (arith, nat_tests)

is_first : {X : Type 0} (test : X → Bool) (xs : List X) (i : ℕ) → i < length xs → position_or_len test xs ≡ i → position test xs ≡ Some i
is_first test xs i within is = grind (arith, nat_tests)

module _ {X V : Type 0} (dir_of : X → Direction) (change : V → X → V) (xs : List X) (i : ℕ) (x : X) (within : i < length xs) (is : x ≡ get_or xs i x) (dir : Direction) where
  abbrev has : X → Bool
  has y = same_dir (dir_of y) dir

  pub find_more : find has (take (i + 1) xs) ≡ option_or (find has (take i xs)) (cond (same_dir (dir_of x) dir) (Some x) None)
  find_more = ap (find has) (take_more xs i x within ∙ ap (λ y. take i xs ++ y ∷ []) (sym is)) ∙ find-append has (take i xs) (x ∷ [])

  -- the first entry of a direction changes what the direction has
  pub turn_first : position (λ y. same_dir (dir_of y) (dir_of x)) xs ≡ Some i → (before now new : V) → now ≡ applied change before (find has (take i xs))
      → new ≡ cond (same_dir (dir_of x) dir) (change now x) now → new ≡ applied change before (find has (take (i + 1) xs))
  turn_first first before now new now_is new_is = by (same_dir (dir_of x) dir) refl
    where
      by : (same : Bool) → same_dir (dir_of x) dir ≡ same → new ≡ applied change before (find has (take (i + 1) xs))
      by true same =
          let none : find has (take i xs) ≡ None = rw (← same_is_equal (dir_of x) dir same, ← first_is (λ y. same_dir (dir_of y) (dir_of x)) xs i first) (none_before (λ y. same_dir (dir_of y) (dir_of x)) xs) in
          rw (new_is, now_is, find_more, same, none) refl
      by false same = rw (new_is, same, find_more, same) (now_is ∙ ap (applied change before) (sym (or_none (find has (take i xs)))))

  -- a later one changes nothing
  pub turn_later : (position (λ y. same_dir (dir_of y) (dir_of x)) xs ≢ Some i) → (before now : V) → now ≡ applied change before (find has (take i xs))
      → now ≡ applied change before (find has (take (i + 1) xs))
  turn_later later before now now_is = by (same_dir (dir_of x) dir) refl
    where
      known : (o : Option X) → is_some o ≡ true → (p : Option X) → o ≡ option_or o p
      known None e p = absurd (cc)
      known (Some y) e p = refl

      by : (same : Bool) → same_dir (dir_of x) dir ≡ same → now ≡ applied change before (find has (take (i + 1) xs))
      by true same =
          let test = λ (y : X). same_dir (dir_of y) (dir_of x) in
          let here : test (get_or xs i x) ≡ true = rw (← is) (grind (arith, nat_tests)) in
          let some : is_some (find has (take i xs)) ≡ true = rw (← same_is_equal (dir_of x) dir same) (some_before test xs i x within here (λ e. later (is_first test xs i within e))) in
          rw find_more (now_is ∙ ap (applied change before) (known (find has (take i xs)) some (cond (same_dir (dir_of x) dir) (Some x) None)))
      by false same = rw (find_more, same) (now_is ∙ ap (applied change before) (sym (or_none (find has (take i xs)))))
