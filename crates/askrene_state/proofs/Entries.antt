-- The entries of a map, found by a test of their keys.
use Rattle.std.proofs.Common.{◌≡◌, ◌<◌, ◌+◌, ℕ, zero, suc, List, [], ◌∷◌, ◌++◌, length, map, take, Bool, true, false, cond, nat_lt, Some, None, Option, refl, ap, arith}
use Rattle.std.specs.List.{position, position_or_len, slice_get}
use Rattle.std.specs.Option.{is_some}
use Rattle.std.specs.Map.{keys_of, values_of, set_value}
use Rattle.std.proofs.lemmas.Bool.{ltb-true}
use Rattle.indexmap.specs.IndexMap.{set_value_at}
use Rattle.indexmap.specs.Layout.{length-set_value_at}

module _ {K : Type 0} (test : K → Bool) where
  -- the position that a search returns is the first
  found_at : (keys : List K) (place : ℕ) (found : Bool) → nat_lt (position_or_len test keys) (length keys) ≡ found
      → cond found (Some (position_or_len test keys)) None ≡ Some place
      → (position_or_len test keys ≡ place) × (position_or_len test keys < length keys)
  found_at keys place true below is = (cc, ltb-true _ _ below)
  found_at keys place false below is = cc

  found_first : (keys : List K) (place : ℕ) → position test keys ≡ Some place
      → (position_or_len test keys ≡ place) × (position_or_len test keys < length keys)
  found_first keys place is = found_at keys place _ refl is

module _ {K X : Type 0} (test : K → Bool) where
  set_next : (e : K × X) (es : List (K × X)) (w : X) (passes : Bool) → test e.0 ≡ passes
      → (position_or_len test (keys_of es) < length (keys_of es) → set_value_at es (position_or_len test (keys_of es)) w ≡ set_value test es w)
      → position_or_len test (keys_of (e ∷ es)) < length (keys_of (e ∷ es))
      → set_value_at (e ∷ es) (position_or_len test (keys_of (e ∷ es))) w ≡ set_value test (e ∷ es) w
  set_next e es w true is rest below = rw is refl
  set_next e es w false is rest below =
      let n : ℕ = position_or_len test (keys_of es) in
      let one : 1 + n ≡ suc n = omega arith in
      let inside : 1 + n < suc (length (keys_of es)) = rw is at below in
      let within : n < length (keys_of es) = omega (arith, inside) in
      rw (is, one) (ap (λ l. e ∷ l) (rest within))

  set_first : (es : List (K × X)) (w : X) → position_or_len test (keys_of es) < length (keys_of es)
      → set_value_at es (position_or_len test (keys_of es)) w ≡ set_value test es w
  set_first [] w below = absurd (omega (arith, below))
  set_first (e ∷ es) w below = set_next e es w (test e.0) refl (λ within. set_first es w within) below

  -- setting the value at the position of a key sets it for that key
  pub set_found : (es : List (K × X)) (place : ℕ) (w : X) → position test (keys_of es) ≡ Some place → set_value_at es place w ≡ set_value test es w
  set_found es place w is =
      let first = found_first test (keys_of es) place is in
      rw (← first.0) (set_first es w first.1)

-- an option without a value
pub none_there : {X : Type 0} (o : Option X) → is_some o ≡ false → o ≡ None
none_there None none = refl
none_there (Some x) none = cc

-- setting the value that a position has already changes nothing
pub keep_at : {K X : Type 0} → (es : List (K × X)) (place : ℕ) (w : X) → slice_get (values_of es) place ≡ Some w → set_value_at es place w ≡ es
keep_at [] place w is = refl
keep_at (e ∷ es) zero w is = let same : e.1 ≡ w = cc in rw (← same) refl
keep_at (e ∷ es) (suc place) w is = ap (λ l. e ∷ l) (keep_at es place w is)

-- setting a value keeps the number of entries
pub length_at : {K X : Type 0} → (es : List (K × X)) (place : ℕ) (w : X) → length (set_value_at es place w) ≡ length es
length_at es place w = length-set_value_at es place w

-- one more item after those that were taken
pub take_next : {X Y : Type 0} → (f : X → Y) (xs : List X) (place : ℕ) (x : X) → slice_get xs place ≡ Some x
    → map f (take (place + 1) xs) ≡ map f (take place xs) ++ f x ∷ []
take_next f [] place x is = cc
take_next f (y ∷ xs) zero x is = let same : y ≡ x = cc in rw same refl
take_next f (y ∷ xs) (suc place) x is =
    let more : suc place + 1 ≡ suc (place + 1) = omega arith in
    rw more (ap (λ l. f y ∷ l) (take_next f xs place x is))
