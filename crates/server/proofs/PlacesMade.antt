-- What grows as places are made.
use Rattle.std.proofs.Common.{◌≡◌, ℕ, ◌+◌, ◌-◌, ◌<◌, ◌≤◌, map, List, [], ◌∷◌, ◌++◌, length, sym, ap, ◌∙◌, arith}
use Rattle.std.proofs.lemmas.List.{map_push, append_assoc, length-append}
use Rattle.server.proofs.Gathers.{yet_shorter}

pub made_one : {A : Type 0} (f : A → ℕ) (start v w : List ℕ) (xs ys : List A) (x : A) → ys ≡ xs ++ x ∷ [] → w ≡ v ++ f x ∷ [] → v ≡ start ++ map f xs → w ≡ start ++ map f ys
made_one f start v w xs ys x e more h = more ∙ (ap (λ z. z ++ f x ∷ []) h ∙ (append_assoc start (map f xs) (f x ∷ []) ∙ ap (λ z. start ++ z) (sym (map_push f xs x) ∙ ap (map f) (sym e))))

pub map_one : {A B : Type 0} (f : A → B) (xs ys : List A) (x : A) (zs : List B) → ys ≡ xs ++ x ∷ [] → map f xs ≡ zs → map f ys ≡ zs ++ f x ∷ []
map_one f xs ys x zs e h = ap (map f) e ∙ (map_push f xs x ∙ ap (λ z. z ++ f x ∷ []) h)

pub draws_one : {A : Type 0} (a b c : ℕ) (l : List A) (x : A) → c ≡ b + 1 → b ≡ a + length l → c ≡ a + length (l ++ x ∷ [])
draws_one a b c l x h k = let e = length-append l (x ∷ []) in omega arith

pub count_one : {A B : Type 0} (xs ys : List A) (x : A) (l : List B) (y : B) → ys ≡ xs ++ x ∷ [] → length xs ≡ length l → length ys ≡ length (l ++ y ∷ [])
count_one xs ys x l y e h = let a = ap length e in let b = length-append xs (x ∷ []) in let c = length-append l (y ∷ []) in omega arith

pub splits_one : {A : Type 0} (a b all : ℕ) (xs ys : List A) (x : A) → ys ≡ xs ++ x ∷ [] → b ≡ a - 1 → 0 < a → a + length xs ≡ all → b + length ys ≡ all
splits_one a b all xs ys x e less some h = let s = ap length e in let t = length-append xs (x ∷ []) in omega arith

-- if one more is to come, there is a split left, and room
pub split_left : {A B : Type 0} (a start : ℕ) (places : List A) (yielded rest all : List B) (x : B) (zs : List B) → rest ≡ x ∷ zs → yielded ++ rest ≡ all → length places ≡ length yielded → a + length places ≡ start → length all ≤ start → 0 < a
split_left a start places yielded rest all x zs e f same sum few = let s = yet_shorter yielded rest all x zs e f in omega arith

pub room_left : {A B : Type 0} (cap start len : ℕ) (places : List A) (yielded rest all : List B) (x : B) (zs : List B) → rest ≡ x ∷ zs → yielded ++ rest ≡ all → length places ≡ length yielded → len ≡ length places → cap ≡ start → length all ≤ start → len < cap
room_left cap start len places yielded rest all x zs e f same is same_cap few = let s = yet_shorter yielded rest all x zs e f in omega arith
