-- The search for the earliest reservation of an item that is left, place by place.
use Rattle.std.proofs.Common.{◌≡◌, ◌<◌, ◌≤◌, ◌+◌, ℕ, List, [], ◌∷◌, ◌++◌, length, take, drop, suc, Bool, true, false, not, cond, Some, None, Option, refl, ap, sym, ◌∙◌, arith}
use Rattle.std.specs.Prelude.{◌&&◌, option_map}
use Rattle.std.specs.List.{remove}
use lib.ListN.{get_or, set}
use Rattle.std.proofs.lemmas.List.{append-nil, append_assoc, drop_all, drop_more, take_more}
use Rattle.plan_base.specs.declared.held.Held.{Held}
use Rattle.plan_base.specs.declared.held.Reservation.{Reservation}
use Rattle.reservations.specs.Reservations.{is_for, without_earliest}
use Rattle.reservations.specs.Marks.{unmarked}
use Rattle.reservations.proofs.Unmarked.{unmarked_none, unmarked_more, unmarked_rest, unmarked_set}

abbrev pub with_front : List Reservation → Option (List Reservation) → Option (List Reservation)
with_front front found = option_map (λ rest. front ++ rest) found

-- what the search finds after the first i
abbrev pub found_from : Held → List Reservation → List Bool → ℕ → Option (List Reservation)
found_from item list marks i = with_front (unmarked (take i list) (take i marks)) (without_earliest item (unmarked (drop i list) (drop i marks)))

with_front_one : (front : List Reservation) (r : Reservation) (found : Option (List Reservation)) → with_front front (option_map (λ rest. r ∷ rest) found) ≡ with_front (front ++ r ∷ []) found
with_front_one front r None = refl
with_front_one front r (Some rest) = ap Some (sym (append_assoc front (r ∷ []) rest))

without_other : (item : Held) (r : Reservation) (rs : List Reservation) → is_for item r ≡ false → without_earliest item (r ∷ rs) ≡ option_map (λ rest. r ∷ rest) (without_earliest item rs)
unfolding without_earliest
without_other item r rs other = rw other refl

without_this : (item : Held) (r : Reservation) (rs : List Reservation) → is_for item r ≡ true → without_earliest item (r ∷ rs) ≡ Some rs
unfolding without_earliest
without_this item r rs this = rw this refl

without_none : (item : Held) → without_earliest item [] ≡ None
unfolding without_earliest
without_none item = refl

passed : (item : Held) (r : Reservation) (m : Bool) (front rest : List Reservation) → (not m && is_for item r) ≡ false
    → with_front front (without_earliest item (cond m rest (r ∷ rest))) ≡ with_front (front ++ cond m [] (r ∷ [])) (without_earliest item rest)
passed item r true front rest other = ap (λ l. with_front l (without_earliest item rest)) (sym (append-nil front))
passed item r false front rest other = ap (with_front front) (without_other item r rest other) ∙ with_front_one front r (without_earliest item rest)

-- a place that isn't left for the item
pub pass : (item : Held) (list : List Reservation) (marks : List Bool) (i : ℕ) (r : Reservation) (m : Bool)
    → i < length list → length marks ≡ length list → r ≡ get_or list i r → m ≡ get_or marks i false → (not m && is_for item r) ≡ false
    → found_from item list marks i ≡ found_from item list marks (i + 1)
pass item list marks i r m within same reads marked other =
    let rest = unmarked_rest list marks i r m within same reads marked in
    let more = unmarked_more list marks i r m within same reads marked in
    ap (λ l. with_front (unmarked (take i list) (take i marks)) (without_earliest item l)) rest
    ∙ passed item r m (unmarked (take i list) (take i marks)) (unmarked (drop (i + 1) list) (drop (i + 1) marks)) other
    ∙ ap (λ l. with_front l (without_earliest item (unmarked (drop (i + 1) list) (drop (i + 1) marks)))) (sym more)

left_free : (a b : Bool) → (not a && b) ≡ true → (a ≡ false) × (b ≡ true)
left_free true b e = cc
left_free false b e = (refl, e)

-- the place that is
pub find : (item : Held) (list : List Reservation) (marks : List Bool) (i : ℕ) (r : Reservation) (m : Bool)
    → i < length list → length marks ≡ length list → r ≡ get_or list i r → m ≡ get_or marks i false → (not m && is_for item r) ≡ true
    → found_from item list marks i ≡ Some (unmarked list (set marks i true))
find item list marks i r m within same reads marked this =
    let both = left_free m (is_for item r) this in
    let front = unmarked (take i list) (take i marks) in
    let later = unmarked (drop (i + 1) list) (drop (i + 1) marks) in
    let rest = unmarked_rest list marks i r m within same reads marked ∙ ap (λ b. cond b later (r ∷ later)) both.0 in
    ap (λ l. with_front front (without_earliest item l)) rest ∙ ap (with_front front) (without_this item r later both.1)
    ∙ ap Some (sym (unmarked_set list marks i r m within same))

-- at the start, and at the end
pub find_start : (item : Held) (list : List Reservation) (marks : List Bool) → without_earliest item (unmarked list marks) ≡ found_from item list marks 0
find_start item list marks = at (without_earliest item (unmarked list marks)) ∙ ap (λ l. with_front l (without_earliest item (unmarked list marks))) (sym (unmarked_none []))
  where
    at : (found : Option (List Reservation)) → found ≡ with_front [] found
    at None = refl
    at (Some rest) = refl

pub find_end : (item : Held) (list : List Reservation) (marks : List Bool) (i : ℕ) → length list ≤ i → found_from item list marks i ≡ None
find_end item list marks i past =
    ap (λ l. with_front (unmarked (take i list) (take i marks)) (without_earliest item (unmarked l (drop i marks)))) (drop_all i list past)
    ∙ ap (λ l. with_front (unmarked (take i list) (take i marks)) (without_earliest item l)) (unmarked_none (drop i marks))
    ∙ ap (with_front (unmarked (take i list) (take i marks))) (without_none item)

-- ---- the same in a list without marks

abbrev pub found_after : Held → List Reservation → ℕ → Option (List Reservation)
found_after item list i = with_front (take i list) (without_earliest item (drop i list))

with_front_none : (found : Option (List Reservation)) → found ≡ with_front [] found
with_front_none None = refl
with_front_none (Some rest) = refl

pub start_one : (item : Held) (list : List Reservation) → without_earliest item list ≡ found_after item list 0
start_one item list = with_front_none (without_earliest item list)

rest_at : (list : List Reservation) (i : ℕ) (r : Reservation) → i < length list → r ≡ get_or list i r → drop i list ≡ r ∷ drop (i + 1) list
rest_at list i r within reads = drop_more list i r within ∙ ap (λ x. x ∷ drop (i + 1) list) (sym reads)

pub pass_one : (item : Held) (list : List Reservation) (i : ℕ) (r : Reservation) → i < length list → r ≡ get_or list i r → is_for item r ≡ false
    → found_after item list i ≡ found_after item list (i + 1)
pass_one item list i r within reads other =
    let later = without_earliest item (drop (i + 1) list) in
    ap (λ l. with_front (take i list) (without_earliest item l)) (rest_at list i r within reads) ∙ ap (with_front (take i list)) (without_other item r (drop (i + 1) list) other)
    ∙ with_front_one (take i list) r later ∙ ap (λ l. with_front l later) (ap (λ x. take i list ++ x ∷ []) reads ∙ sym (take_more list i r within))

pub find_one : (item : Held) (list : List Reservation) (i : ℕ) (r : Reservation) → i < length list → r ≡ get_or list i r → is_for item r ≡ true
    → found_after item list i ≡ Some (remove list i)
find_one item list i r within reads this =
    let next : i + 1 ≡ suc i = omega arith in
    ap (λ l. with_front (take i list) (without_earliest item l)) (rest_at list i r within reads) ∙ ap (with_front (take i list)) (without_this item r (drop (i + 1) list) this)
    ∙ ap (λ n. Some (take i list ++ drop n list)) next

pub end_one : (item : Held) (list : List Reservation) (i : ℕ) → length list ≤ i → found_after item list i ≡ None
end_one item list i past = ap (λ l. with_front (take i list) (without_earliest item l)) (drop_all i list past) ∙ ap (with_front (take i list)) (without_none item)
