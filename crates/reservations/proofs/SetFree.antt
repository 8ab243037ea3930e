-- Items that are set free, one after another.
use Rattle.std.proofs.Common.{◌≡◌, ◌<◌, ◌≤◌, ◌+◌, ℕ, List, [], ◌∷◌, length, drop, Some, None, Option, Ok, Err, refl, ap, sym, ◌∙◌}
use Rattle.std.specs.Prelude.{option_map}
use lib.ListN.{get_or}
use Rattle.std.proofs.lemmas.List.{drop_more, drop_all}
use Rattle.plan_base.specs.declared.held.Held.{Held}
use Rattle.plan_base.specs.declared.held.Reservation.{Reservation}
use Rattle.reservations.specs.Reservations.{without_earliest, left_or, set_free}

set_free_none : (index : ℕ) (list : List Reservation) → set_free [] index list ≡ Ok list
unfolding set_free
set_free_none index list = refl

set_free_first : (item : Held) (later : List Held) (index : ℕ) (list : List Reservation)
    → set_free (item ∷ later) index list ≡ left_or index (option_map (set_free later (index + 1)) (without_earliest item list))
unfolding set_free
set_free_first item later index list = refl

first_at : (path : List Held) (item : Held) (i : ℕ) (list : List Reservation) (found : Option (List Reservation))
    → i < length path → item ≡ get_or path i item → without_earliest item list ≡ found
    → set_free (drop i path) i list ≡ left_or i (option_map (set_free (drop (i + 1) path) (i + 1)) found)
first_at path item i list found within reads is =
    let rest : drop i path ≡ item ∷ drop (i + 1) path = drop_more path i item within ∙ ap (λ x. x ∷ drop (i + 1) path) (sym reads) in
    ap (λ p. set_free p i list) rest ∙ set_free_first item (drop (i + 1) path) i list ∙ ap (λ o. left_or i (option_map (set_free (drop (i + 1) path) (i + 1)) o)) is

-- the item at index i has a match
pub goes_on : (path : List Held) (item : Held) (i : ℕ) (list left : List Reservation) → i < length path → item ≡ get_or path i item
    → without_earliest item list ≡ Some left → set_free (drop i path) i list ≡ set_free (drop (i + 1) path) (i + 1) left
goes_on path item i list left within reads is = first_at path item i list (Some left) within reads is

-- the item at index i has no match
pub stops : (path : List Held) (item : Held) (i : ℕ) (list : List Reservation) → i < length path → item ≡ get_or path i item
    → without_earliest item list ≡ None → set_free (drop i path) i list ≡ Err i
stops path item i list within reads is = first_at path item i list None within reads is

pub all_free : (path : List Held) (i : ℕ) (list : List Reservation) → length path ≤ i → set_free (drop i path) i list ≡ Ok list
all_free path i list past = ap (λ p. set_free p i list) (drop_all i path past) ∙ set_free_none i list

-- a single item
pub one_free : (item : Held) (list left : List Reservation) → without_earliest item list ≡ Some left → set_free (item ∷ []) 0 list ≡ Ok left
one_free item list left is = set_free_first item [] 0 list ∙ ap (λ o. left_or 0 (option_map (set_free [] 1) o)) is ∙ set_free_none 1 left

pub one_refused : (item : Held) (list : List Reservation) → without_earliest item list ≡ None → set_free (item ∷ []) 0 list ≡ Err 0
one_refused item list is = set_free_first item [] 0 list ∙ ap (λ o. left_or 0 (option_map (set_free [] 1) o)) is
