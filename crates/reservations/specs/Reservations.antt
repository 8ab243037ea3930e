-- The list of reservations, in the order in which they were made: what `reserve` appends and `unreserve` removes.
use Rattle.std.specs.Prelude.{◌≡◌, ℕ, ◌+◌, ◌==◌, ◌&&◌, ◌≤◌, nat_lt, List, [], ◌∷◌, ◌++◌, length, map, All, Bool, Option, Some, None, option_map, Result, Ok, Err, if◌then◌else◌}
use Rattle.plan_base.specs.Dir.{same_dir}
use Rattle.plan_base.specs.Held.{IsGoodReservation}
use Rattle.plan_base.specs.declared.held.Held.{Held}
use Rattle.plan_base.specs.declared.held.Reservation.{Reservation}
use Rattle.reservations.specs.declared.list.TheConstants.{RESERVATIONS_MAX}
use Rattle.reservations.specs.declared.refusal.ReserveRefusal.{ReserveRefusal}
use Rattle.reservations.specs.declared.refusal.ReserveRefusal.TheVariants.{Full, NoMemory}

-- at most RESERVATIONS_MAX reservations, each of a good amount
pub record IsGoodList (list : List Reservation) : Type 0 where
  pub amounts : All IsGoodReservation list
  pub few : length list ≤ RESERVATIONS_MAX

abbrev pub reservation_of : ℕ → ℕ → Held → Reservation
reservation_of moment caller item = record { dir = item.dir; amount = item.amount; caller = caller; moment = moment }

-- the list with one more reservation for each item
abbrev pub with_reserved : List Reservation → List Held → ℕ → ℕ → List Reservation
with_reserved list path moment caller = list ++ map (reservation_of moment caller) path

-- whether the list has no room for a reservation for each item
abbrev pub are_too_many : List Reservation → List Held → Bool
are_too_many list path = nat_lt RESERVATIONS_MAX (length list + length path)

-- why nothing is reserved
abbrev pub refusal_of_reserve : List Reservation → List Held → Option ReserveRefusal
refusal_of_reserve list path = if are_too_many list path then Some (Full (length list)) else None

-- the call succeeded without that cause, was refused for that cause, or was out of memory
abbrev pub IsReserveRefusal : {A : Type 0} → Option ReserveRefusal → Result A ReserveRefusal → Type 0
IsReserveRefusal cause (Ok _) = cause ≡ None
IsReserveRefusal cause (Err (Full length)) = cause ≡ Some (Full length)
IsReserveRefusal cause (Err NoMemory) = Unit {0}

-- whether a reservation has the item's direction and amount, whoever made it
abbrev pub is_for : Held → Reservation → Bool
is_for item reservation = reservation.amount == item.amount && same_dir reservation.dir item.dir

-- the list without the earliest reservation that matches the item; None if there is none
unfoldable pub without_earliest : Held → List Reservation → Option (List Reservation)
without_earliest item [] = None
without_earliest item (reservation ∷ later) =
    if is_for item reservation then Some later else option_map (λ rest. reservation ∷ rest) (without_earliest item later)

-- continues with the remaining list, or refuses the item at the index
abbrev pub left_or : ℕ → Option (Result (List Reservation) ℕ) → Result (List Reservation) ℕ
left_or index None = Err index
left_or index (Some left) = left

-- each item in turn removes the earliest matching reservation that no earlier item has removed; the result is the list
-- that remains, or the index of the first item without a match
unfoldable pub set_free : List Held → ℕ → List Reservation → Result (List Reservation) ℕ
set_free [] index list = Ok list
set_free (item ∷ later) index list = left_or index (option_map (set_free later (index + 1)) (without_earliest item list))
