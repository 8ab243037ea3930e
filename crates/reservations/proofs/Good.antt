-- The reservations of good items are good.
use Rattle.std.proofs.Common.{◌≡◌, ◌≤◌, ◌+◌, ℕ, List, ◌++◌, length, map, take, replicate, Bool, false, ap, sym, ◌∙◌, arith}
use Rattle.std.specs.Prelude.{All}
use Rattle.std.proofs.lemmas.List.{length-append, replicate-append-replicate, take-replicate}
use Rattle.std.proofs.lemmas.List.Elements.{All-append, All-map}
use Rattle.std.proofs.lemmas.List.{length-map}
use Rattle.plan_base.specs.Held.{IsGoodHeld, IsGoodReservation}
use Rattle.plan_base.specs.declared.held.Held.{Held}
use Rattle.plan_base.specs.declared.held.Reservation.{Reservation}
use Rattle.reservations.specs.declared.list.TheConstants.{RESERVATIONS_MAX}
use Rattle.reservations.specs.Reservations.{IsGoodList, reservation_of, with_reserved}

long : (list : List Reservation) (path : List Held) (moment caller : ℕ) → length (with_reserved list path moment caller) ≡ length list + length path
long list path moment caller = length-append list (map (reservation_of moment caller) path) ∙ ap (λ n. length list + n) (length-map path (reservation_of moment caller))

pub good_reserved : (list : List Reservation) (path : List Held) (moment caller : ℕ) → IsGoodList list → All IsGoodHeld path
    → length list + length path ≤ RESERVATIONS_MAX → IsGoodList (with_reserved list path moment caller)
good_reserved list path moment caller good items few = record {
  amounts = All-append IsGoodReservation list (map (reservation_of moment caller) path) good.amounts (All-map IsGoodReservation (reservation_of moment caller) path items);
  few = omega (arith, few, long list path moment caller);
}

-- no mark is set, of as many as there are reservations
pub clear_reserved : (list new : List Reservation) (path : List Held) (moment caller : ℕ) (marks now : List Bool)
    → new ≡ with_reserved list path moment caller → marks ≡ replicate (length list) false → now ≡ marks ++ replicate (length path) false
    → now ≡ replicate (length new) false
clear_reserved list new path moment caller marks now is clear more =
    more ∙ ap (λ m. m ++ replicate (length path) false) clear ∙ replicate-append-replicate (length list) (length path) false
    ∙ ap (λ n. replicate n false) (sym (ap length is ∙ long list path moment caller))

-- fewer marks, none of which is set
pub clear_fewer : (n m : ℕ) (marks now : List Bool) → marks ≡ replicate n false → now ≡ take m marks → m ≤ n → now ≡ replicate m false
clear_fewer n m marks now clear is fewer = is ∙ ap (take m) clear ∙ take-replicate m n false fewer
