-- Serves private clauses only: reservations that are marked for removal, each by the mark at its position.
use Rattle.std.specs.Prelude.{List, [], ◌∷◌, Bool, if◌then◌else◌}
use Rattle.plan_base.specs.declared.held.Reservation.{Reservation}

-- the reservations that are not marked, in order
unfoldable pub unmarked : List Reservation → List Bool → List Reservation
unmarked [] marks = []
unmarked (reservation ∷ later) [] = reservation ∷ later
unmarked (reservation ∷ later) (mark ∷ marks) = if mark then unmarked later marks else reservation ∷ unmarked later marks
