-- Amounts on directions that are to be reserved, and reservations.
use Rattle.std.specs.Prelude.{◌≤◌}
use Rattle.plan_base.specs.declared.amount.TheConstants.{MAX}
use Rattle.plan_base.specs.declared.held.Held.{Held}
use Rattle.plan_base.specs.declared.held.Reservation.{Reservation}

-- the amount is at most MAX
abbrev pub IsGoodHeld : Held → Type 0
IsGoodHeld held = held.amount ≤ MAX

-- the amount is at most MAX
abbrev pub IsGoodReservation : Reservation → Type 0
IsGoodReservation reservation = reservation.amount ≤ MAX
