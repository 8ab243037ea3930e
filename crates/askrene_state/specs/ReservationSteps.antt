-- The reservations after each command, and the reply to its caller.
use Rattle.std.specs.Prelude.{ℕ, List, length, Result, Ok, Err, if◌then◌else◌}
use Rattle.plan_base.specs.declared.held.Held.{Held}
use Rattle.plan_base.specs.declared.held.Reservation.{Reservation}
use Rattle.reservations.specs.Reservations.{are_too_many, with_reserved, set_free}
use Rattle.askrene_command.specs.declared.reply.Refusal.TheVariants.{NotReserved, ReservationsFull}
use Rattle.askrene_command.specs.declared.reply.EventReply.{EventReply}
use Rattle.askrene_command.specs.declared.reply.EventReply.TheVariants.{Done, Refused}

-- all items are reserved, unless they are too many
abbrev pub reserve_step : List Reservation → ℕ → ℕ → List Held → List Reservation × EventReply
reserve_step list caller moment path =
    if are_too_many list path then (list, Refused (ReservationsFull (length list)))
    else (with_reserved list path moment caller, Done)

-- the list that remains, or the refused item
abbrev pub freed_or : List Reservation → Result (List Reservation) ℕ → List Reservation × EventReply
freed_or list (Ok left) = (left, Done)
freed_or list (Err index) = (list, Refused (NotReserved index))

-- all items are set free, or none
abbrev pub unreserve_step : List Reservation → List Held → List Reservation × EventReply
unreserve_step list path = freed_or list (set_free path 0 list)
