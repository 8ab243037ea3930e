use Rattle.std.proofs.Common.{◌≡◌, ◌*◌, ◌≤◌, take}
use Rattle.reservations.specs.Reserved.{reserved_on}
use Rattle.reservations.proofs.sum.reserved.Given as goal

abbrev pub invariant-loop-reservation : goal.invariant-loop-reservation
invariant-loop-reservation l =
    (l.total ≡ reserved_on l.dir (take l.reservation-index l.list)) × (l.total ≤ l.reservation-index * 18446744073709551615)
