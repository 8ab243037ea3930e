use Rattle.std.proofs.Common.{◌≡◌, ◌+◌, ◌≤◌, ◌-◌, length, take, vec_len, vec_capacity}
use Rattle.reservations.specs.Reservations.{with_reserved}
use Rattle.reservations.proofs.list.push_reservations.Given as goal

abbrev pub invariant-loop-item : goal.invariant-loop-item
invariant-loop-item l =
    (l.list.items ≡ with_reserved l.initial.list.items (take l.item-index l.path) l.now l.caller)
    × (vec_len l.list + (length l.path - l.item-index) ≤ vec_capacity l.list)
