use Rattle.std.proofs.Common.{◌≡◌, ◌≤◌, ◌*◌, ◌^◌, take}
use Rattle.plan_base.specs.Dir.{Direction}
use Rattle.reservations.specs.Reserved.{reserved_on}
use Rattle.view_build.specs.Known.{known_at, unknown, with_reserved}
use Rattle.view_build.proofs.known.reserved_by.Given as goal

abbrev pub invariant-loop-reservation : goal.invariant-loop-reservation
invariant-loop-reservation l = record {
  known : (dir : Direction) → known_at l.map dir ≡ with_reserved unknown (reserved_on dir (take l.reservation-index l.held));
  small : (dir : Direction) → (known_at l.map dir).reserved ≤ l.reservation-index * 2 ^ 64;
}
