-- The amount that is reserved on a direction.
use Rattle.std.specs.Prelude.{ℕ, List, if◌then◌else◌}
use Rattle.std.specs.List.{sum_by}
use Rattle.plan_base.specs.Dir.{Direction, same_dir}
use Rattle.plan_base.specs.declared.held.Reservation.{Reservation}

abbrev pub amount_on : Direction → Reservation → ℕ
amount_on dir reservation = if same_dir reservation.dir dir then reservation.amount else 0

abbrev pub reserved_on : Direction → List Reservation → ℕ
reserved_on dir list = sum_by (amount_on dir) list
