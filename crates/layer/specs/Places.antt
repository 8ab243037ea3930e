-- Serves private clauses only: places of directions.
use Rattle.std.specs.Prelude.{◌≡◌, ℕ, List, Option, Some, None, position, cond}
use Rattle.std.specs.Option.{option_or}
use Rattle.std.specs.Arc.{arc_value}
use Rattle.std.specs.declared.sync.Arc.{Arc}
use Rattle.std.specs.BTreeMap.{BTreeMap, get}
use Rattle.plan_base.specs.Dir.{Direction, same_dir, dir_order}
use Rattle.layer.specs.declared.places.Places.{Places}

abbrev pub shared_place : {A : Type 0} → Option (Arc (BTreeMap Direction ℕ) A) → Direction → Option ℕ
shared_place None dir = None
shared_place (Some shared) dir = get dir_order (arc_value shared) dir

-- the place of a direction
abbrev pub known : Places → Direction → Option ℕ
known places dir = option_or (get dir_order places.own dir) (shared_place places.shared dir)

-- new has the places of old, and a place for one direction more, if it had none
abbrev pub Learns : Places → Places → Direction → ℕ → Type 0
Learns old new learned place = (dir : Direction) → known new dir ≡ option_or (known old dir) (cond (same_dir learned dir) (Some place) None)

-- each direction has the position of its first entry
abbrev pub IsIndex : {T : Type 0} → (T → Direction) → List T → Places → Type 0
IsIndex dir_of items places = (dir : Direction) → known places dir ≡ position (λ item. same_dir (dir_of item) dir) items
