-- What a pass has gained while a connection was served on it.
use Rattle.std.specs.Prelude.{ℕ, ◌-◌, length}
use Rattle.turn_desk.specs.declared.view.View.{View}

-- how many calls more it has
abbrev pub calls_gained : {M : Type 0} → View M → View M → ℕ
calls_gained v w = length w.calls - length v.calls
