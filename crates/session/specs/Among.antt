-- For private clauses only: how often a caller among others may still commit by its pass, and what its commits leave unchanged.
use Rattle.std.specs.Prelude.{◌≡◌, ℕ, ◌+◌, ◌-◌, max, length, Result, Ok, Err}
use Rattle.turn_desk.specs.declared.limits.TheConstants.{TURNS_MAX}
use Rattle.turn_desk.specs.Closing.{PassValue}
use Rattle.askrene_command.specs.declared.command.Command.{Command}

-- the turns that its pass has left, up to a bound on the number of its calls
abbrev pub turns_left : ℕ → PassValue Command → ℕ
turns_left calls pass = TURNS_MAX - max pass.1.draws calls

-- after some commits nothing was made from the pass, it has taken in nothing, and its new calls are counted
pub record KeepsPass (calls : ℕ) (pass : PassValue Command) (later_calls : ℕ) (later : PassValue Command) : Type 0 where
  pub desk : later.0 ≡ pass.0
  pub number : later.1.number ≡ pass.1.number
  pub made_from : later.1.made_from ≡ pass.1.made_from
  pub taken_in : later.1.taken_in ≡ pass.1.taken_in
  pub counted : later_calls + length pass.1.calls ≡ calls + length later.1.calls

-- how many entries one commit has added
abbrev pub calls_with : {T E : Type 0} → Result T E → ℕ
calls_with (Ok _) = 1
calls_with (Err _) = 0
