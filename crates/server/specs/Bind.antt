-- The results of a bind.
use Rattle.std.specs.Prelude.{ℕ, ◌≤◌, Result, IsErrOf}
use Rattle.port_io.specs.Faults.{Rose}
use Rattle.server.specs.declared.bind.Unbound.{Unbound}
use Rattle.server.specs.declared.bind.Unbound.TheVariants.{Failed}

-- the count did not fall, and it rose if the bind failed
pub record HasBindCause {T : Type 0} (before after : ℕ) (result : Result T Unbound) : Type 0 where
  pub never_falls : before ≤ after
  pub failed : IsErrOf result Failed → Rose before after
