-- Serves private clauses only: rounds that were not tried yet.
use Rattle.std.specs.Prelude.{◌≡◌, []}
use Rattle.round_rules.specs.declared.round.Round.{Round}
use Rattle.round_rules.specs.declared.round.Fault.TheVariants.{None}
use Rattle.round_rules.specs.State.{RoundState, state_of}

-- the round has this state, no parts, and no fault
pub record IsUntried (r : Round) (state : RoundState) : Type 0 where
  pub state_is : state_of r ≡ state
  pub no_parts : r.parts ≡ []
  pub no_fault : r.fault ≡ None
