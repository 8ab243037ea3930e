-- Changed fields of directions.
use Rattle.std.specs.Prelude.{◌≤◌, IfSome}
use Rattle.plan_base.specs.declared.amount.TheConstants.{MAX}
use Rattle.layer.specs.declared.records.Update.{Update}

-- the given HTLC bounds are amounts
pub record IsGoodUpdate (change : Update) : Type 0 where
  pub htlc_min : IfSome change.htlc_min (λ amount. amount ≤ MAX)
  pub htlc_max : IfSome change.htlc_max (λ amount. amount ≤ MAX)
