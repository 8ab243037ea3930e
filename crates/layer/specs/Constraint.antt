-- Bounds on the liquidity of directions.
use Rattle.std.specs.Prelude.{ℕ, ◌≤◌, nat_le, List, filter}
use Rattle.plan_base.specs.declared.amount.TheConstants.{MAX}
use Rattle.layer.specs.declared.records.Constraint.{Constraint}

-- the bound is an amount
abbrev pub IsGoodConstraint : Constraint → Type 0
IsGoodConstraint constraint = constraint.amount ≤ MAX

-- the constraints from the cutoff or later, in order
abbrev pub since : ℕ → List Constraint → List Constraint
since cutoff constraints = filter (λ constraint. nat_le cutoff constraint.moment) constraints
