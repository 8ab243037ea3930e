-- Serves private clauses only: lists that are lent to be changed.
use Rattle.std.specs.Prelude.{Result}
use Rattle.std.specs.Borrow.{LendsIfOk, MutBor, Fml}
use Rattle.layer.specs.Layer.{LayerLists}
use Rattle.layer.specs.Fields.{lists_in}
use Rattle.layer.specs.declared.lists.Lists.{Lists}
use Rattle.layer.specs.contracts.lists.Lists.{the_row as lists_row}
use Rattle.layer.specs.contracts.shared.Shared.{the_row}

-- the shared lists end as the last lists behind r, and stay if there is no r
abbrev pub LendsLists : {E : Type 0} → MutBor LayerLists → Result (MutBor Lists) E → Fml
LendsLists s r = LendsIfOk the_row lists_row s r lists_in s.now
