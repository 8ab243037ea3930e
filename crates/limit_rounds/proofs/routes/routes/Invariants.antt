use Rattle.std.proofs.Common.{◌≡◌, ◌++◌}
use Rattle.std.specs.Prelude.{drop}
use Rattle.round_rules.specs.Amounts.{routes_with}
use Rattle.limit_rounds.proofs.routes.routes.Given as goal

abbrev pub invariant-loop-i : goal.invariant-loop-i
invariant-loop-i l = l.routes.items ++ routes_with l.view l.ask l.unit l.excess (drop l.i l.parts) ≡ routes_with l.view l.ask l.unit l.excess l.parts
