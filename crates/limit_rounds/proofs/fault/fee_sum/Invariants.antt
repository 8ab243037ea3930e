use Rattle.std.proofs.Common.{◌≡◌, ◌≤◌, ◌*◌, ◌^◌}
use Rattle.std.specs.Prelude.{take}
use Rattle.round_rules.specs.Amounts.{fees_of}
use Rattle.limit_rounds.proofs.fault.fee_sum.Given as goal

abbrev pub invariant-loop-route : goal.invariant-loop-route
invariant-loop-route l = record {
  value : l.sum ≡ fees_of (take l.route-index l.routes);
  most : l.sum ≤ l.route-index * 2 ^ 64;
}
