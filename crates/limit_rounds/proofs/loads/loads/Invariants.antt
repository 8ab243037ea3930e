use Rattle.std.proofs.Common.{◌≡◌, ◌<◌, ℕ, length}
use Rattle.std.specs.Prelude.{take}
use Rattle.round_rules.specs.Amounts.{carried}
use Rattle.limit_rounds.specs.Loads.{load_at, load_on}
use Rattle.limit_rounds.proofs.loads.loads.Given as goal

abbrev pub invariant-loop-route : goal.invariant-loop-route
invariant-loop-route l = record {
  long : length l.all.items ≡ l.count;
  value : (d : ℕ) → d < l.count → load_at l.all.items d ≡ load_on d (carried (take l.route-index l.routes));
}
