use Rattle.std.proofs.Common.{◌≡◌, ◌≤◌, ◌^◌}
use Rattle.std.specs.Prelude.{drop}
use Rattle.round_rules.specs.Chance.{chances, probability_of}
use Rattle.limit_rounds.specs.Loads.{load_at}
use Rattle.limit_rounds.proofs.chance.probability.Given as goal

abbrev pub invariant-loop-i : goal.invariant-loop-i
invariant-loop-i l = record {
  value : chances (λ d. (load_at l.loads d).total) l.i l.p (drop l.i l.dirs) ≡ probability_of (λ d. (load_at l.loads d).total) l.dirs;
  most : l.p ≤ 10 ^ 6;
}
