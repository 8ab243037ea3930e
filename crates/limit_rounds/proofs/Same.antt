-- Rounds with the same unit, levels and caps have the same problem.
use Rattle.std.proofs.Common.{◌≡◌, refl}
use Rattle.round_rules.specs.declared.round.Round.{Round}
use Rattle.limit_rounds.specs.Solution.{HasSameProblem}

pub same_problem : (a b : Round) → a.unit ≡ b.unit → a.fee_level ≡ b.fee_level → a.delay_level ≡ b.delay_level → a.caps ≡ b.caps → HasSameProblem a b
same_problem a b unit fee delay caps view ask = rw (unit, fee, delay, caps) refl
