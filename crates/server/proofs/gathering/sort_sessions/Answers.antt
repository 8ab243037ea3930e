use Rattle.std.proofs.Common.{rules}
use Rattle.std.proofs.lemmas.List.Sorted.{IsNonDecreasingBy-from_sort_by_key}
use Rattle.server.proofs.gathering.sort_sessions.Goals as goal

pub returns-clause-ascending : goal.returns-clause-ascending
returns-clause-ascending g c = IsNonDecreasingBy-from_sort_by_key (λ s. s.number) _ c.sort_unstable_by_key.ensures.sorted (λ a r q k. search rules)
