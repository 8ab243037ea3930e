use Rattle.std.proofs.Common.{length, sym, subst, ◌<◌, ◌≤◌}
use Rattle.std.specs.Prelude.{All}
use Rattle.path_split.specs.declared.part.Part.{Part}
use Rattle.round_rules.specs.State.{state_of}
use Rattle.round_rules.proofs.Keeps.{paths_within}
use Rattle.limit_rounds.proofs.routes.routes_of_round.Goals as goal

pub routes-requires-clause-short : goal.routes-requires-clause-short
routes-requires-clause-short c = subst (All (λ (p : Part). length p.path ≤ length c.args.view.now.nodes)) (sym c.as_slice.ensures) c.requires.parts.short

pub routes-requires-clause-within : goal.routes-requires-clause-within
routes-requires-clause-within c = subst (All (λ (p : Part). All (λ d. d < length c.args.view.now.dirs) p.path)) (sym c.as_slice.ensures) (paths_within c.args.view.now c.args.ask.now (state_of c.args.round.now) c.args.round.now.size c.args.round.now.parts c.requires.parts)
