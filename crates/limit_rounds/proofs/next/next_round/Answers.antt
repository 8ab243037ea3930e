use Rattle.std.proofs.Common.{sym, subst}
use Rattle.round_rules.specs.State.{state_of, IsGoodState}
use Rattle.std.proofs.lemmas.Result.{IfOk-weaker}
use Rattle.limit_rounds.proofs.Following.{good_after}
use Rattle.limit_rounds.proofs.next.next_round.Goals as goal

pub returns-clause-good : goal.returns-clause-good
returns-clause-good c =
    let view = c.args.view.now in
    let ask = c.args.ask.now in
    let round = c.args.round.now in
    let good = good_after view ask (state_of round) round.size round.parts round.fault c.coarse_unit-coarse.ensures.view c.requires.ask c.requires.state c.requires.parts c.requires.fault c.requires.goes_on in
    IfOk-weaker c.following.result _ _ (λ next h. subst (IsGoodState view ask) (sym h.state_is) good) c.following.ensures
