use Rattle.std.proofs.Common.{◌∙◌, ◌<◌, ap, sym, subst, length}
use Rattle.std.specs.Prelude.{All}
use Rattle.round_rules.specs.declared.round.Fault.TheVariants.{Directions, Htlc}
use Rattle.round_rules.specs.State.{state_of}
use Rattle.round_rules.specs.Next.{next_state}
use Rattle.std.proofs.lemmas.Result.{IfOk-weaker}
use Rattle.limit_rounds.proofs.Following.{htlc_state, listed_from, untried_at}
use Rattle.limit_rounds.proofs.next.following.Goals as goal

pub after_directions-requires-clause-listed : goal.after_directions-requires-clause-listed
after_directions-requires-clause-listed c =
    let view = c.args.view.now in
    let round = c.args.round.now in
    subst (All (λ d. d < length view.dirs)) (sym c.as_slice.ensures) (listed_from view c.args.ask.now (state_of round) round.parts (Directions c.in-Directions.listed) (sym c.in-Directions.is ∙ c.requires.fault)).1

pub after_htlc-requires-clause-listed : goal.after_htlc-requires-clause-listed
after_htlc-requires-clause-listed c =
    let view = c.args.view.now in
    let round = c.args.round.now in
    subst (All (λ d. d < length view.dirs)) (sym c.as_slice-in-Htlc.ensures) (listed_from view c.args.ask.now (state_of round) round.parts (Htlc c.in-Htlc.listed) (sym c.in-Htlc.is ∙ c.requires.fault)).1

pub returns-in-Htlc : goal.returns-in-Htlc
returns-in-Htlc c =
    let view = c.args.view.now in
    let ask = c.args.ask.now in
    let round = c.args.round.now in
    let s = state_of round in
    IfOk-weaker c.after_htlc.result _ _ (λ next h. untried_at next _ _ (htlc_state view ask s round.parts c.in-Htlc.listed c.as_slice-in-Htlc.result.now c.args.coarse c.requires.coarse c.as_slice-in-Htlc.ensures ∙ ap (next_state view ask s round.parts) (sym c.in-Htlc.is)) h) c.after_htlc.ensures
