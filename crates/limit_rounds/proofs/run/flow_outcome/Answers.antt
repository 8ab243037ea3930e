use Rattle.std.proofs.Common.{sym, ap, ◌∙◌, List}
use Rattle.flow_model.specs.Instance.{Net}
use Rattle.round_rules.specs.declared.round.Route.{Route}
use Rattle.round_rules.specs.Parts.{flow_in}
use Rattle.round_rules.specs.Amounts.{carried, fees_of, total_on}
use Rattle.round_rules.specs.Chance.{probability_of}
use Rattle.round_rules.specs.State.{state_of}
use Rattle.limit_rounds.proofs.Passing.{last_none}
use Rattle.limit_rounds.proofs.run.flow_outcome.Goals as goal

pub round_routes-requires : goal.round_routes-requires
round_routes-requires c =
    let round = c.args.round.now in
    let none = last_none c.args.view.now c.args.ask.now (state_of round) round.parts round.fault c.requires.parts.fault_is c.requires.last c.in_default.not-Fee c.in_default.not-Delay in
    record { ask = c.requires.ask; state = c.requires.state; parts = c.requires.parts.good; fault = sym c.requires.parts.fault_is ∙ none }

pub returns-in_ok-routes-in_default : goal.returns-in_ok-routes-in_default
returns-in_ok-routes-in_default c =
    let round = c.args.round.now in
    let none = last_none c.args.view.now c.args.ask.now (state_of round) round.parts round.fault c.requires.parts.fault_is c.requires.last c.in_default.not-Fee c.in_default.not-Delay in
    let view = c.args.view.now in
    let facts = c.in_ok-routes-in_default.ensures in
    let routes = c.from_vec.ensures ∙ facts.routes in
    record {
      fault_is = none;
      routes_are = routes;
      fee_is = facts.fee ∙ ap fees_of (sym routes);
      ppm_is = facts.ppm ∙ ap (λ (rs : List Route). probability_of (λ dir. total_on dir (carried rs)) view.dirs) (sym routes);
      net_is = c.requires.instance;
      flow_is = c.requires.flow ∙ ap (λ (net : Net). flow_in net round.parts) (sym c.requires.instance);
      shown = c.requires.answer.shown;
      small = c.requires.answer.small;
    }
