use Rattle.std.proofs.Common.{◌≡◌, ◌∙◌, ◌++◌, [], ◌∷◌, sym, true, false}
use Rattle.round_rules.specs.State.{state_of}
use Rattle.round_rules.specs.Runs.{is_last}
use Rattle.round_rules.proofs.Count.{rounds_are_few}
use Rattle.limit_rounds.proofs.Passing.{nearer, stands_turn, stands_end}
use Rattle.limit_rounds.proofs.run.plan.Goals as goal

pub loop-tried-smaller : goal.loop-tried-smaller
loop-tried-smaller g c =
    let t = c.loop-tried.tried in
    let goes : is_last (state_of t.round) t.round.fault ≡ false = sym c.is_last_round.ensures ∙ c.loop-tried-test.true in
    nearer c.args.view.now c.args.ask.now c.requires c.loop-tried.rounds.items t c.loop-tried.invariant goes c.in_ok-next.next c.in_ok-tried-2.tried c.in_ok-next.ensures.state c.in_ok-tried-2.ensures.state

pub loop-tried-preserved : goal.loop-tried-preserved
loop-tried-preserved g c =
    let t = c.loop-tried.tried in
    let goes : is_last (state_of t.round) t.round.fault ≡ false = sym c.is_last_round.ensures ∙ c.loop-tried-test.true in
    stands_turn c.args.view.now c.args.ask.now c.requires c.loop-tried.rounds.items t c.loop-tried.invariant goes c.push.new.self.items c.in_ok-next.next c.in_ok-tried-2.tried c.in_ok-next.ensures.state c.in_ok-tried-2.ensures.state c.in_ok-tried-2.ensures.tried c.in_ok-push.ensures.items

pub returns-clause-run : goal.returns-clause-run
returns-clause-run g c =
    let t = c.loop-tried.tried in
    let stops : is_last (state_of t.round) t.round.fault ≡ true = sym c.is_last_round.ensures ∙ c.loop-tried-test.false in
    let grows : c.from_vec.result ≡ c.loop-tried.rounds.items ++ t.round ∷ [] = ◌∙◌ {c = c.loop-tried.rounds.items ++ t.round ∷ []} c.from_vec.ensures c.in_ok-push-2.ensures.items in
    stands_end c.args.view.now c.args.ask.now c.loop-tried.rounds.items c.from_vec.result t c.in_ok-outcome.outcome c.loop-tried.invariant stops grows c.in_ok-outcome.ensures

pub returns-clause-few : goal.returns-clause-few
returns-clause-few g c =
    let t = c.loop-tried.tried in
    let stops : is_last (state_of t.round) t.round.fault ≡ true = sym c.is_last_round.ensures ∙ c.loop-tried-test.false in
    let grows : c.from_vec.result ≡ c.loop-tried.rounds.items ++ t.round ∷ [] = ◌∙◌ {c = c.loop-tried.rounds.items ++ t.round ∷ []} c.from_vec.ensures c.in_ok-push-2.ensures.items in
    rounds_are_few c.args.view.now c.args.ask.now c.from_vec.result c.loop-tried.invariant.seen c.requires (stands_end c.args.view.now c.args.ask.now c.loop-tried.rounds.items c.from_vec.result t c.in_ok-outcome.outcome c.loop-tried.invariant stops grows c.in_ok-outcome.ensures).0
