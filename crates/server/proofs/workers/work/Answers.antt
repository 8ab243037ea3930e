use Rattle.std.proofs.Common.{ap, ◌∙◌, subst, All}
use Rattle.server.specs.Place.{IsReady}
use Rattle.server.proofs.Results.{may_run, prepared, unworked, unworked_silent}
use Rattle.server.proofs.workers.work.Goals as goal

pub returns-in_default-prepare-clause-unworked_takes_back : goal.returns-in_default-prepare-clause-unworked_takes_back
returns-in_default-prepare-clause-unworked_takes_back g c = let p = c.prepare.ensures in let t = c.take_back.ensures in unworked _ _ p.ready c.args.pass.1 c.prepare.new.pass.1 c.take_back.new.pass.1 p.taken_in p.made_from t.taken_in t.made_from

pub returns-in_default-prepare-clause-unworked_silent : goal.returns-in_default-prepare-clause-unworked_silent
returns-in_default-prepare-clause-unworked_silent g c = let p = c.prepare.ensures in let t = c.take_back.ensures in unworked_silent _ _ p.ready c.args.pass.1 c.prepare.new.pass.1 c.take_back.new.pass.1 p.taken_in t.taken_in

pub finish-requires-clause-ready : goal.finish-requires-clause-ready
finish-requires-clause-ready g c κs within =
    let p = c.prepare.ensures in
    may_run (g.V.Serve.relates c.args.server.now) g.A.Acceptor.accept_faults g.A.Acceptor.accepted c.args.connections _ _ _ p.on_desk p.on_counter
    (subst (λ n. All (λ p. IsReady n p.sessions.items p.drawer.1 p.pass.1 p.stop) c.prepare.new.places.items) (ap (λ o. o.1.connections) c.in-Ok-open.ensures ∙ c.from.ensures) p.ready)

pub returns-clause-follows : goal.returns-clause-follows
returns-clause-follows g c = let p = c.in-Ok-prepare.ensures in (c.finish.ensures.works _ _ (prepared _ _ _ _ c.requires.workers.0 p.workers p.follows p.draws p.taken_in p.made_from)).follows

pub returns-clause-takes_back : goal.returns-clause-takes_back
returns-clause-takes_back g c = let p = c.in-Ok-prepare.ensures in (c.finish.ensures.works _ _ (prepared _ _ _ _ c.requires.workers.0 p.workers p.follows p.draws p.taken_in p.made_from)).takes_back

pub returns-clause-distinct : goal.returns-clause-distinct
returns-clause-distinct g c = let p = c.in-Ok-prepare.ensures in (c.finish.ensures.works _ _ (prepared _ _ _ _ c.requires.workers.0 p.workers p.follows p.draws p.taken_in p.made_from)).distinct

pub returns-clause-ascending : goal.returns-clause-ascending
returns-clause-ascending g c = let p = c.in-Ok-prepare.ensures in (c.finish.ensures.works _ _ (prepared _ _ _ _ c.requires.workers.0 p.workers p.follows p.draws p.taken_in p.made_from)).ascending

pub returns-clause-numbers : goal.returns-clause-numbers
returns-clause-numbers g c = let p = c.in-Ok-prepare.ensures in (c.finish.ensures.works _ _ (prepared _ _ _ _ c.requires.workers.0 p.workers p.follows p.draws p.taken_in p.made_from)).below

pub returns-clause-callers : goal.returns-clause-callers
returns-clause-callers g c = let p = c.in-Ok-prepare.ensures in (c.finish.ensures.works _ _ (prepared _ _ _ _ c.requires.workers.0 p.workers p.follows p.draws p.taken_in p.made_from)).callers

pub returns-clause-ends : goal.returns-clause-ends
returns-clause-ends g c = let p = c.in-Ok-prepare.ensures in (c.finish.ensures.works _ _ (prepared _ _ _ _ c.requires.workers.0 p.workers p.follows p.draws p.taken_in p.made_from)).ends

pub returns-clause-silent : goal.returns-clause-silent
returns-clause-silent g c = let p = c.in-Ok-prepare.ensures in (c.finish.ensures.works _ _ (prepared _ _ _ _ c.requires.workers.0 p.workers p.follows p.draws p.taken_in p.made_from)).silent

pub returns-clause-missing : goal.returns-clause-missing
returns-clause-missing g c = let p = c.in-Ok-prepare.ensures in (c.finish.ensures.works _ _ (prepared _ _ _ _ c.requires.workers.0 p.workers p.follows p.draws p.taken_in p.made_from)).few_missing

pub returns-clause-fault_order : goal.returns-clause-fault_order
returns-clause-fault_order g c = let p = c.in-Ok-prepare.ensures in (c.finish.ensures.works _ _ (prepared _ _ _ _ c.requires.workers.0 p.workers p.follows p.draws p.taken_in p.made_from)).fault_order

pub returns-clause-fault_workers : goal.returns-clause-fault_workers
returns-clause-fault_workers g c = let p = c.in-Ok-prepare.ensures in (c.finish.ensures.works _ _ (prepared _ _ _ _ c.requires.workers.0 p.workers p.follows p.draws p.taken_in p.made_from)).fault_workers_are

pub returns-clause-accept_cause : goal.returns-clause-accept_cause
returns-clause-accept_cause g c = let p = c.in-Ok-prepare.ensures in (c.finish.ensures.works _ _ (prepared _ _ _ _ c.requires.workers.0 p.workers p.follows p.draws p.taken_in p.made_from)).causes

pub returns-clause-counts : goal.returns-clause-counts
returns-clause-counts g c = let p = c.in-Ok-prepare.ensures in (c.finish.ensures.works _ _ (prepared _ _ _ _ c.requires.workers.0 p.workers p.follows p.draws p.taken_in p.made_from)).none_fell

pub returns-clause-accepted : goal.returns-clause-accepted
returns-clause-accepted g c = let p = c.in-Ok-prepare.ensures in (c.finish.ensures.works _ _ (prepared _ _ _ _ c.requires.workers.0 p.workers p.follows p.draws p.taken_in p.made_from)).accepted
