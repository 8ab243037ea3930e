use Rattle.std.proofs.Common.{◌∷◌, [], ◌++◌, sym, ap, ◌∙◌}
use Rattle.one_history.specs.History.{entry_of}
use Rattle.turn_desk.proofs.Calls.{committed_told}
use Rattle.turn_desk.proofs.desk.Desk.event.Goals as goal

pub commit_and_leave-requires-clause-content : goal.commit_and_leave-requires-clause-content
commit_and_leave-requires-clause-content g c = let v = c.take_turn-journal.ensures.view.1 in let e = entry_of c.pass.inside.number c.args.moment c.args.command in
    (record { entry = e; caller = c.pass.invariant.number_is ∙ sym (ap (λ v. v.number) v); is = c.in-Ok.ensures.appended ∙ sym (ap (λ v. v.seen ++ e ∷ []) v) }, sym (ap (λ v. v.made) v))

pub returns-in-Ok-clause-continues : goal.returns-in-Ok-clause-continues
returns-in-Ok-clause-continues g c = let t = c.take_turn-journal.ensures in
    (committed_told _ _ _ _ _ _ _ _ _ _ _ _ (ap (λ p. p.1) c.pass.view_is) c.pass.invariant.number_is t.taken t.view.1 c.in-Ok.ensures.appended c.commit_and_leave.ensures.left c.in-Ok.ensures.at).0

pub returns-in-Ok-clause-committed : goal.returns-in-Ok-clause-committed
returns-in-Ok-clause-committed g c = let t = c.take_turn-journal.ensures in
    (committed_told _ _ _ _ _ _ _ _ _ _ _ _ (ap (λ p. p.1) c.pass.view_is) c.pass.invariant.number_is t.taken t.view.1 c.in-Ok.ensures.appended c.commit_and_leave.ensures.left c.in-Ok.ensures.at).1
