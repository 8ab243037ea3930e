use Rattle.std.proofs.Common.{ap, ◌∙◌}
use Rattle.serve_command.proofs.Ends.{own_ends, all_answered, all_told, all_have_sessions}
use Rattle.serve_command.proofs.Faults.{all_sums_rise, all_out_of_memory}
use Rattle.serve_command.proofs.served.serve_all.Goals as goal

pub returns-clause-ends : goal.returns-clause-ends
returns-clause-ends g c = own_ends _ _ _ _ _ _ _ c.in-Ok.ensures.ends

pub returns-clause-answered : goal.returns-clause-answered
returns-clause-answered g c = all_answered _ _ _ _ _ c.in_ok-desk.pass.1 _ _ _ (ap (λ p. p.1.taken_in) c.in_ok-desk.ensures) c.close_with-journal.ensures c.in-Ok.ensures.ends

pub returns-clause-calls : goal.returns-clause-calls
returns-clause-calls g c = all_told _ _ _ _ _ c.in_ok-desk.pass.1 _ _ _ (ap (λ p. p.1.taken_in) c.in_ok-desk.ensures) c.close_with-journal.ensures c.in-Ok.ensures.ends

pub returns-clause-entries : goal.returns-clause-entries
returns-clause-entries g c = all_have_sessions c.in_ok-desk.pass.1 _ _ _ (ap (λ p. p.1.taken_in) c.in_ok-desk.ensures) (c.in-Ok.ensures.follows.calls ∙ ap (λ p. p.1.calls) c.in_ok-desk.ensures) c.close_with-journal.ensures c.in-Ok.ensures.silent

pub returns-clause-accept_sum : goal.returns-clause-accept_sum
returns-clause-accept_sum g c = all_sums_rise g.A.Acceptor.accept_faults _ _ _ c.in-Ok.ensures.workers c.in-Ok.ensures.counts c.in-Ok.ensures.fault_workers c.in-Ok.ensures.accept_cause

pub returns-clause-complete : goal.returns-clause-complete
returns-clause-complete g c = all_out_of_memory g.A.Acceptor.accept_faults _ _ _ c.in-Ok.ensures.fault_workers c.in-Ok.ensures.accept_cause
