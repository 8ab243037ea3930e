use Rattle.std.proofs.Common.{◌∙◌}
use Rattle.askrened.proofs.serve.bind_and_serve.Goals as goal

pub returns-in-Ok-serve_all-clause-served : goal.returns-in-Ok-serve_all-clause-served
returns-in-Ok-serve_all-clause-served c d =
    let e = d.in-Ok-serve_all.ensures in
    rw d.end_of.ensures (record {
      given = d.in-Ok.workers.items;
      count = d.in-Ok.ensures.count ∙ d.workers_or_usual-workers.ensures;
      fresh = d.in-Ok.ensures.fresh;
      same_count = e.workers;
      counts = e.counts;
      accepted_all = e.accepted;
      ends = e.ends;
      calls = e.calls;
      entries = e.entries;
      ascending = e.ascending;
      numbers = e.numbers;
      callers = e.callers;
      missing = e.missing;
      fault_order = e.fault_order;
      fault_workers = e.fault_workers;
      accept_cause = e.accept_cause;
      accept_sum = e.accept_sum;
    })

pub returns-in-Ok-serve_all-clause-answered : goal.returns-in-Ok-serve_all-clause-answered
returns-in-Ok-serve_all-clause-answered c d = rw d.end_of.ensures d.in-Ok-serve_all.ensures.answered
