use Rattle.std.proofs.Common.{rules, ap, ◌∙◌, sym, subst, ◌<◌, ◌≤◌, ◌+◌}
use Rattle.server.specs.declared.limits.TheConstants.{WORKERS_MAX}
use Rattle.server.proofs.CounterSteps.{whole_allowed}
use Rattle.server.proofs.counter.Counter.tell.Goals as goal

pub load-requires : goal.load-requires
load-requires c =
    let view = ap (λ d. d.1) c.drawer.view_is in
    let table = ap (λ d. d.0) c.drawer.view_is ∙ (c.requires.counter ∙ sym c.self.view_is) in
    (table, search rules, whole_allowed _ _ _ _ (subst (λ v. 0 < v.parts) (sym view) c.requires.parts) (subst (λ v. WORKERS_MAX + 1 ≤ v.parts + v.splits) (sym view) c.requires.all))
