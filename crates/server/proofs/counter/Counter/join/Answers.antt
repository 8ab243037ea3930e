use Rattle.std.proofs.Common.{rules, ap, ◌∙◌, sym, subst, ◌<◌}
use Rattle.server.proofs.CounterSteps.{joins, learns_allowed}
use Rattle.server.proofs.counter.Counter.join.Goals as goal

pub join_seat-requires : goal.join_seat-requires
join_seat-requires c =
    let view = ap (λ d. d.1) c.drawer.view_is in
    let table = ap (λ d. d.0) c.drawer.view_is ∙ (c.requires.counter ∙ sym c.self.view_is) in
    (table, ap (λ d. d.0) c.other.view_is ∙ (c.requires.other ∙ sym c.self.view_is), search rules, search rules, joins _ _ _ _ _ (subst (λ v. 0 < v.parts) (sym view) c.requires.parts))

pub load-requires : goal.load-requires
load-requires c = (search rules, search rules, learns_allowed _ _ _ _)
