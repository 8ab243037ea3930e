use Rattle.std.proofs.Common.{rules, ap, ◌∙◌, sym, subst, ◌<◌}
use Rattle.server.proofs.CounterSteps.{splits}
use Rattle.server.proofs.counter.Counter.split.Goals as goal

pub split_seat-seat-requires : goal.split_seat-seat-requires
split_seat-seat-requires c =
    let view = ap (λ d. d.1) c.drawer.view_is in
    let table = ap (λ d. d.0) c.drawer.view_is ∙ (c.requires.counter ∙ sym c.self.view_is) in
    (table, search rules, splits _ _ _ (subst (λ v. 0 < v.splits) (sym view) c.requires.splits) (subst (λ v. 0 < v.parts) (sym view) c.requires.parts))
