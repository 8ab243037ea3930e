use Rattle.std.proofs.Common.{rules, ap, ◌∙◌, sym, subst, ◌<◌}
use Rattle.server.specs.Counter.{above}
use Rattle.server.proofs.CounterSteps.{draws_allowed}
use Rattle.server.proofs.counter.Counter.draw.Goals as goal

pub fetch_add-requires : goal.fetch_add-requires
fetch_add-requires c =
    let view = ap (λ d. d.1) c.drawer.view_is in
    let table = ap (λ d. d.0) c.drawer.view_is ∙ (c.requires.counter ∙ sym c.self.view_is) in
    (table, search rules, draws_allowed _ _ _ _ (subst (λ v. above v.connections v.numbers < v.parts) (sym view) c.requires.going))
