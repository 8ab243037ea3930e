use Rattle.std.proofs.Common.{sym}
use Rattle.askrene_state.proofs.Entries.{none_there}
use Rattle.askrene_state.proofs.Steps.{change_unknown, change_told}
use Rattle.askrene_state.proofs.layers.Layers.change.Goals as goal

pub returns-in_default-clause-step : goal.returns-in_default-clause-step
returns-in_default-clause-step g c =
    rw (c.in_ok-layer.ensures, ← c.self.view_is) (change_unknown c.self.inside.layers.entries c.args.name.now _ (none_there _ (sym c.in_default.ensures.found)))

pub returns-clause-step : goal.returns-clause-step
returns-clause-step g c =
    rw (← c.self.view_is) (change_told c.self.inside.layers.entries _ c.args.name.now _ c.in-Some.place _
    (sym c.in-Some.ensures.index) c.in-Some.ensures.value (sym c.in-Some.ensures.found) c.change_at.ensures.step)
