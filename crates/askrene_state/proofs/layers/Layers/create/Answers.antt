use Rattle.std.proofs.Common.{sym, arith, ◌<◌, length}
use Rattle.askrene_state.specs.declared.layers.TheConstants.{LAYERS_MAX}
use Rattle.askrene_state.proofs.Steps.{create_done}
use Rattle.askrene_state.proofs.layers.Layers.create.Goals as goal

pub returns-clause-step : goal.returns-clause-step
returns-clause-step c =
    let few : length c.self.inside.layers.entries < LAYERS_MAX = omega (arith, c.if-count-ge-LAYERS_MAX.false, c.len-count.ensures.len) in
    let made = rw (c.in_ok-name.ensures, c.new.ensures.empty) at c.in_ok-insert.ensures.entries in
    rw (← c.self.view_is) (create_done c.self.inside.layers _ c.args.layer.now (sym c.if-contains_key.ensures) few made)
