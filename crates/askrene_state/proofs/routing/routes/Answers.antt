use Rattle.std.proofs.Common.{◌≡◌, ◌∙◌, sym, ap, Ok}
use Rattle.layer.specs.Ask.{named_layers}
use Rattle.askrene_state.specs.Replies.{is_found}
use Rattle.askrene_state.specs.RoutesStep.{asked_layers}
use Rattle.askrene_state.proofs.Asked.{one_each}
use Rattle.askrene_state.proofs.routing.routes.Goals as goal

pub new-snapshot-requires-clause-layers : goal.new-snapshot-requires-clause-layers
new-snapshot-requires-clause-layers c =
    let found : asked_layers c.args.layers.now (named_layers c.args.ask.now.layers) ≡ Ok c.in-Layers.found.items = rw c.as_slice.ensures at (sym c.in_ok-found.ensures ∙ ap is_found c.in-Layers.is) in
    rw (c.from_vec.ensures, c.in_ok-ask.ensures.equal) (one_each c.args.layers.now (named_layers c.args.ask.now.layers) c.in-Layers.found.items found)
