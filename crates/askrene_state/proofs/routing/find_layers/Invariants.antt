use Rattle.std.proofs.Common.{◌≡◌, drop}
use Rattle.layer.specs.Ask.{named_layers}
use Rattle.askrene_state.specs.RoutesStep.{asked_layers}
use Rattle.askrene_state.proofs.Asked.{after}
use Rattle.askrene_state.proofs.routing.find_layers.Given as goal

abbrev pub invariant-loop-i : goal.invariant-loop-i
invariant-loop-i l = asked_layers l.layers (named_layers l.asked) ≡ after l.found.items (asked_layers l.layers (named_layers (drop l.i l.asked)))
