use Rattle.std.proofs.Common.{◌≡◌, take}
use Rattle.layer.proofs.ask.copy_layers.Given as goal

abbrev pub invariant-loop-i : goal.invariant-loop-i
invariant-loop-i l = l.copied.items ≡ take l.i l.layers
