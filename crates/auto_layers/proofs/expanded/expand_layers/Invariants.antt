use Rattle.std.proofs.Common.{◌≡◌, ◌++◌, length, drop}
use Rattle.layer.specs.Ask.{named_layers}
use Rattle.auto_layers.specs.LocalLayer.{local_lists}
use Rattle.auto_layers.specs.Expanded.{expanded_layers}
use Rattle.auto_layers.proofs.expanded.expand_layers.Given as goal

abbrev pub invariant-loop-asked : goal.invariant-loop-asked
invariant-loop-asked l = record {
  rest : l.layers.items ++ expanded_layers (local_lists l.local) (drop l.asked-index l.asked) (drop l.next l.named) ≡ expanded_layers (local_lists l.local) l.asked l.named;
  one_each : length (drop l.next l.named) ≡ length (named_layers (drop l.asked-index l.asked));
}
