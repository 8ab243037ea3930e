use Rattle.std.proofs.Common.{◌≡◌, take, None}
use Rattle.auto_layers.specs.LocalLayer.{local_lists}
use Rattle.auto_layers.specs.Added.{last_channel}
use Rattle.auto_layers.proofs.local.local_layer.Given as goal

abbrev pub invariant-loop-edge : goal.invariant-loop-edge
invariant-loop-edge l = record {
  layer : l.layer ≡ local_lists (take l.edge-index l.local);
  last : l.last ≡ last_channel None (take l.edge-index l.local);
}
