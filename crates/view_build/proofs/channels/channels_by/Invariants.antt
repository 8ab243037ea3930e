use Rattle.std.proofs.Common.{◌≡◌, ℕ, IfSome, take}
use Rattle.layer.specs.Created.{IsGoodCreated}
use Rattle.view_build.specs.Rules.{first_created}
use Rattle.view_build.specs.Channels.{channel_at}
use Rattle.view_build.proofs.channels.channels_by.Given as goal

abbrev pub invariant-loop-layer : goal.invariant-loop-layer
invariant-loop-layer l = record {
  first : (scid : ℕ) → channel_at l.map scid ≡ first_created scid (take l.layer-index l.layers);
  good : (scid : ℕ) → IfSome (channel_at l.map scid) IsGoodCreated;
}
