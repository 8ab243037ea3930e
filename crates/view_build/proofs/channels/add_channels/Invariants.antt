use Rattle.std.proofs.Common.{◌≡◌, ℕ, IfSome, take}
use Rattle.std.specs.Option.{option_or}
use Rattle.layer.specs.Created.{IsGoodCreated}
use Rattle.view_build.specs.Channels.{channel_at, channel_in}
use Rattle.view_build.proofs.channels.add_channels.Given as goal

abbrev pub invariant-loop-channel : goal.invariant-loop-channel
invariant-loop-channel l = record {
  first : (scid : ℕ) → channel_at l.map scid ≡ option_or (channel_at l.initial.map scid) (channel_in scid (take l.channel-index l.channels));
  good : (scid : ℕ) → IfSome (channel_at l.map scid) IsGoodCreated;
}
