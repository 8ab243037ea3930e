-- Channels that a layer creates.
use Rattle.std.specs.Prelude.{◌≤◌, ◌≢◌}
use Rattle.plan_base.specs.declared.amount.TheConstants.{MAX}
use Rattle.layer.specs.declared.records.Created.{Created}

-- a capacity of 1 to MAX msat between two different nodes
pub record IsGoodCreated (channel : Created) : Type 0 where
  pub some : 1 ≤ channel.capacity
  pub amount : channel.capacity ≤ MAX
  pub apart : channel.source ≢ channel.destination
