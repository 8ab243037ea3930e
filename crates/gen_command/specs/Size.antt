-- The sizes of workloads.
use Rattle.std.specs.Prelude.{◌≤◌, ℕ, nat_le, ◌&&◌, Option, Some, None, if◌then◌else◌}
use Rattle.workload.specs.declared.limits.TheConstants.{NODES_MIN, NODES_MAX, CHANNELS_MAX, ASKS_MAX}
use Rattle.gen_command.specs.declared.size.Size.{Size}

-- the size of these numbers, if each is in its range
unfoldable pub size_of : ℕ → ℕ → ℕ → ℕ → Option Size
size_of number nodes channels asks =
    if nat_le NODES_MIN nodes && (nat_le nodes NODES_MAX && (nat_le channels CHANNELS_MAX && nat_le asks ASKS_MAX))
    then Some (record { number = number; nodes = nodes; channels = channels; asks = asks }) else None

-- each number is in its range
pub record IsSize (size : Size) : Type 0 where
  pub some_nodes : NODES_MIN ≤ size.nodes
  pub few_nodes : size.nodes ≤ NODES_MAX
  pub few_channels : size.channels ≤ CHANNELS_MAX
  pub few_asks : size.asks ≤ ASKS_MAX
