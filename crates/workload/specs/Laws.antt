-- What every workload keeps.
use Rattle.std.specs.Prelude.{◌≢◌, ◌<◌, ◌≤◌, ℕ}
use Rattle.workload.specs.declared.limits.TheConstants.{NODES_MIN}
use Rattle.workload.specs.Channel.{channel_from}
use Rattle.workload.specs.Payment.{payment_from}

-- two different nodes of so many
pub record AreTwoNodes (nodes first second : ℕ) : Type 0 where
  pub first_is : first < nodes
  pub second_is : second < nodes
  pub differ : first ≢ second

-- a channel is between two nodes
abbrev pub ChannelsHaveTwoEnds : Type 0
ChannelsHaveTwoEnds =
    (nodes place state : ℕ) → NODES_MIN ≤ nodes → AreTwoNodes nodes (channel_from nodes place state).first (channel_from nodes place state).second

-- no node pays itself
abbrev pub PaymentsHaveTwoEnds : Type 0
PaymentsHaveTwoEnds =
    (nodes state : ℕ) → NODES_MIN ≤ nodes → AreTwoNodes nodes (payment_from nodes state).source (payment_from nodes state).destination
