-- The channels of the workload, each made by eight draws.
use Rattle.std.specs.Prelude.{ℕ, ◌+◌, ◌*◌, ◌%◌}
use Rattle.workload.specs.Draws.{draw, state_after}
use Rattle.workload.specs.Node.{other_node}
use Rattle.workload.specs.declared.channel.Policy.{Policy}
use Rattle.workload.specs.declared.channel.Channel.{Channel}

-- the policy of a direction, made by three draws
abbrev pub policy_from : ℕ → Policy
policy_from state = record {
  base = draw 0 state % 1000;
  ppm = draw 1 state % 500;
  delay = 6 + draw 2 state % 139;
}

-- the channel at a place: its ends, its capacity in msat, and the policy from its first end to its second and back
unfoldable pub channel_from : ℕ → ℕ → ℕ → Channel
channel_from nodes place state = record {
  first = place % nodes;
  second = other_node nodes (place % nodes) (draw 0 state);
  capacity = (1 + draw 1 state % 5000) * 1000000;
  forward = policy_from (state_after 2 state);
  backward = policy_from (state_after 5 state);
}

-- how many draws make a channel
abbrev pub channel_draws : ℕ
channel_draws = 8
