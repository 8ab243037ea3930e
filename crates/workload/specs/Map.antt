-- The map of the workload, in the form of `listchannels`.
use Rattle.std.specs.Prelude.{ℕ, zero, suc, ◌+◌, List, codes}
use Rattle.serde_json.specs.Data.{Data, string, array, object, Items, no_items, item, no_members, member}
use Rattle.serde_json.specs.Written.{compact_text}
use Rattle.plan_base.specs.Scid.{scid_number, scid_text}
use Rattle.rpc_lines.specs.Json.{whole}
use Rattle.workload.specs.Draws.{state_after}
use Rattle.workload.specs.Node.{node_text}
use Rattle.workload.specs.Channel.{channel_from, channel_draws}
use Rattle.workload.specs.declared.channel.Policy.{Policy}
use Rattle.workload.specs.declared.channel.Channel.{Channel}

-- A direction of the channel at a place, which is block 1, this transaction, output 0. Absent keys have their defaults: the
-- direction is active, its HTLC minimum is 0, and its HTLC maximum is the capacity.
unfoldable pub entry_data : ℕ → ℕ → ℕ → ℕ → Policy → Data
entry_data place source destination capacity policy =
    object (member (codes "amount_msat") (whole capacity)
    (member (codes "base_fee_millisatoshi") (whole policy.base)
    (member (codes "delay") (whole policy.delay)
    (member (codes "destination") (string (node_text destination))
    (member (codes "fee_per_millionth") (whole policy.ppm)
    (member (codes "short_channel_id") (string (scid_text (scid_number 1 place 0)))
    (member (codes "source") (string (node_text source)) no_members)))))))

-- the direction from the first end to the second
abbrev pub forward_data : ℕ → Channel → Data
forward_data place channel = entry_data place channel.first channel.second channel.capacity channel.forward

-- the direction from the second end to the first
abbrev pub backward_data : ℕ → Channel → Data
backward_data place channel = entry_data place channel.second channel.first channel.capacity channel.backward

-- the two directions of a channel, before others
abbrev pub before_entries : ℕ → Channel → Items → Items
before_entries place channel more = item (forward_data place channel) (item (backward_data place channel) more)

-- the entries of so many channels, the first of them at a place
abbrev pub entries_from : ℕ → ℕ → ℕ → ℕ → Items
entries_from nodes zero place state = no_items
entries_from nodes (suc count) place state =
    before_entries place (channel_from nodes place state) (entries_from nodes count (place + 1) (state_after channel_draws state))

-- the value of a map of so many nodes and channels
abbrev pub map_data : ℕ → ℕ → ℕ → Data
map_data number nodes channels = object (member (codes "channels") (array (entries_from nodes channels 0 number)) no_members)

-- the text of that map, without spaces
unfoldable pub map_text_of : ℕ → ℕ → ℕ → List ℕ
map_text_of number nodes channels = compact_text (map_data number nodes channels)
