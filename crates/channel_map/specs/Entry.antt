-- What an entry of a map is read as.
use Rattle.std.specs.Prelude.{Option, Some, None, Result, Ok, Err, codes}
use Rattle.serde_json.specs.Data as json
use Rattle.serde_json.specs.Data.{Data, Members, boolean, number, string, array, object}
use Rattle.serde_json.specs.Find.{get_member}
use Rattle.channel_map.specs.declared.fault.Field.{Field}
use Rattle.channel_map.specs.declared.fault.Field.TheVariants.{NotObject, Source, Destination, ShortChannelId, Direction, Amount, Active, BaseFee, FeePerMillionth, Delay, HtlcMinimum, HtlcMaximum}
use Rattle.channel_map.specs.declared.edge.Edge.{Edge}
use Rattle.channel_map.specs.Edge.{side_between}
use Rattle.channel_map.specs.Keys.{node_value, other_node_value, scid_value, side_value, amount_value, amount_or, active_value, whole_value}

-- the values under the keys of an entry
pub record EntryValues : Type 0 where
  pub source : Option Data
  pub destination : Option Data
  pub short_channel_id : Option Data
  pub direction : Option Data
  pub amount : Option Data
  pub active : Option Data
  pub base_fee : Option Data
  pub fee_per_millionth : Option Data
  pub delay : Option Data
  pub htlc_minimum : Option Data
  pub htlc_maximum : Option Data

-- of repeated keys the last one counts, and other keys are ignored
abbrev pub values_in : Members → EntryValues
values_in ms = record {
  source = get_member (codes "source") ms;
  destination = get_member (codes "destination") ms;
  short_channel_id = get_member (codes "short_channel_id") ms;
  direction = get_member (codes "direction") ms;
  amount = get_member (codes "amount_msat") ms;
  active = get_member (codes "active") ms;
  base_fee = get_member (codes "base_fee_millisatoshi") ms;
  fee_per_millionth = get_member (codes "fee_per_millionth") ms;
  delay = get_member (codes "delay") ms;
  htlc_minimum = get_member (codes "htlc_minimum_msat") ms;
  htlc_maximum = get_member (codes "htlc_maximum_msat") ms;
}

-- what follows a good value, or the key that is bad
abbrev pub or_bad : {A B : Type 0} → Field → Option A → (A → Result B Field) → Result B Field
or_bad field None next = Err field
or_bad field (Some a) next = next a

-- the keys are checked in this order, and the first bad one counts
abbrev pub edge_of : EntryValues → Result Edge Field
edge_of it =
    or_bad Source (node_value it.source) (λ source.
    or_bad Destination (other_node_value source it.destination) (λ destination.
    or_bad ShortChannelId (scid_value it.short_channel_id) (λ scid.
    or_bad Direction (side_value (side_between source destination) it.direction) (λ side.
    or_bad Amount (amount_value it.amount) (λ capacity.
    or_bad Active (active_value it.active) (λ enabled.
    or_bad BaseFee (whole_value 4294967295 it.base_fee) (λ base.
    or_bad FeePerMillionth (whole_value 4294967295 it.fee_per_millionth) (λ ppm.
    or_bad Delay (whole_value 65535 it.delay) (λ delay.
    or_bad HtlcMinimum (amount_or 0 it.htlc_minimum) (λ htlc_min.
    or_bad HtlcMaximum (amount_or capacity it.htlc_maximum) (λ htlc_max.
    Ok (record {
      dir = record { scid = scid; side = side };
      source = source;
      destination = destination;
      capacity = capacity;
      htlc_min = htlc_min;
      htlc_max = htlc_max;
      base = base;
      ppm = ppm;
      delay = delay;
      enabled = enabled;
    }))))))))))))

-- the direction of an entry, or the first key that is bad
abbrev pub entry_of : Data → Result Edge Field
entry_of json.null = Err NotObject
entry_of (boolean b) = Err NotObject
entry_of (number n) = Err NotObject
entry_of (string s) = Err NotObject
entry_of (array ds) = Err NotObject
entry_of (object ms) = edge_of (values_in ms)
