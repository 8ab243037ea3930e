-- An entry from the slots of its keys: of each value no more than its outline is seen.
use Rattle.std.proofs.Common.{◌≡◌, ℕ, List, Option, Some, None, Result, Err, option_map, refl, sym}
use Rattle.serde_json.specs.Data as json
use Rattle.serde_json.specs.Data.{Data, boolean, number, string, array, object}
use Rattle.json_pass.specs.Value.{outline}
use Rattle.json_pass.specs.Members.{wanted_values}
use Rattle.channel_map.specs.declared.fault.Field.{Field}
use Rattle.channel_map.specs.declared.fault.Field.TheVariants.{NotObject}
use Rattle.channel_map.specs.declared.edge.Edge.{Edge}
use Rattle.channel_map.specs.Keys.{node_value, scid_value, side_value, amount_value, amount_or, active_value, whole_value}
use Rattle.channel_map.specs.Entry.{EntryValues, values_in, edge_of, entry_of}
use Rattle.channel_map.specs.Slots.{names, values_at}

node_outline : (o : Option Data) → node_value (option_map outline o) ≡ node_value o
node_outline None = refl
node_outline (Some json.null) = refl
node_outline (Some (boolean b)) = refl
node_outline (Some (number n)) = refl
node_outline (Some (string s)) = refl
node_outline (Some (array ds)) = refl
node_outline (Some (object ms)) = refl

scid_outline : (o : Option Data) → scid_value (option_map outline o) ≡ scid_value o
scid_outline None = refl
scid_outline (Some json.null) = refl
scid_outline (Some (boolean b)) = refl
scid_outline (Some (number n)) = refl
scid_outline (Some (string s)) = refl
scid_outline (Some (array ds)) = refl
scid_outline (Some (object ms)) = refl

side_outline : (side : ℕ) (o : Option Data) → side_value side (option_map outline o) ≡ side_value side o
side_outline side None = refl
side_outline side (Some json.null) = refl
side_outline side (Some (boolean b)) = refl
side_outline side (Some (number n)) = refl
side_outline side (Some (string s)) = refl
side_outline side (Some (array ds)) = refl
side_outline side (Some (object ms)) = refl

amount_outline : (o : Option Data) → amount_value (option_map outline o) ≡ amount_value o
amount_outline None = refl
amount_outline (Some json.null) = refl
amount_outline (Some (boolean b)) = refl
amount_outline (Some (number n)) = refl
amount_outline (Some (string s)) = refl
amount_outline (Some (array ds)) = refl
amount_outline (Some (object ms)) = refl

default_outline : (default : ℕ) (o : Option Data) → amount_or default (option_map outline o) ≡ amount_or default o
default_outline default None = refl
default_outline default (Some json.null) = refl
default_outline default (Some (boolean b)) = refl
default_outline default (Some (number n)) = refl
default_outline default (Some (string s)) = refl
default_outline default (Some (array ds)) = refl
default_outline default (Some (object ms)) = refl

active_outline : (o : Option Data) → active_value (option_map outline o) ≡ active_value o
active_outline None = refl
active_outline (Some json.null) = refl
active_outline (Some (boolean b)) = refl
active_outline (Some (number n)) = refl
active_outline (Some (string s)) = refl
active_outline (Some (array ds)) = refl
active_outline (Some (object ms)) = refl

whole_outline : (limit : ℕ) (o : Option Data) → whole_value limit (option_map outline o) ≡ whole_value limit o
whole_outline limit None = refl
whole_outline limit (Some json.null) = refl
whole_outline limit (Some (boolean b)) = refl
whole_outline limit (Some (number n)) = refl
whole_outline limit (Some (string s)) = refl
whole_outline limit (Some (array ds)) = refl
whole_outline limit (Some (object ms)) = refl

-- the outlines of an entry's values
abbrev outlines : EntryValues → EntryValues
outlines it = record {
  source = option_map outline it.source;
  destination = option_map outline it.destination;
  short_channel_id = option_map outline it.short_channel_id;
  direction = option_map outline it.direction;
  amount = option_map outline it.amount;
  active = option_map outline it.active;
  base_fee = option_map outline it.base_fee;
  fee_per_millionth = option_map outline it.fee_per_millionth;
  delay = option_map outline it.delay;
  htlc_minimum = option_map outline it.htlc_minimum;
  htlc_maximum = option_map outline it.htlc_maximum;
}

edge_outlines : (it : EntryValues) → edge_of (outlines it) ≡ edge_of it
edge_outlines it = simp (node_outline, scid_outline, side_outline, amount_outline, default_outline, active_outline, whole_outline)

-- the entry from the slots, if the value is an object
abbrev pub from_slots : Option (List (Option Data)) → Result Edge Field
from_slots None = Err NotObject
from_slots (Some slots) = edge_of (values_at slots)

pub entry_from_slots : (d : Data) → entry_of d ≡ from_slots (wanted_values names d)
entry_from_slots json.null = refl
entry_from_slots (boolean b) = refl
entry_from_slots (number n) = refl
entry_from_slots (string s) = refl
entry_from_slots (array ds) = refl
entry_from_slots (object ms) = sym (edge_outlines (values_in ms))
