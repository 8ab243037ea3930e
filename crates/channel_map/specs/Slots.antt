-- The values of an entry's keys by the places of their names; it serves private clauses only.
use Rattle.std.specs.Prelude.{ℕ, List, [], ◌∷◌, Option, None, codes, get_or}
use Rattle.serde_json.specs.Data.{Data}
use Rattle.channel_map.specs.Entry.{EntryValues}

abbrev pub names : List (List ℕ)
names =
    codes "source" ∷ codes "destination" ∷ codes "short_channel_id" ∷ codes "direction" ∷ codes "amount_msat" ∷ codes "active"
    ∷ codes "base_fee_millisatoshi" ∷ codes "fee_per_millionth" ∷ codes "delay" ∷ codes "htlc_minimum_msat" ∷ codes "htlc_maximum_msat" ∷ []

abbrev pub values_at : List (Option Data) → EntryValues
values_at slots = record {
  source = get_or slots 0 None;
  destination = get_or slots 1 None;
  short_channel_id = get_or slots 2 None;
  direction = get_or slots 3 None;
  amount = get_or slots 4 None;
  active = get_or slots 5 None;
  base_fee = get_or slots 6 None;
  fee_per_millionth = get_or slots 7 None;
  delay = get_or slots 8 None;
  htlc_minimum = get_or slots 9 None;
  htlc_maximum = get_or slots 10 None;
}
