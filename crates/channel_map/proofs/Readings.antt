-- The reading of a text, from what its value lists.
use Rattle.std.proofs.Common.{◌≡◌, Option, Some, None, option_map, ap}
use Rattle.serde_json.specs.Data.{Data}
use Rattle.channel_map.specs.Channels.{Gathered, listed_entries}
use Rattle.channel_map.specs.Reading.{Reading, SizeTest, not_json, no_channels, reading_of, reading_of_list, reading_of_entries}

pub reading_of_none : (is_large : SizeTest) (value : Option Data) → value ≡ None → reading_of is_large value ≡ not_json
reading_of_none is_large value e = ap (reading_of is_large) e

-- the list in the value, if there is a value
abbrev reading_by : (is_large : SizeTest) → Option (Option Gathered) → Reading
reading_by is_large None = not_json
reading_by is_large (Some found) = reading_of_list is_large found

reading_is : (is_large : SizeTest) (value : Option Data) (found : Option Gathered) → option_map listed_entries value ≡ Some found → reading_of is_large value ≡ reading_of_list is_large found
reading_is is_large None found e = absurd (cc)
reading_is is_large (Some value) found e = ap (reading_by is_large) e

pub reading_of_no_list : (is_large : SizeTest) (value : Option Data) → option_map listed_entries value ≡ Some None → reading_of is_large value ≡ no_channels
reading_of_no_list is_large value e = reading_is is_large value None e

pub reading_of_found : (is_large : SizeTest) (value : Option Data) (found : Gathered) → option_map listed_entries value ≡ Some (Some found) → reading_of is_large value ≡ reading_of_entries is_large found.0 found.1
reading_of_found is_large value found e = reading_is is_large value (Some found) e
