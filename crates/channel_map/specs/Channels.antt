-- Where the entries of a map stand in its text, and what they are read as.
use Rattle.std.specs.Prelude.{List, [], ◌∷◌, Option, Some, None, Result, Ok, Err, codes, option_map, option_and_then}
use Rattle.std.specs.Option.{option_or}
use Rattle.serde_json.specs.Data.{Data, Items, no_items, item, Members}
use Rattle.serde_json.specs.Find.{get_member, as_array, as_object}
use Rattle.channel_map.specs.declared.fault.Field.{Field}
use Rattle.channel_map.specs.declared.edge.Edge.{Edge}
use Rattle.channel_map.specs.Entry.{entry_of}

-- the directions of the entries before the first bad one, and the bad key of that one if there is one
abbrev pub Gathered : Type 0
Gathered = List Edge × Option Field

-- an entry before others
abbrev pub before : Result Edge Field → Gathered → Gathered
before (Ok edge) more = (edge ∷ more.0, more.1)
before (Err field) more = ([], Some field)

abbrev pub gathered_of : Items → Gathered
gathered_of no_items = ([], None)
gathered_of (item entry entries) = before (entry_of entry) (gathered_of entries)

-- the entries of an array
abbrev pub array_entries : Data → Option Gathered
array_entries value = option_map gathered_of (as_array value)

-- the entries of the array `channels` among the members of an object
abbrev pub channels_in : Members → Option Gathered
channels_in ms = option_and_then array_entries (get_member (codes "channels") ms)

-- the same of a value that is an object
abbrev pub channels_within : Data → Option Gathered
channels_within value = option_and_then channels_in (as_object value)

-- the object's own array counts, else that of the object at its key `result`
abbrev pub listed_in : Members → Option Gathered
listed_in ms = option_or (channels_in ms) (option_and_then channels_within (get_member (codes "result") ms))

-- the entries that a map's value lists, if it has a list
abbrev pub listed_entries : Data → Option Gathered
listed_entries value = option_and_then listed_in (as_object value)
