-- The entries that the code has found so far; it serves private clauses only.
use Rattle.std.specs.Prelude.{[], ◌∷◌, ◌++◌, Option, Some, None, Result, Ok, Err, option_map}
use Rattle.channel_map.specs.declared.fault.Field.{Field}
use Rattle.channel_map.specs.declared.edge.Edge.{Edge}
use Rattle.channel_map.specs.declared.entries.Entries.{Entries}
use Rattle.channel_map.specs.Channels.{Gathered}

abbrev pub gathered_in : Entries → Gathered
gathered_in found = (found.edges.items, found.bad)

abbrev pub found_in : Option Entries → Option Gathered
found_in found = option_map gathered_in found

-- with one more entry at the end
abbrev pub with_entry : Gathered → Result Edge Field → Gathered
with_entry (edges, None) (Ok edge) = (edges ++ edge ∷ [], None)
with_entry (edges, None) (Err field) = (edges, Some field)
with_entry (edges, Some old) entry = (edges, Some old)

-- what has been gathered, and what is gathered after it
abbrev pub joined : Gathered → Gathered → Gathered
joined (edges, None) more = (edges ++ more.0, more.1)
joined (edges, Some field) more = (edges, Some field)
