-- What the text of a map, or of a local file, is read as.
use Rattle.std.specs.Prelude.{◌≡◌, ℕ, nat_lt, ◌||◌, Bool, All, List, [], ◌∷◌, ◌++◌, length, fold, bytes_eq, Option, Some, None, if◌then◌else◌}
use Rattle.std.specs.List.{list_any}
use Rattle.std.specs.List.Sorted.{IsPermutation}
use Rattle.std.specs.Str.{is_utf8}
use Rattle.serde_json.specs.Data.{Data}
use Rattle.serde_json.specs.Read.{read}
use Rattle.plan_base.specs.Dir.{Direction, same_dir}
use Rattle.channel_map.specs.declared.channel_map.TheConstants.{MAP_DIRECTIONS_MAX, MAP_NODES_MAX, LOCAL_DIRECTIONS_MAX}
use Rattle.channel_map.specs.declared.edge.Edge.{Edge}
use Rattle.channel_map.specs.declared.fault.Field.{Field}
use Rattle.channel_map.specs.declared.fault.MapFault.{MapFault}
use Rattle.channel_map.specs.declared.fault.MapFault.TheVariants.{NotJson, NoChannels, Entry, Twice, TooMany, Long, NoMemory}
use Rattle.channel_map.specs.Edge.{IsAscending, IsGoodEdge}
use Rattle.channel_map.specs.Channels.{Gathered, listed_entries}

-- The JSON value of a text, if it has one; the JSON crate defines it. Of repeated keys the last value counts, at most 127
-- arrays and objects are open at once, and a number beyond the range of a float is none.
unfoldable pub json_value : List ℕ → Option Data
json_value text = if is_utf8 text then read text else None

-- the first direction that an earlier one or one of `seen` equals
abbrev pub repeated_after : List Direction → List Edge → Option Direction
repeated_after seen [] = None
repeated_after seen (edge ∷ edges) = if list_any (same_dir edge.dir) seen then Some edge.dir else repeated_after (seen ++ edge.dir ∷ []) edges

-- the first direction that an earlier one equals
abbrev pub first_repeated : List Edge → Option Direction
first_repeated edges = repeated_after [] edges

-- the nodes with one more, if they lack it
abbrev pub with_node : List (List ℕ) → List ℕ → List (List ℕ)
with_node nodes node = if list_any (bytes_eq node) nodes then nodes else nodes ++ node ∷ []

-- the nodes with the ends of a direction
abbrev pub with_ends : List (List ℕ) → Edge → List (List ℕ)
with_ends nodes edge = with_node (with_node nodes edge.source) edge.destination

-- the ends of the directions, each node once
abbrev pub nodes_of : List Edge → List (List ℕ)
nodes_of edges = fold with_ends [] edges

-- What a text is read as.
pub data Reading : Type 0 where
  not_json : Reading
  no_channels : Reading
  -- the place of the first bad entry, and the first of its keys that is bad
  bad_entry : ℕ → Field → Reading
  -- the first direction that an earlier entry has too
  repeats : Direction → Reading
  -- how many directions and nodes there are
  too_many : ℕ → ℕ → Reading
  -- the directions, in the order of the entries
  accepted : List Edge → Reading

-- which lists are too large
abbrev pub SizeTest : Type 0
SizeTest = List Edge → Bool

-- the reading where no entry is bad, given the first repeated direction
abbrev pub reading_of_distinct : SizeTest → List Edge → Option Direction → Reading
reading_of_distinct is_large edges (Some dir) = repeats dir
reading_of_distinct is_large edges None = if is_large edges then too_many (length edges) (length (nodes_of edges)) else accepted edges

-- the reading of the directions before the first bad entry, and of its bad key
abbrev pub reading_of_entries : SizeTest → List Edge → Option Field → Reading
reading_of_entries is_large edges (Some field) = bad_entry (length edges) field
reading_of_entries is_large edges None = reading_of_distinct is_large edges (first_repeated edges)

abbrev pub reading_of_list : SizeTest → Option Gathered → Reading
reading_of_list is_large None = no_channels
reading_of_list is_large (Some found) = reading_of_entries is_large found.0 found.1

-- the reading of a value, given which lists are too large
abbrev pub reading_of : SizeTest → Option Data → Reading
reading_of is_large None = not_json
reading_of is_large (Some value) = reading_of_list is_large (listed_entries value)

-- whether there are too many directions or nodes for a map
abbrev pub is_large_map : SizeTest
is_large_map edges = nat_lt MAP_DIRECTIONS_MAX (length edges) || nat_lt MAP_NODES_MAX (length (nodes_of edges))

-- whether there are too many directions for a local file
abbrev pub is_large_local : SizeTest
is_large_local edges = nat_lt LOCAL_DIRECTIONS_MAX (length edges)

-- what the text of a map is read as
abbrev pub map_reading : List ℕ → Reading
map_reading text = reading_of is_large_map (json_value text)

-- what the text of a local file is read as
abbrev pub local_reading : List ℕ → Reading
local_reading text = reading_of is_large_local (json_value text)

-- What each fault says of the text. `NoMemory` may come for any text, and `Long` for none.
abbrev pub IsMapFault : MapFault → Reading → Type 0
IsMapFault NotJson reading = reading ≡ not_json
IsMapFault NoChannels reading = reading ≡ no_channels
IsMapFault (Entry index field) reading = reading ≡ bad_entry index field
IsMapFault (Twice dir) reading = reading ≡ repeats dir
IsMapFault (TooMany directions nodes) reading = reading ≡ too_many directions nodes
IsMapFault Long reading = ⊥
IsMapFault NoMemory reading = Unit {0}

-- the text is accepted, and these are the directions of its entries, in ascending order
pub record IsReadAs (reading : Reading) (edges : List Edge) : Type 0 where
  pub entries : List Edge
  pub read_as : reading ≡ accepted entries
  pub same : IsPermutation entries edges
  pub ascending : IsAscending edges

-- serves private clauses only: the value lists entries that are all good and of which no two have the same direction, and
-- these are their directions, in ascending order
pub record IsReadInOrder (value : Option Data) (edges : List Edge) : Type 0 where
  pub entries : List Edge
  pub read_as : (is_large : SizeTest) → reading_of is_large value ≡ reading_of_distinct is_large entries None
  pub good : All IsGoodEdge entries
  pub same : IsPermutation entries edges
  pub ascending : IsAscending edges
