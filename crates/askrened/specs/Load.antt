-- The files that a command line names: which are good, what is loaded of them, and what a status says of them.
use Rattle.std.specs.Prelude.{◌≡◌, ◌≢◌, ◌<◌, ◌≤◌, ⊤, List, [], length, Option, Some, None, IfSome, IsSomeAnd, true, false}
use Rattle.channel_map.specs.declared.edge.Edge.{Edge}
use Rattle.channel_map.specs.declared.fault.MapFault.{MapFault}
use Rattle.channel_map.specs.declared.fault.MapFault.TheVariants as Fault
use Rattle.channel_map.specs.Reading.{Reading, accepted, map_reading, local_reading, IsMapFault, IsReadAs}
use Rattle.askrened.specs.declared.load.TheConstants.{FILE_MAX}
use Rattle.askrened.specs.declared.status.Status.{Status}
use Rattle.askrened.specs.declared.status.Status.TheVariants.{MapRefused, ReadFault, NoMemory}
use Rattle.askrened.specs.Form.{Bytes}

-- the bytes of the file with a name, if they are known
abbrev pub Files : Type 0
Files = Bytes → Option Bytes

-- what the text of a file is read as
abbrev pub Reader : Type 0
Reader = Bytes → Reading

abbrev pub IsAccepted : Reading → Type 0
IsAccepted (accepted edges) = ⊤
IsAccepted _ = ⊥

-- a file of these bytes is loaded: it is not too long, and its reading accepts it
abbrev pub IsGoodFile : Reader → Bytes → Type 0
IsGoodFile reader bytes = (length bytes ≤ FILE_MAX) × IsAccepted (reader bytes)

-- a named file is good, if its bytes are known
abbrev pub IsGood : Reader → Files → Option Bytes → Type 0
IsGood reader files None = ⊤
IsGood reader files (Some name) = IfSome (files name) (IsGoodFile reader)

-- the bytes of a named file are known, and it is good
abbrev pub IsKnownGood : Reader → Files → Option Bytes → Type 0
IsKnownGood reader files None = ⊤
IsKnownGood reader files (Some name) = IsSomeAnd (files name) (IsGoodFile reader)

-- the directions of a named file, if its bytes are known; none if no file is named
abbrev pub IsLoadedAs : Reader → Files → Option Bytes → List Edge → Type 0
IsLoadedAs reader files None edges = edges ≡ []
IsLoadedAs reader files (Some name) edges =
    IfSome (files name) (λ bytes. (length bytes ≤ FILE_MAX) × IsReadAs (reader bytes) edges)

-- why a file of these bytes is refused: it is too long, or it is not and its reading refuses it
abbrev pub IsFaultOf : Reader → MapFault → Bytes → Type 0
IsFaultOf reader Fault.Long bytes = FILE_MAX < length bytes
IsFaultOf reader fault bytes = (length bytes ≤ FILE_MAX) × IsMapFault fault (reader bytes)

-- a file is named, and refused for this fault, if its bytes are known
abbrev pub IsRefusedFor : Reader → Files → Option Bytes → MapFault → Type 0
IsRefusedFor reader files None fault = ⊥
IsRefusedFor reader files (Some name) fault = (fault ≢ Fault.NoMemory) × IfSome (files name) (IsFaultOf reader fault)

-- What a status says of the files. The map is loaded before the local file, and both before anything else.
abbrev pub TellsFiles : Files → Option Bytes → Option Bytes → Status → Type 0
TellsFiles files map local (MapRefused false fault) = IsRefusedFor map_reading files map fault
TellsFiles files map local (MapRefused true fault) = IsGood map_reading files map × IsRefusedFor local_reading files local fault
TellsFiles files map local ReadFault = ⊤
TellsFiles files map local NoMemory = ⊤
TellsFiles files map local _ = IsGood map_reading files map × IsGood local_reading files local

-- the statuses of a load that fails
abbrev pub IsLoadFault : Status → Type 0
IsLoadFault (MapRefused local fault) = ⊤
IsLoadFault ReadFault = ⊤
IsLoadFault NoMemory = ⊤
IsLoadFault _ = ⊥
