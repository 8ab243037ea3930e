-- What the loading of one file says of the files of a load, and which ends of a load there are.
use Rattle.std.proofs.Common.{◌≡◌, ◌≢◌, ◌<◌, ◌≤◌, ℕ, List, length, Some, None, Option, Bool, true, false, refl, sym, subst, arith}
use Rattle.std.specs.Prelude.{IfSome}
use Rattle.channel_map.specs.declared.edge.Edge.{Edge}
use Rattle.channel_map.specs.declared.fault.MapFault.{MapFault}
use Rattle.channel_map.specs.declared.fault.MapFault.TheVariants as Fault
use Rattle.channel_map.specs.Reading.{Reading, map_reading, local_reading, IsMapFault, IsReadAs}
use Rattle.port_io.specs.Faults.{Rose}
use Rattle.askrened.specs.declared.load.TheConstants.{FILE_MAX}
use Rattle.askrened.specs.declared.status.Status.{Status}
use Rattle.askrened.specs.declared.status.Status.TheVariants.{Ok, Usage, MapRefused, ReadFault, WriteFault, NoMemory, CheckNo, SessionFull, Long, BindFault, AcceptFault}
use Rattle.askrened.specs.Form.{Bytes}
use Rattle.askrened.specs.Load.{Files, Reader, IsAccepted, IsGoodFile, IsGood, IsLoadedAs, IsFaultOf, IsRefusedFor, IsLoadFault, TellsFiles}
use Rattle.askrened.specs.OneFile.{IsTextOf, TellsFile, refusal_status}

-- a text that is accepted is loaded from its file
loads : (reader : Reader) (known : Option Bytes) (text : Bytes) (edges : List Edge) → IsTextOf known text → IsReadAs (reader text) edges
    → IfSome known (λ bytes. (length bytes ≤ FILE_MAX) × IsReadAs (reader bytes) edges)
loads reader None text edges is read = tt
loads reader (Some bytes) text edges is read = subst (λ b. (length b ≤ FILE_MAX) × IsReadAs (reader b) edges) is.1 (is.0, read)

pub text_loads : (reader : Reader) (files : Files) (name text : Bytes) (edges : List Edge) → IsTextOf (files name) text → IsReadAs (reader text) edges
    → IsLoadedAs reader files (Some name) edges
text_loads reader files name text edges is read = loads reader (files name) text edges is read

-- a text that its reading refuses, for a fault that has nothing to do with its length
refused_text : (reader : Reader) (known : Option Bytes) (text : Bytes) (Fits : Bytes → Type 0) → IsTextOf known text → Fits text
    → IfSome known (λ bytes. (length bytes ≤ FILE_MAX) × Fits bytes)
refused_text reader None text Fits is fits = tt
refused_text reader (Some bytes) text Fits is fits = subst (λ b. (length b ≤ FILE_MAX) × Fits b) is.1 (is.0, fits)

pub fault_tells : (reader : Reader) (files : Files) (name text : Bytes) (local : Bool) (fault : MapFault) → IsTextOf (files name) text
    → IsMapFault fault (reader text) → fault ≢ Fault.Long → TellsFile reader files (Some name) local (refusal_status local fault)
fault_tells reader files name text local Fault.NotJson is fits short =
    (refl, ((λ same. cc), refused_text reader (files name) text (λ b. IsMapFault Fault.NotJson (reader b)) is fits))
fault_tells reader files name text local Fault.NoChannels is fits short =
    (refl, ((λ same. cc), refused_text reader (files name) text (λ b. IsMapFault Fault.NoChannels (reader b)) is fits))
fault_tells reader files name text local (Fault.Entry index field) is fits short =
    (refl, ((λ same. cc), refused_text reader (files name) text (λ b. IsMapFault (Fault.Entry index field) (reader b)) is fits))
fault_tells reader files name text local (Fault.Twice dir) is fits short =
    (refl, ((λ same. cc), refused_text reader (files name) text (λ b. IsMapFault (Fault.Twice dir) (reader b)) is fits))
fault_tells reader files name text local (Fault.TooMany directions nodes) is fits short =
    (refl, ((λ same. cc), refused_text reader (files name) text (λ b. IsMapFault (Fault.TooMany directions nodes) (reader b)) is fits))
fault_tells reader files name text local Fault.Long is fits short = absurd (short refl)
fault_tells reader files name text local Fault.NoMemory is fits short = tt

pub long_tells : (reader : Reader) (files : Files) (name : Bytes) (local : Bool) → IfSome (files name) (λ bytes. FILE_MAX < length bytes)
    → TellsFile reader files (Some name) local (MapRefused local Fault.Long)
long_tells reader files name local long = (refl, ((λ same. cc), long))

-- the second file is loaded over the same files
loaded_over : (reader : Reader) (known later : Option Bytes) (edges : List Edge) → later ≡ known
    → IfSome later (λ bytes. (length bytes ≤ FILE_MAX) × IsReadAs (reader bytes) edges) → IfSome known (λ bytes. (length bytes ≤ FILE_MAX) × IsReadAs (reader bytes) edges)
loaded_over reader known later edges same loaded = subst (λ k. IfSome k (λ bytes. (length bytes ≤ FILE_MAX) × IsReadAs (reader bytes) edges)) same loaded

pub loaded_later : (reader : Reader) (files later : Files) (name : Option Bytes) (edges : List Edge) → ((other : Bytes) → later other ≡ files other)
    → IsLoadedAs reader later name edges → IsLoadedAs reader files name edges
loaded_later reader files later None edges same loaded = loaded
loaded_later reader files later (Some name) edges same loaded = loaded_over reader (files name) (later name) edges (same name) loaded

refused_later : (reader : Reader) (files later : Files) (name : Option Bytes) (fault : MapFault) → ((other : Bytes) → later other ≡ files other)
    → IsRefusedFor reader later name fault → IsRefusedFor reader files name fault
refused_later reader files later None fault same refused = refused
refused_later reader files later (Some name) fault same refused =
    (refused.0, subst (λ k. IfSome k (IsFaultOf reader fault)) (same name) refused.1)

-- a file that was loaded is good
accepted_is : (reading : Reading) (edges : List Edge) → IsReadAs reading edges → IsAccepted reading
accepted_is reading edges read = subst IsAccepted (sym read.read_as) tt

known_good : (reader : Reader) (known : Option Bytes) (edges : List Edge) → IfSome known (λ bytes. (length bytes ≤ FILE_MAX) × IsReadAs (reader bytes) edges)
    → IfSome known (IsGoodFile reader)
known_good reader None edges loaded = tt
known_good reader (Some bytes) edges loaded = (loaded.0, accepted_is (reader bytes) edges loaded.1)

pub loaded_is_good : (reader : Reader) (files : Files) (name : Option Bytes) (edges : List Edge) → IsLoadedAs reader files name edges → IsGood reader files name
loaded_is_good reader files None edges loaded = tt
loaded_is_good reader files (Some name) edges loaded = known_good reader (files name) edges loaded

-- the map is refused
pub map_tells : (files : Files) (map local : Option Bytes) (status : Status) → TellsFile map_reading files map false status
    → TellsFiles files map local status × IsLoadFault status
map_tells files map local (MapRefused true fault) tells = absurd (let e = tells.0 in cc)
map_tells files map local (MapRefused false fault) tells = (tells.1, tt)
map_tells files map local ReadFault tells = (tt, tt)
map_tells files map local NoMemory tells = (tt, tt)
map_tells files map local Ok tells = absurd tells
map_tells files map local Usage tells = absurd tells
map_tells files map local WriteFault tells = absurd tells
map_tells files map local (CheckNo line readable) tells = absurd tells
map_tells files map local SessionFull tells = absurd tells
map_tells files map local Long tells = absurd tells
map_tells files map local BindFault tells = absurd tells
map_tells files map local (AcceptFault worker) tells = absurd tells

-- the map was loaded, and the local file is refused
pub local_tells : (files later : Files) (map local : Option Bytes) (edges : List Edge) (status : Status) → ((other : Bytes) → later other ≡ files other)
    → IsLoadedAs map_reading files map edges → TellsFile local_reading later local true status → TellsFiles files map local status × IsLoadFault status
local_tells files later map local edges (MapRefused false fault) same loaded tells = absurd (let e = tells.0 in cc)
local_tells files later map local edges (MapRefused true fault) same loaded tells =
    ((loaded_is_good map_reading files map edges loaded, refused_later local_reading files later local fault same tells.1), tt)
local_tells files later map local edges ReadFault same loaded tells = (tt, tt)
local_tells files later map local edges NoMemory same loaded tells = (tt, tt)
local_tells files later map local edges Ok same loaded tells = absurd tells
local_tells files later map local edges Usage same loaded tells = absurd tells
local_tells files later map local edges WriteFault same loaded tells = absurd tells
local_tells files later map local edges (CheckNo line readable) same loaded tells = absurd tells
local_tells files later map local edges SessionFull same loaded tells = absurd tells
local_tells files later map local edges Long same loaded tells = absurd tells
local_tells files later map local edges BindFault same loaded tells = absurd tells
local_tells files later map local edges (AcceptFault worker) same loaded tells = absurd tells

-- a count that rose in one of two steps
pub rose_early : (a b c : ℕ) → Rose a b → b ≤ c → Rose a c
rose_early a b c rose later = omega (arith, later, rose)

pub rose_late : (a b c : ℕ) → a ≤ b → Rose b c → Rose a c
rose_late a b c later rose = omega (arith, later, rose)
