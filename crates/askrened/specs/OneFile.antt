-- Serves private clauses only: what the loading of one file says.
use Rattle.std.specs.Prelude.{◌≡◌, ◌≤◌, ⊤, length, Bool, Option, IfSome}
use Rattle.channel_map.specs.declared.fault.MapFault.{MapFault}
use Rattle.channel_map.specs.declared.fault.MapFault.TheVariants as Fault
use Rattle.askrened.specs.declared.load.TheConstants.{FILE_MAX}
use Rattle.askrened.specs.declared.status.Status.{Status}
use Rattle.askrened.specs.declared.status.Status.TheVariants.{MapRefused, ReadFault, NoMemory}
use Rattle.askrened.specs.Form.{Bytes}
use Rattle.askrened.specs.Load.{Files, Reader, IsRefusedFor}

-- what a status says of one file, which is the local file or not
abbrev pub TellsFile : Reader → Files → Option Bytes → Bool → Status → Type 0
TellsFile reader files name is_local (MapRefused local fault) = (local ≡ is_local) × IsRefusedFor reader files name fault
TellsFile reader files name is_local ReadFault = ⊤
TellsFile reader files name is_local NoMemory = ⊤
TellsFile reader files name is_local _ = ⊥

-- a text is that of a file, if the file's bytes are known, and not too long
abbrev pub IsTextOf : Option Bytes → Bytes → Type 0
IsTextOf known text = (length text ≤ FILE_MAX) × IfSome known (λ bytes. text ≡ bytes)

-- the status for a file whose reading refuses it
abbrev pub refusal_status : Bool → MapFault → Status
refusal_status local Fault.NoMemory = NoMemory
refusal_status local fault = MapRefused local fault
