-- The outcomes of the steps of reading; it serves private clauses only. `NoMemory` may come at any step.
use Rattle.std.specs.Prelude.{◌≡◌, ℕ, List, codes, Option, Some, None, Result, Ok, Err}
use Rattle.askrene_command.specs.declared.command.Command.{Command}
use Rattle.askrene_command.specs.Command.{IsGoodCommand}
use Rattle.params.specs.declared.fault.Fault.{Fault}
use Rattle.params.specs.declared.fault.Fault.TheVariants.{Param, NoMemory}
use Rattle.params.specs.declared.command.CommandFault.{CommandFault}
use Rattle.params.specs.declared.command.CommandFault.TheVariants as command

-- the fault of a parameter without a good value
abbrev pub IsBad : {T : Type 0} → Fault → List ℕ → Option T → Type 0
IsBad (Param other) name good = (other.now ≡ name) × (good ≡ None)
IsBad NoMemory name good = Unit {0}

-- the fault of an array with too many items
abbrev pub IsTooLong : Fault → Type 0
IsTooLong (Param name) = name.now ≡ codes "params"
IsTooLong NoMemory = ⊥

-- the fault of a name that is not in the table
abbrev pub IsUnknown : Fault → Option (List ℕ) → Type 0
IsUnknown (Param name) unknown = unknown ≡ Some name.now
IsUnknown NoMemory unknown = ⊥

-- the fault of the parameters of a method
abbrev pub IsFaultIn : {T : Type 0} → Fault → Result T (List ℕ) → Type 0
IsFaultIn (Param name) reading = reading ≡ Err name.now
IsFaultIn NoMemory reading = Unit {0}

-- the outcome for a method and its parameters, if the method exists
abbrev pub IsReading : Option (Result Command Fault) → Option (Result Command (List ℕ)) → Type 0
IsReading None reading = reading ≡ None
IsReading (Some (Ok command)) reading = (reading ≡ Some (Ok command)) × IsGoodCommand command
IsReading (Some (Err (Param name))) reading = reading ≡ Some (Err name.now)
IsReading (Some (Err NoMemory)) reading = Unit {0}

-- a refusal with a copy of its name
abbrev pub IsSameFault : Fault → CommandFault → Type 0
IsSameFault (Param name) command.Method = ⊥
IsSameFault (Param name) (command.Param copy) = copy ≡ name.now
IsSameFault (Param name) command.NoMemory = Unit {0}
IsSameFault NoMemory fault = fault ≡ command.NoMemory
