-- What each fault of `command_of` says of the request. `NoMemory` may come for any request.
use Rattle.std.specs.Prelude.{◌≡◌, ℕ, List, Option, Some, None, Result, Err}
use Rattle.askrene_command.specs.declared.command.Command.{Command}
use Rattle.params.specs.declared.command.CommandFault.{CommandFault}
use Rattle.params.specs.declared.command.CommandFault.TheVariants.{Method, Param, NoMemory}

abbrev pub IsCommandFault : CommandFault → Option (Result Command (List ℕ)) → Type 0
IsCommandFault Method reading = reading ≡ None
IsCommandFault (Param name) reading = reading ≡ Some (Err name)
IsCommandFault NoMemory reading = Unit {0}
