-- Serves private clauses only: the statuses of a service whose files were loaded.
use Rattle.std.specs.Prelude.{⊤}
use Rattle.askrened.specs.declared.status.Status.{Status}
use Rattle.askrened.specs.declared.status.Status.TheVariants.{Ok, Usage, MapRefused, ReadFault, WriteFault, NoMemory, CheckNo, SessionFull, Long, BindFault, AcceptFault}

-- it says nothing against words or files
abbrev pub LoadsNothing : Status → Type 0
LoadsNothing Ok = ⊤
LoadsNothing NoMemory = ⊤
LoadsNothing BindFault = ⊤
LoadsNothing (AcceptFault worker) = ⊤
LoadsNothing Usage = ⊥
LoadsNothing (MapRefused local fault) = ⊥
LoadsNothing ReadFault = ⊥
LoadsNothing WriteFault = ⊥
LoadsNothing (CheckNo line readable) = ⊥
LoadsNothing SessionFull = ⊥
LoadsNothing Long = ⊥
