-- The exit status of each way in which the program ends.
use Rattle.std.specs.Prelude.{ℕ, List, [], ◌∷◌, Option, Some, None, ⊤}
use Rattle.std.specs.Option.{option_or}
use Rattle.port_io.specs.declared.session_end.SessionEnd.{SessionEnd}
use Rattle.port_io.specs.declared.session_end.SessionEnd.TheVariants as Session
use Rattle.check_command.specs.declared.end.CheckEnd.{CheckEnd}
use Rattle.check_command.specs.declared.end.CheckEnd.TheVariants as Check
use Rattle.gen_command.specs.declared.end.GenEnd.{GenEnd}
use Rattle.gen_command.specs.declared.end.GenEnd.TheVariants as Gen
use Rattle.server.specs.declared.worker.WorkFault.{WorkFault}
use Rattle.server.specs.declared.worker.WorkFault.TheVariants as Work
use Rattle.askrened.specs.declared.status.Status.{Status}
use Rattle.askrened.specs.declared.status.Status.TheVariants.{Ok, Usage, MapRefused, ReadFault, WriteFault, NoMemory, CheckNo, SessionFull, Long, BindFault, AcceptFault}

abbrev pub code_of : Status → ℕ
code_of Ok = 0
code_of Usage = 2
code_of (MapRefused local fault) = 3
code_of ReadFault = 4
code_of WriteFault = 5
code_of NoMemory = 6
code_of (CheckNo line readable) = 7
code_of SessionFull = 8
code_of Long = 9
code_of (AcceptFault worker) = 10
code_of BindFault = 13

-- the status of a session's end
abbrev pub session_status : SessionEnd → Status
session_status Session.Done = Ok
session_status Session.ReadFault = ReadFault
session_status Session.WriteFault = WriteFault
session_status Session.NoMemory = NoMemory
session_status Session.Full = SessionFull
session_status Session.Long = Long

-- the status of a check's end
abbrev pub check_status : CheckEnd → Status
check_status Check.Shown = Ok
check_status (Check.NotShown line readable) = CheckNo line readable
check_status Check.Long = Long
check_status Check.ReadFault = ReadFault
check_status Check.WriteFault = WriteFault
check_status Check.NoMemory = NoMemory

-- the status of a workload's end
abbrev pub gen_status : GenEnd → Status
gen_status Gen.Done = Ok
gen_status Gen.WriteFault = WriteFault
gen_status Gen.NoMemory = NoMemory

-- the worker whose acceptor failed, if the fault is one of an acceptor
abbrev pub accept_of : WorkFault → Option ℕ
accept_of (Work.Accept worker) = Some worker
accept_of (Work.NoMemory worker) = None

-- the worker of the first fault of an acceptor
abbrev pub first_accept : List WorkFault → Option ℕ
first_accept [] = None
first_accept (fault ∷ faults) = option_or (accept_of fault) (first_accept faults)

-- the status of workers with these faults, if the first fault of an acceptor is known
abbrev pub accept_status : Option ℕ → List WorkFault → Status
accept_status (Some worker) faults = AcceptFault worker
accept_status None [] = Ok
accept_status None (fault ∷ faults) = NoMemory

-- the status of served connections
abbrev pub served_status : List WorkFault → Status
served_status faults = accept_status (first_accept faults) faults

-- nothing outside the program kept a session, a workload or a service from its end
abbrev pub IsGoodEnd : Status → Type 0
IsGoodEnd Ok = ⊤
IsGoodEnd NoMemory = ⊤
IsGoodEnd Usage = ⊥
IsGoodEnd (MapRefused local fault) = ⊥
IsGoodEnd ReadFault = ⊥
IsGoodEnd WriteFault = ⊥
IsGoodEnd (CheckNo line readable) = ⊥
IsGoodEnd SessionFull = ⊥
IsGoodEnd Long = ⊥
IsGoodEnd BindFault = ⊥
IsGoodEnd (AcceptFault worker) = ⊥
