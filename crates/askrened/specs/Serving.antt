-- What serving the connections of a socket leaves.
use Rattle.std.specs.Prelude.{◌≡◌, ◌+◌, ◌<◌, ◌≤◌, ⊤, ℕ, List, Option, Some, None, length, All}
use Rattle.std.specs.List.Sorted.{IsStrictlyIncreasing}
use Rattle.port_io.specs.Faults.{Rose}
use Rattle.channel_map.specs.Reading.{local_reading, map_reading}
use Rattle.channel_map.specs.declared.edge.Edge.{Edge}
use Rattle.one_history.specs.declared.entry.Entry.{Entry}
use Rattle.askrene_command.specs.declared.command.Command.{Command}
use Rattle.turn_desk.specs.Numbers.{AreDistinct}
use Rattle.session.specs.Ended.{EndedSession}
use Rattle.server.specs.declared.worker.Session.{Session}
use Rattle.server.specs.Work.{HasAccepted, HasRisenCount, NoneFell, callers_of, fault_workers, session_numbers, worker_of}
use Rattle.server.specs.declared.worker.Worker.{Worker}
use Rattle.serve_command.specs.Served.{AllHaveAnswered, HasOwnEnd, HasRisenSum, HasSession, HasToldEntries}
use Rattle.serve_command.specs.declared.served.Served.{Served}
use Rattle.askrened.specs.declared.serve.TheConstants.{WORKERS}
use Rattle.askrened.specs.declared.status.Status.{Status}
use Rattle.askrened.specs.declared.status.Status.TheVariants.{Ok, Usage, MapRefused, ReadFault, WriteFault, NoMemory, CheckNo, SessionFull, Long, BindFault, AcceptFault}
use Rattle.askrened.specs.Form.{Bytes, Service}
use Rattle.askrened.specs.Load.{Files, IsLoadedAs}

-- how many workers serve
abbrev pub workers_or : ℕ → Option ℕ → ℕ
workers_or usual None = usual
workers_or usual (Some workers) = workers

abbrev pub workers_of : Service → ℕ
workers_of service = workers_or WORKERS service.workers

-- no acceptor has failed
abbrev pub NoneFailed : {A C : Type 0} → (A → ℕ) → List (Worker A C) → Type 0
NoneFailed faults workers = All (λ w. Rose 0 (faults w.acceptor) → ⊥) workers

module _ {A C : Type 0} (faults accepted : A → ℕ) where
  -- what is left of a service: the workers that a bind gave have served its connections
  pub record HasServed (service : Service) (served : Served A C) : Type 0 where
    -- the workers as they were given, as many as the service has, none of which had failed
    pub given : List (Worker A C)
    pub count : length given ≡ workers_of service
    pub fresh : All (λ w. faults w.acceptor ≡ 0) given
    -- they are handed back at their places, and no count of theirs fell
    pub same_count : length served.workers.items ≡ length given
    pub counts : NoneFell faults given served.workers.items
    pub accepted_all : HasAccepted accepted given served.workers.items (length served.sessions.items)
    -- each session has an end of its caller, which tells how many entries the history has of it, and no others are there
    pub ends : All HasOwnEnd served.sessions.items
    pub calls : All (HasToldEntries served.journal) served.sessions.items
    pub entries : All (HasSession served.sessions.items) served.journal
    -- sessions ascend by the numbers of their connections, and each has a caller of its own
    pub ascending : IsStrictlyIncreasing (session_numbers served.sessions.items)
    pub numbers : All (λ s. s.number < service.connections) served.sessions.items
    pub callers : AreDistinct (callers_of served.sessions.items)
    -- while a worker goes on, at most one connection is missing for each fault
    pub missing : length served.faults.items < length given
        → service.connections ≤ length served.sessions.items + length served.faults.items
    -- faults ascend by worker, and that of an acceptor has its cause
    pub fault_order : IsStrictlyIncreasing (fault_workers served.faults.items)
    pub fault_workers : All (λ f. worker_of f < length given) served.faults.items
    pub accept_cause : All (HasRisenCount faults given served.workers.items) served.faults.items
    pub accept_sum : All (HasRisenSum faults given served.workers.items) served.faults.items

module _ {L C : Type 0} (left written : L → Option (List ℕ)) (moments : C → Option (List ℕ)) where
  -- the map and the local file were loaded, and each session has answered with routes over them, at the positions of this
  -- history
  pub record HaveAnsweredOver (files : Files) (map local : Option Bytes) (history : List (Entry Command)) (sessions : List (Session EndedSession)) : Type 0 where
    pub channels : List Edge
    pub locals : List Edge
    pub map_loaded : IsLoadedAs map_reading files map channels
    pub local_loaded : IsLoadedAs local_reading files local locals
    pub answered : AllHaveAnswered left written moments channels locals history sessions

-- the statuses of a service that did not begin
abbrev pub IsUnserved : Status → Type 0
IsUnserved Usage = ⊤
IsUnserved (MapRefused local fault) = ⊤
IsUnserved ReadFault = ⊤
IsUnserved NoMemory = ⊤
IsUnserved BindFault = ⊤
IsUnserved Ok = ⊥
IsUnserved WriteFault = ⊥
IsUnserved (CheckNo line readable) = ⊥
IsUnserved SessionFull = ⊥
IsUnserved Long = ⊥
IsUnserved (AcceptFault worker) = ⊥
