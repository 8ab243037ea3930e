-- What serving connections over one desk leaves: the ends of sessions, the entries of their callers, and the faults of workers.
use Rattle.std.specs.Prelude.{◌≡◌, ℕ, ◌-◌, ◌^◌, ◌<◌, List, length, All, Option, slice_index_or, ⊤}
use Rattle.std.specs.List.{sum_by}
use mathlib.Core.List.{IsPrefix}
use Rattle.port_io.specs.Faults.{Rose}
use Rattle.channel_map.specs.declared.edge.Edge.{Edge}
use Rattle.one_history.specs.declared.entry.Entry.{Entry}
use Rattle.one_history.specs.History.{entries_by}
use Rattle.askrene_command.specs.declared.command.Command.{Command}
use Rattle.turn_desk.specs.Numbers.{IsAmong}
use Rattle.session.specs.Answers.{Answers}
use Rattle.session.specs.Caller.{one_of_many}
use Rattle.session.specs.Ended.{EndedSession}
use Rattle.session.specs.Session.{IsToldSession}
use Rattle.server.specs.declared.worker.Session.{Session}
use Rattle.server.specs.declared.worker.Worker.{Worker}
use Rattle.server.specs.declared.worker.WorkFault.{WorkFault}
use Rattle.server.specs.declared.worker.WorkFault.TheVariants.{Accept, NoMemory}
use Rattle.server.specs.Work.{callers_of}

module _ {L C : Type 0} (left written : L → Option (List ℕ)) (moments : C → Option (List ℕ)) (channels locals : List Edge) where
  -- A connection and a clock before a session of the caller and after it, and what of this history the caller had seen then.
  -- Each line was answered as the session's relation says, with routes over these channels, and the end tells how many
  -- entries the caller has there now that it had not before.
  pub record HasAnswered (history : List (Entry Command)) (caller : ℕ) (ended : EndedSession) : Type 0 where
    pub link : L
    pub link_after : L
    pub clock : C
    pub clock_after : C
    pub seen : List (Entry Command)
    pub seen_after : List (Entry Command)
    pub in_history : IsPrefix seen_after history
    pub calls : ended.calls ≡ length (entries_by caller seen_after) - length (entries_by caller seen)
    pub session : IsToldSession (Answers channels locals) (one_of_many caller) ended.end (record {
      input = left link;
      rest = left link_after;
      output = written link;
      written = written link_after;
      before = record { log = seen; clock = moments clock };
      after = record { log = seen_after; clock = moments clock_after };
    })

  abbrev pub AllHaveAnswered : List (Entry Command) → List (Session EndedSession) → Type 0
  AllHaveAnswered history = All (λ s. HasAnswered history s.caller s.end)

  -- the end is one of a session of this caller, which has committed so many entries and has then seen this
  pub record IsEndOf (ended : EndedSession) (caller calls : ℕ) (seen : List (Entry Command)) : Type 0 where
    pub caller_is : ended.caller ≡ caller
    pub calls_are : ended.calls ≡ calls
    pub answered : HasAnswered seen caller ended

-- the end of a session is one of its caller
abbrev pub HasOwnEnd : Session EndedSession → Type 0
HasOwnEnd session = session.end.caller ≡ session.caller

-- the history has as many entries of the session's caller as its end tells
abbrev pub HasToldEntries : List (Entry Command) → Session EndedSession → Type 0
HasToldEntries history session = session.end.calls ≡ length (entries_by session.caller history)

-- the caller of the entry is the caller of one of these sessions
abbrev pub HasSession : List (Session EndedSession) → Entry Command → Type 0
HasSession sessions entry = IsAmong entry.caller (callers_of sessions)

-- the fault is out of memory, which has no cause outside the program
abbrev pub IsOutOfMemory : WorkFault → Type 0
IsOutOfMemory (Accept worker) = ⊥
IsOutOfMemory (NoMemory worker) = ⊤

module _ {A C : Type 0} (count : A → ℕ) where
  -- no count of an acceptor rose
  abbrev pub NoneRose : List (Worker A C) → List (Worker A C) → Type 0
  NoneRose before after = (k : ℕ) (d : Worker A C) → k < length before → Rose (count (slice_index_or before k d).acceptor) (count (slice_index_or after k d).acceptor) → ⊥

  -- if the fault is one of an acceptor, the sum of all counts rose, unless a count is at its last value
  abbrev pub HasRisenSum : List (Worker A C) → List (Worker A C) → WorkFault → Type 0
  HasRisenSum before after (Accept worker) = All (λ w. count w.acceptor < 2 ^ 64 - 1) after → sum_by (λ w. count w.acceptor) before < sum_by (λ w. count w.acceptor) after
  HasRisenSum before after (NoMemory worker) = ⊤
