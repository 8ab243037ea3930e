-- When a journal refuses an entry, and when a machine refuses an event.
use Rattle.std.specs.Prelude.{◌≡◌, ℕ, length, Some, None}
use Rattle.one_history.specs.declared.journal.JournalRefusal.{JournalRefusal}
use Rattle.one_history.specs.declared.journal.JournalRefusal.TheVariants.{Full, NoMemory}
use Rattle.one_history.specs.declared.journal.TheConstants.{JOURNAL_MAX}
use Rattle.one_history.specs.declared.machine.MachineRefusal.{MachineRefusal}
use Rattle.one_history.specs.declared.machine.MachineRefusal.TheVariants.{Unanswered, Full as FullMachine, NoMemory as NoMemoryForEvent}
use Rattle.one_history.specs.Core.{Core, place_of}

-- a journal with this number of entries refuses one more
abbrev pub Refuses : ℕ → JournalRefusal → Type 0
Refuses entries (Full length) = (length ≡ entries) × (entries ≡ JOURNAL_MAX)
Refuses entries NoMemory = Unit {0}

-- the refusal of an event for a refusal of the journal
abbrev pub event_refusal : JournalRefusal → MachineRefusal
event_refusal (Full length) = FullMachine length
event_refusal NoMemory = NoMemoryForEvent

-- a machine in this state refuses an event of this caller
abbrev pub RefusesEvent : {M : Type 0} → ℕ → Core M → MachineRefusal → Type 0
RefusesEvent caller core (Unanswered at) = place_of caller core ≡ Some at
RefusesEvent caller core (FullMachine entries) =
    (place_of caller core ≡ None) × (entries ≡ length core.history) × (length core.history ≡ JOURNAL_MAX)
RefusesEvent caller core NoMemoryForEvent = Unit {0}
