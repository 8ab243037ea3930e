-- The refusals of a desk.
use Rattle.one_history.specs.declared.journal.JournalRefusal.{JournalRefusal}
use Rattle.one_history.specs.declared.journal.JournalRefusal.TheVariants.{Full as FullJournal, NoMemory as NoMemoryForJournal}
use Rattle.turn_desk.specs.declared.refusal.DeskRefusal.{DeskRefusal}
use Rattle.turn_desk.specs.declared.refusal.DeskRefusal.TheVariants.{Full, NoMemory}

-- the refusal of an event for a refusal of the journal
abbrev pub refusal_of : JournalRefusal → DeskRefusal
refusal_of (FullJournal length) = Full length
refusal_of NoMemoryForJournal = NoMemory
