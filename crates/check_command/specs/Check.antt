-- What a whole check means, by its end: what it took of the input, and what it wrote.
use Rattle.std.specs.Prelude.{◌≡◌, ◌≤◌, ◌+◌, ℕ, List, length}
use Rattle.std.specs.declared.option.Option.{Option}
use Rattle.std.specs.Io.KnownBytes.{Appends, Consumes, IsAtEnd}
use Rattle.port_io.specs.declared.limited_read.TheConstants.{PIECE}
use Rattle.transfer.specs.Transfer.{AppendsPart, TakesMore, TakesAtMost}
use Rattle.check_command.specs.declared.command.TheConstants.{TEXT_MAX}
use Rattle.check_command.specs.declared.end.CheckEnd.{CheckEnd}
use Rattle.check_command.specs.declared.end.CheckEnd.TheVariants.{Shown, NotShown, Long, ReadFault, WriteFault, NoMemory}
use Rattle.check_command.specs.declared.finding.Finding.{Finding}
use Rattle.check_command.specs.Finding.{IsFindingOf, finding_line, end_of}

-- the line of a finding was written whole, and the check ended as the finding says
pub record WroteFinding (text : List ℕ) (end : CheckEnd) (before now : Option (List ℕ)) : Type 0 where
  pub finding : Finding
  pub found : IsFindingOf text finding
  pub ended : end_of finding ≡ end
  pub written : Appends before now (finding_line finding)

-- a part of the line of a finding was written, and not all
pub record WroteFindingPart (text : List ℕ) (before now : Option (List ℕ)) : Type 0 where
  pub finding : Finding
  pub found : IsFindingOf text finding
  pub part : AppendsPart before now (finding_line finding)

-- what was written of a text that was read, by the end of the check
abbrev pub HasFinding : List ℕ → CheckEnd → Option (List ℕ) → Option (List ℕ) → Type 0
HasFinding text Shown before now = WroteFinding text Shown before now
HasFinding text (NotShown line readable) before now = WroteFinding text (NotShown line readable) before now
HasFinding text WriteFault before now = WroteFindingPart text before now
HasFinding text NoMemory before now = now ≡ before
HasFinding text Long before now = ⊥
HasFinding text ReadFault before now = ⊥

-- the input was read to its end, and isn't too long
pub record IsWhole (input rest : Option (List ℕ)) (text : List ℕ) : Type 0 where
  pub read : Consumes input rest text
  pub end : IsAtEnd rest
  pub few : length text ≤ TEXT_MAX

-- the whole input is the text of the finding
pub record HasWholeFinding (end : CheckEnd) (input rest before now : Option (List ℕ)) : Type 0 where
  pub text : List ℕ
  pub whole : IsWhole input rest text
  pub finding : HasFinding text end before now

-- Long: more than TEXT_MAX bytes were read, and at most one piece more. ReadFault: at most TEXT_MAX bytes were read
abbrev pub IsCheck : CheckEnd → Option (List ℕ) → Option (List ℕ) → Option (List ℕ) → Option (List ℕ) → Type 0
IsCheck Shown input rest before now = HasWholeFinding Shown input rest before now
IsCheck (NotShown line readable) input rest before now = HasWholeFinding (NotShown line readable) input rest before now
IsCheck WriteFault input rest before now = HasWholeFinding WriteFault input rest before now
IsCheck NoMemory input rest before now = now ≡ before
IsCheck ReadFault input rest before now = TakesAtMost TEXT_MAX input rest × (now ≡ before)
IsCheck Long input rest before now = TakesMore TEXT_MAX input rest × TakesAtMost (TEXT_MAX + PIECE) input rest × (now ≡ before)
