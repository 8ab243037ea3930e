-- What a whole run of a command means, by its status.
use Rattle.std.specs.Prelude.{◌≡◌, ◌≤◌, ◌⊎◌, ℕ, List, [], length, Option, ⊤}
use Rattle.channel_map.specs.declared.edge.Edge.{Edge}
use Rattle.channel_map.specs.Reading.{map_reading, local_reading}
use Rattle.one_history.specs.declared.entry.Entry.{Entry}
use Rattle.askrene_command.specs.declared.command.Command.{Command}
use Rattle.port_io.specs.declared.session_end.SessionEnd.{SessionEnd}
use Rattle.port_io.specs.declared.session_end.SessionEnd.TheVariants as Session
use Rattle.check_command.specs.declared.end.CheckEnd.{CheckEnd}
use Rattle.check_command.specs.declared.end.CheckEnd.TheVariants as Checks
use Rattle.check_command.specs.declared.command.TheConstants.{TEXT_MAX}
use Rattle.check_command.specs.Check.{IsCheck}
use Rattle.gen_command.specs.declared.end.GenEnd.{GenEnd}
use Rattle.gen_command.specs.declared.end.GenEnd.TheVariants as Gen
use Rattle.gen_command.specs.declared.size.Size.{Size}
use Rattle.gen_command.specs.Gen.{IsGen}
use Rattle.session.specs.Answers.{Answers}
use Rattle.session.specs.Caller.{only_caller}
use Rattle.session.specs.Session.{IsToldSession}
use Rattle.askrened.specs.Form.{Bytes}
use Rattle.askrened.specs.Load.{Files, IsLoadedAs}
use Rattle.askrened.specs.declared.status.Status.{Status}
use Rattle.askrened.specs.declared.status.Status.TheVariants.{Ok, Usage, MapRefused, ReadFault, WriteFault, NoMemory, CheckNo, SessionFull, Long, BindFault, AcceptFault}

-- the streams and the clock before a run and after it, as far as they are known
pub record RunSpan : Type 0 where
  pub input : Option (List ℕ)
  pub rest : Option (List ℕ)
  pub output : Option (List ℕ)
  pub written : Option (List ℕ)
  pub clock : Option (List ℕ)
  pub ticked : Option (List ℕ)

-- nothing was read, written or asked of the clock
abbrev pub IsUntouched : RunSpan → Type 0
IsUntouched span = (span.rest ≡ span.input) × (span.written ≡ span.output) × (span.ticked ≡ span.clock)

-- a session of the only caller from the empty history on, with routes over the channels of a map and of a local file
pub record IsServing (channels locals : List Edge) (end : SessionEnd) (span : RunSpan) : Type 0 where
  pub log : List (Entry Command)
  pub session : IsToldSession (Answers channels locals) only_caller end (record {
    input = span.input;
    rest = span.rest;
    output = span.output;
    written = span.written;
    before = record { log = []; clock = span.clock };
    after = record { log = log; clock = span.ticked };
  })

-- what a status of a session says
abbrev pub IsServed : List Edge → List Edge → Status → RunSpan → Type 0
IsServed channels locals Ok span = IsServing channels locals Session.Done span
IsServed channels locals ReadFault span = IsServing channels locals Session.ReadFault span
IsServed channels locals WriteFault span = IsServing channels locals Session.WriteFault span
IsServed channels locals NoMemory span = IsServing channels locals Session.NoMemory span
IsServed channels locals SessionFull span = IsServing channels locals Session.Full span
IsServed channels locals Long span = IsServing channels locals Session.Long span
IsServed channels locals Usage span = ⊥
IsServed channels locals (MapRefused local fault) span = ⊥
IsServed channels locals (CheckNo line readable) span = ⊥
IsServed channels locals BindFault span = ⊥
IsServed channels locals (AcceptFault worker) span = ⊥

-- the map and the local file were loaded, and the lines were served over them
pub record IsAsking (files : Files) (map local : Option Bytes) (status : Status) (span : RunSpan) : Type 0 where
  pub channels : List Edge
  pub locals : List Edge
  pub map_loaded : IsLoadedAs map_reading files map channels
  pub local_loaded : IsLoadedAs local_reading files local locals
  pub served : IsServed channels locals status span

-- what a status of `ask` says: a file may not be read, and memory may be short before a session
abbrev pub IsAsk : Files → Option Bytes → Option Bytes → Status → RunSpan → Type 0
IsAsk files map local (MapRefused is_local fault) span = IsUntouched span
IsAsk files map local ReadFault span = IsUntouched span ⊎ IsAsking files map local ReadFault span
IsAsk files map local NoMemory span = IsUntouched span ⊎ IsAsking files map local NoMemory span
IsAsk files map local status span = IsAsking files map local status span

abbrev pub IsCheckOf : CheckEnd → RunSpan → Type 0
IsCheckOf end span = IsCheck end span.input span.rest span.output span.written

-- what a status of `check` says
abbrev pub IsChecking : Status → RunSpan → Type 0
IsChecking Ok span = IsCheckOf Checks.Shown span
IsChecking (CheckNo line readable) span = IsCheckOf (Checks.NotShown line readable) span
IsChecking Long span = IsCheckOf Checks.Long span
IsChecking ReadFault span = IsCheckOf Checks.ReadFault span
IsChecking WriteFault span = IsCheckOf Checks.WriteFault span
IsChecking NoMemory span = IsCheckOf Checks.NoMemory span
IsChecking Usage span = ⊥
IsChecking (MapRefused local fault) span = ⊥
IsChecking SessionFull span = ⊥
IsChecking BindFault span = ⊥
IsChecking (AcceptFault worker) span = ⊥

-- nothing outside the program kept a check from its verdict
abbrev pub CheckEndsWell : Status → Type 0
CheckEndsWell Ok = ⊤
CheckEndsWell (CheckNo line readable) = ⊤
CheckEndsWell NoMemory = ⊤
CheckEndsWell Usage = ⊥
CheckEndsWell (MapRefused local fault) = ⊥
CheckEndsWell ReadFault = ⊥
CheckEndsWell WriteFault = ⊥
CheckEndsWell SessionFull = ⊥
CheckEndsWell Long = ⊥
CheckEndsWell BindFault = ⊥
CheckEndsWell (AcceptFault worker) = ⊥

-- an input that a check reads whole
abbrev pub IsCheckable : List ℕ → Type 0
IsCheckable input = length input ≤ TEXT_MAX

abbrev pub IsGenOf : GenEnd → Size → RunSpan → Type 0
IsGenOf end size span = IsGen end size span.clock span.ticked span.output span.written

-- what a status of `gen` says; it has no other status
abbrev pub IsGenerating : Status → RunSpan → Size → Type 0
IsGenerating Ok span size = IsGenOf Gen.Done size span
IsGenerating WriteFault span size = IsGenOf Gen.WriteFault size span
IsGenerating NoMemory span size = IsGenOf Gen.NoMemory size span
IsGenerating Usage span size = ⊥
IsGenerating (MapRefused local fault) span size = ⊥
IsGenerating ReadFault span size = ⊥
IsGenerating (CheckNo line readable) span size = ⊥
IsGenerating SessionFull span size = ⊥
IsGenerating Long span size = ⊥
IsGenerating BindFault span size = ⊥
IsGenerating (AcceptFault worker) span size = ⊥
