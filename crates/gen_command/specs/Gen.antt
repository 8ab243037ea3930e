-- What a whole run of a workload means, by its end: the session that served it, and what was written.
use Rattle.std.specs.Prelude.{◌≡◌, ℕ, List, [], Option, Some}
use Rattle.std.specs.Io.KnownBytes.{Appends}
use Rattle.transfer.specs.Transfer.{AppendsPart}
use Rattle.channel_map.specs.declared.edge.Edge.{Edge}
use Rattle.channel_map.specs.Reading.{map_reading, IsReadAs}
use Rattle.one_history.specs.declared.entry.Entry.{Entry}
use Rattle.askrene_command.specs.declared.command.Command.{Command}
use Rattle.port_io.specs.declared.session_end.SessionEnd.TheVariants as Session
use Rattle.session.specs.Answers.{Answers}
use Rattle.session.specs.Caller.{only_caller}
use Rattle.session.specs.Session.{IsToldSession}
use Rattle.workload.specs.Map.{map_text_of}
use Rattle.workload.specs.Request.{lines_text_of}
use Rattle.workload.specs.Totals.{totals_of}
use Rattle.workload.specs.Summary.{summary_text}
use Rattle.gen_command.specs.declared.size.Size.{Size}
use Rattle.gen_command.specs.declared.end.GenEnd.{GenEnd}
use Rattle.gen_command.specs.declared.end.GenEnd.TheVariants.{Done, WriteFault, NoMemory}

-- the text of the map
abbrev pub map_of : Size → List ℕ
map_of size = map_text_of size.number size.nodes size.channels

-- the lines of the requests
abbrev pub requests_of : Size → List ℕ
requests_of size = lines_text_of size.number size.nodes size.channels size.asks

-- The replies that a session wrote: it served all requests of the workload over the workload's map, from the empty history on.
pub record IsServed (size : Size) (clock ticked : Option (List ℕ)) (replies : List ℕ) : Type 0 where
  pub channels : List Edge
  pub read : IsReadAs (map_reading (map_of size)) channels
  pub rest : Option (List ℕ)
  pub log : List (Entry Command)
  pub session : IsToldSession (Answers channels []) only_caller Session.Done (record {
    input = Some (requests_of size);
    rest = rest;
    output = Some [];
    written = Some replies;
    before = record { log = []; clock = clock };
    after = record { log = log; clock = ticked };
  })

-- the line with the totals of such replies, none of which is that there was no memory
pub record HasSummary (size : Size) (clock ticked : Option (List ℕ)) (line : List ℕ) : Type 0 where
  pub replies : List ℕ
  pub served : IsServed size clock ticked replies
  pub enough_memory : (totals_of replies).out_of_memory ≡ 0
  pub told : line ≡ summary_text size.asks (totals_of replies)

-- the summary was written whole
pub record WroteSummary (size : Size) (clock ticked before after : Option (List ℕ)) : Type 0 where
  pub line : List ℕ
  pub summary : HasSummary size clock ticked line
  pub written : Appends before after line

-- a part of the summary was written, and not all
pub record WroteSummaryPart (size : Size) (clock ticked before after : Option (List ℕ)) : Type 0 where
  pub line : List ℕ
  pub summary : HasSummary size clock ticked line
  pub part : AppendsPart before after line

-- what the end of a run says
abbrev pub IsGen : GenEnd → Size → Option (List ℕ) → Option (List ℕ) → Option (List ℕ) → Option (List ℕ) → Type 0
IsGen Done size clock ticked before after = WroteSummary size clock ticked before after
IsGen WriteFault size clock ticked before after = WroteSummaryPart size clock ticked before after
IsGen NoMemory size clock ticked before after = after ≡ before
