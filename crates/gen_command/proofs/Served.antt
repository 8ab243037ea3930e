-- A session over the requests of a workload.
use Rattle.std.proofs.Common.{◌≡◌, ℕ, List, [], Option, Some}
use Rattle.channel_map.specs.declared.edge.Edge.{Edge}
use Rattle.channel_map.specs.Reading.{map_reading, IsReadAs}
use Rattle.one_history.specs.declared.entry.Entry.{Entry}
use Rattle.askrene_command.specs.declared.command.Command.{Command}
use Rattle.port_io.specs.declared.session_end.SessionEnd.{SessionEnd}
use Rattle.port_io.specs.declared.session_end.SessionEnd.TheVariants as Session
use Rattle.session.specs.Answers.{Answers}
use Rattle.session.specs.Caller.{only_caller}
use Rattle.session.specs.Session.{IsToldSession}
use Rattle.gen_command.specs.declared.size.Size.{Size}
use Rattle.gen_command.specs.Gen.{IsServed, map_of, requests_of}

pub is_served : (size : Size) (channels locals : List Edge) (end : SessionEnd) (input rest clock ticked : Option (List ℕ)) (before log : List (Entry Command)) (kept replies : List ℕ)
    → IsToldSession (Answers channels locals) only_caller end (record {
      input = input;
      rest = rest;
      output = Some kept;
      written = Some replies;
      before = record { log = before; clock = clock };
      after = record { log = log; clock = ticked };
    })
    → IsReadAs (map_reading (map_of size)) channels → locals ≡ [] → end ≡ Session.Done → input ≡ Some (requests_of size) → before ≡ [] → kept ≡ []
    → IsServed size clock ticked replies
is_served size channels locals end input rest clock ticked before log kept replies session read no_locals done asked empty none = record {
  channels = channels;
  read = read;
  rest = rest;
  log = log;
  session = rw (no_locals, done, asked, empty, none) at session;
}
