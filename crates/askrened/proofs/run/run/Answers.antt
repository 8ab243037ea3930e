use Rattle.std.proofs.Common.{rules, ◌≡◌, Some, map, option_map, string_bytes}
use Rattle.askrened.specs.Form.{invocation_of, ask_with}
use Rattle.askrened.proofs.Asking.{if_asks, if_asks_all}
use Rattle.askrened.proofs.Ends.{no_memory_is_ask}
use Rattle.askrened.proofs.run.run.Goals as goal

pub returns-in-Err-NoMemory-clause-session : goal.returns-in-Err-NoMemory-clause-session
returns-in-Err-NoMemory-clause-session g c =
    if_asks_all (invocation_of (map string_bytes c.args.words.now)) _ (λ map_name local_name.
    no_memory_is_ask (g.P.Places.file c.args.places.now) map_name local_name (g.I.Source.left c.args.input.now) (g.O.Sink.written c.args.output.now) (g.C.Clock.moments c.args.clock.now))

pub returns-in-Ok-Ask-clause-complete : goal.returns-in-Ok-Ask-clause-complete
returns-in-Ok-Ask-clause-complete g c =
    let map_name = option_map (λ name. name.now) c.in-Ok-Ask.map in
    let local_name = option_map (λ name. name.now) c.in-Ok-Ask.local in
    let asked : invocation_of (map string_bytes c.args.words.now) ≡ Some (ask_with map_name local_name) = search rules in
    if_asks (invocation_of (map string_bytes c.args.words.now)) map_name local_name _ asked c.ask.ensures.complete
