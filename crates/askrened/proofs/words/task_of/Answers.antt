use Rattle.std.proofs.Common.{◌≡◌, rules, Some, ap, ap₂, ◌∙◌, sym, codes, option_map}
use Rattle.clap.specs.declared.parser.matches.ArgMatches.TheViews.{out-ArgMatches}
use Rattle.clap.specs.Matches.{found_of}
use Rattle.clap.specs.Walk.{first_of, rows_of}
use Rattle.clap.proofs.WalkLemmas.{first_value-rows}
use Rattle.askrened.specs.Form.{Invocation, Service, invocation_in, ask_with, serve_with, service_in}
use Rattle.askrened.specs.Words.{service_by}
use Rattle.askrened.proofs.Asking.{met_command}
use Rattle.askrened.proofs.words.task_of.Goals as goal

pub returns-in-ask-default-clause-task : goal.returns-in-ask-default-clause-task
returns-in-ask-default-clause-task c =
    let found = found_of c.in_ok-options.field-0.1.now in
    let met = met_command (out-ArgMatches c.args.matches.now).subcommand (codes "ask") (rows_of found) (search rules) (search rules) in
    sym (ap invocation_in met ∙ ap (λ (a : Invocation). Some a) (ap₂ ask_with
    (sym (first_value-rows found (codes "map")) ∙ sym c.get_str.ensures)
    (sym (first_value-rows found (codes "local")) ∙ sym c.get_str-in-ask-default.ensures)))

pub returns-in_ok-service_of-in-serve-default-clause-task : goal.returns-in_ok-service_of-in-serve-default-clause-task
returns-in_ok-service_of-in-serve-default-clause-task c =
    let found = found_of c.in_ok-options.field-0.1.now in
    let service = service_by c.in_ok-service_of-in-serve-default.field-0 in
    let met = met_command (out-ArgMatches c.args.matches.now).subcommand (codes "serve") (rows_of found) (search rules) (search rules) in
    let served : Some service ≡ service_in (rows_of found) = c.in_ok-service_of-in-serve-default.ensures.service in
    sym (ap invocation_in met
    ∙ ap (option_map (λ (s : Service). serve_with s (first_of (codes "map") (rows_of found)) (first_of (codes "local") (rows_of found)))) (sym served)
    ∙ ap (λ (a : Invocation). Some a) (ap₂ (serve_with service)
    (sym (first_value-rows found (codes "map")) ∙ sym c.get_str-in-serve-default.ensures)
    (sym (first_value-rows found (codes "local")) ∙ sym c.get_str-in-serve-default-2.ensures)))
