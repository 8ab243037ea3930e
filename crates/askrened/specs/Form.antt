-- The form of the command line: the program's commands with their options. What a list of words means is what `clap` finds
-- in it by this form.
use Rattle.std.specs.Prelude.{◌≢◌, ℕ, List, [], ◌∷◌, codes, bytes_eq, ◌^◌, ◌-◌, nat_le, ◌&&◌, Bool, option_map, option_and_then, Option, Some, None, true, false, if◌then◌else◌, ⊤}
use Rattle.std.specs.Str.Parse.{digits_value, without_leading_plus}
use Rattle.clap.specs.declared.builder.value_parser.ValueParser.TheVariants as vp
use Rattle.clap.specs.ValueTests.{accepts}
use Rattle.clap.specs.Walk.{Row, Rule, first_of}
use Rattle.clap.specs.Simple.{App, new_app, new_rule, on_top, with_rule, with_subcommand, subcommand_of}
use Rattle.clap.specs.Faults.{fault_of}
use Rattle.clap.specs.Kinds.{Kinds}
use Rattle.workload.specs.declared.limits.TheConstants.{NODES_MIN, NODES_MAX, CHANNELS_MAX, ASKS_MAX}
use Rattle.server.specs.declared.limits.TheConstants.{CONNECTIONS_MAX, WORKERS_MAX}
use Rattle.gen_command.specs.declared.size.Size.{Size}
use Rattle.gen_command.specs.Size.{size_of}

-- the bytes of a word, or of a file
abbrev pub Bytes : Type 0
Bytes = List ℕ

-- an option of this name with a file: `--name FILE` or `--name=FILE`
abbrev pub file_option : Bytes → Rule
file_option name = record (new_rule name) { long = Some name; value_names = 1 }

-- `ask [--map FILE] [--local FILE]`
abbrev pub ask_form : App
ask_form = with_rule (with_rule (new_app (codes "ask")) (file_option (codes "map"))) (file_option (codes "local"))

-- `check`
abbrev pub check_form : App
check_form = new_app (codes "check")

-- a whole number from `low` to `high`, by its place among the words
abbrev pub number_argument : Bytes → ℕ → ℕ → Rule
number_argument name low high = record (new_rule name) { required = true; parser = Some (vp.Unsigned low high) }

-- `gen NUMBER NODES CHANNELS ASKS`
abbrev pub gen_form : App
gen_form =
    with_rule (with_rule (with_rule (with_rule (new_app (codes "gen"))
    (number_argument (codes "NUMBER") 0 (2 ^ 64 - 1)))
    (number_argument (codes "NODES") NODES_MIN NODES_MAX))
    (number_argument (codes "CHANNELS") 0 CHANNELS_MAX))
    (number_argument (codes "ASKS") 0 ASKS_MAX)

-- an option of this name with a whole number from 1 to `high`
abbrev pub number_option : Bytes → ℕ → Rule
number_option name high = record (file_option name) { parser = Some (vp.Unsigned 1 high) }

abbrev pub required : Rule → Rule
required rule = record rule { required = true }

-- what `serve` must be told, and by how many workers it serves
abbrev pub service_form : App
service_form =
    with_rule (with_rule (with_rule (new_app (codes "serve"))
    (required (file_option (codes "socket"))))
    (required (number_option (codes "connections") CONNECTIONS_MAX)))
    (number_option (codes "workers") WORKERS_MAX)

-- `serve --socket PATH --connections N [--workers W] [--map FILE] [--local FILE]`
abbrev pub serve_form : App
serve_form = with_rule (with_rule service_form (file_option (codes "map"))) (file_option (codes "local"))

-- The words of the commands that read the input: `ask` or `check`, with its options in any order, each at most once. There is
-- no flag and no command for help, and no flag for the version.
abbrev pub input_form : App
input_form = with_subcommand (with_subcommand (on_top (λ shape. record shape {
  no_binary_name = true;
  disable_help_flag = true;
  disable_help_subcommand = true;
  subcommand_required = true;
}) (new_app (codes "askrened"))) ask_form.top) check_form.top

-- the words after the program's name: one of those commands, `gen`, or `serve`
abbrev pub form : App
form = with_subcommand (with_subcommand input_form gen_form.top) serve_form.top

-- the form refuses the words: there are kinds of error, and `clap` answers one of them, unless it is out of memory
abbrev pub AreRefused : List Bytes → Type 0
AreRefused words = fault_of form words ≢ []

-- what `serve` is asked for: the path of the socket, how many connections, and by how many workers if that is said
pub record Service : Type 0 where
  pub socket : Bytes
  pub connections : ℕ
  pub workers : Option ℕ

-- what the words of a command line ask for
pub data Invocation : Type 0 where
  -- to serve requests, with the names of the map and of the local file
  ask_with : Option Bytes → Option Bytes → Invocation
  -- to check a certificate
  check_alone : Invocation
  -- to serve a workload of this size
  gen_with : Size → Invocation
  -- to serve the connections of a socket, with the names of the map and of the local file
  serve_with : Service → Option Bytes → Option Bytes → Invocation

-- the number below 2 ^ 64 that the decimal digits of a text spell; a plus may come before them
unfoldable pub number_in : Bytes → Option ℕ
number_in text = if accepts false (vp.Unsigned 0 (2 ^ 64 - 1)) text then Some (digits_value 10 (without_leading_plus text)) else None

-- the number of an argument
abbrev pub number_at : Bytes → List Row → Option ℕ
number_at name rows = option_and_then number_in (first_of name rows)

-- the size that four numbers give
abbrev pub size_from : Option ℕ → Option ℕ → Option ℕ → Option ℕ → Option Size
size_from (Some number) (Some nodes) (Some channels) (Some asks) = size_of number nodes channels asks
size_from _ _ _ _ = None

-- the size that the arguments give
abbrev pub size_in : List Row → Option Size
size_in rows =
    size_from (number_at (codes "NUMBER") rows) (number_at (codes "NODES") rows)
    (number_at (codes "CHANNELS") rows) (number_at (codes "ASKS") rows)

-- the number of an option, which may be absent
abbrev pub number_if_said : Option Bytes → Option (Option ℕ)
number_if_said None = Some None
number_if_said (Some text) = option_map (λ number. Some number) (number_in text)

-- the number is from 1 to `high`, or absent
abbrev pub is_from_one : ℕ → Option ℕ → Bool
is_from_one high None = true
is_from_one high (Some number) = nat_le 1 number && nat_le number high

-- the service of a path and these numbers, if each is in its range
unfoldable pub service_of : Bytes → ℕ → Option ℕ → Option Service
service_of socket connections workers =
    if is_from_one CONNECTIONS_MAX (Some connections) && is_from_one WORKERS_MAX workers
    then Some (record { socket = socket; connections = connections; workers = workers }) else None

abbrev pub service_from : Option Bytes → Option ℕ → Option (Option ℕ) → Option Service
service_from (Some socket) (Some connections) (Some workers) = service_of socket connections workers
service_from _ _ _ = None

-- the service that the options give
abbrev pub service_in : List Row → Option Service
service_in rows = service_from (first_of (codes "socket") rows) (number_at (codes "connections") rows) (number_if_said (first_of (codes "workers") rows))

-- what a command with its options asks for
abbrev pub invocation_in : Option (Bytes × List Row) → Option Invocation
invocation_in None = None
invocation_in (Some found) =
    if bytes_eq found.0 (codes "ask") then Some (ask_with (first_of (codes "map") found.1) (first_of (codes "local") found.1))
    else if bytes_eq found.0 (codes "check") then Some check_alone
    else if bytes_eq found.0 (codes "gen") then option_map gen_with (size_in found.1)
    else if bytes_eq found.0 (codes "serve")
    then option_map (λ service. serve_with service (first_of (codes "map") found.1) (first_of (codes "local") found.1)) (service_in found.1)
    else None

-- what is found counts if there is no error
abbrev pub unless_refused : Kinds → Option Invocation → Option Invocation
unless_refused [] asked = asked
unless_refused (kind ∷ kinds) asked = None

-- what words ask for, if the form takes them
abbrev pub invocation_of : List Bytes → Option Invocation
invocation_of words = unless_refused (fault_of form words) (invocation_in (subcommand_of form words))

-- if the words ask for a session, this holds of its files
abbrev pub IfAsks : Option Invocation → (Option Bytes → Option Bytes → Type 0) → Type 0
IfAsks (Some (ask_with map local)) Holds = Holds map local
IfAsks _ Holds = ⊤

-- if the words ask for a check, this holds
abbrev pub IfChecks : Option Invocation → Type 0 → Type 0
IfChecks (Some check_alone) Holds = Holds
IfChecks _ Holds = ⊤

-- if the words ask for a workload, this holds of its size
abbrev pub IfGenerates : Option Invocation → (Size → Type 0) → Type 0
IfGenerates (Some (gen_with size)) Holds = Holds size
IfGenerates _ Holds = ⊤

-- if the words ask to serve connections, this holds of the service and of its files
abbrev pub IfServes : Option Invocation → (Service → Option Bytes → Option Bytes → Type 0) → Type 0
IfServes (Some (serve_with service map local)) Holds = Holds service map local
IfServes _ Holds = ⊤

-- the words ask to serve connections
abbrev pub AsksToServe : Option Invocation → Type 0
AsksToServe (Some (serve_with service map local)) = ⊤
AsksToServe _ = ⊥

-- the words ask for another command
abbrev pub AsksForOther : Option Invocation → Type 0
AsksForOther (Some (ask_with map local)) = ⊤
AsksForOther (Some check_alone) = ⊤
AsksForOther (Some (gen_with size)) = ⊤
AsksForOther _ = ⊥
