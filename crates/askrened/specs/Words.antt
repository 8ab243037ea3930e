-- What a task says that was read from words, and the spellings of a command line in which no word is refused.
use Rattle.std.specs.Prelude.{◌≢◌, ◌≤◌, ⊤, List, IfSome, [], ◌∷◌, ◌++◌, codes, decimal, ◌<◌, ◌^◌, option_map, Option, Some, None}
use Rattle.gen_command.specs.Size.{IsSize}
use Rattle.askrened.specs.declared.words.Task.{Task}
use Rattle.askrened.specs.declared.words.Task.TheVariants.{Ask, Check, Gen, Serve}
use Rattle.askrened.specs.declared.words.Service.{Service as Said}
use Rattle.server.specs.declared.limits.TheConstants.{CONNECTIONS_MAX, WORKERS_MAX}
use Rattle.askrened.specs.Form.{Invocation, Service, Bytes, ask_with, check_alone, gen_with, serve_with}

-- the service that was read from words
abbrev pub service_by : Said → Service
service_by said = record { socket = said.socket.now; connections = said.connections; workers = said.workers }

abbrev pub invocation_by : Task → Invocation
invocation_by (Ask map local) = ask_with (option_map (λ name. name.now) map) (option_map (λ name. name.now) local)
invocation_by Check = check_alone
invocation_by (Gen size) = gen_with size
invocation_by (Serve service map local) =
    serve_with (service_by service) (option_map (λ name. name.now) map) (option_map (λ name. name.now) local)

-- there are 1 to 65,000 connections, and 1 to 64 workers if that is said
pub record IsService (service : Service) : Type 0 where
  pub some_connections : 1 ≤ service.connections
  pub few_connections : service.connections ≤ CONNECTIONS_MAX
  pub some_workers : IfSome service.workers (λ workers. 1 ≤ workers)
  pub few_workers : IfSome service.workers (λ workers. workers ≤ WORKERS_MAX)

-- the numbers of a workload and of a service are in their ranges
abbrev pub IsGoodTask : Task → Type 0
IsGoodTask (Gen size) = IsSize size
IsGoodTask (Serve service map local) = IsService (service_by service)
IsGoodTask _ = ⊤

-- a file's name that isn't empty and doesn't begin with `-`
abbrev pub IsPlainName : Bytes → Type 0
IsPlainName [] = ⊥
IsPlainName (first ∷ rest) = first ≢ 45

abbrev pub IsPlainOption : Option Bytes → Type 0
IsPlainOption None = ⊤
IsPlainOption (Some name) = IsPlainName name

-- the names of all files are plain, and numbers are in their ranges
abbrev pub IsPlain : Invocation → Type 0
IsPlain (ask_with map local) = IsPlainOption map × IsPlainOption local
IsPlain check_alone = ⊤
IsPlain (gen_with size) = (size.number < 2 ^ 64) × IsSize size
IsPlain (serve_with service map local) = (IsPlainName service.socket × IsService service) × (IsPlainOption map × IsPlainOption local)

-- an option and its file, as two words
abbrev pub option_words : Bytes → Option Bytes → List Bytes
option_words flag None = []
option_words flag (Some name) = flag ∷ name ∷ []

-- the words that ask for this, with the options in the order of the help
abbrev pub spelling_of : Invocation → List Bytes
spelling_of (ask_with map local) = codes "ask" ∷ option_words (codes "--map") map ++ option_words (codes "--local") local
spelling_of check_alone = codes "check" ∷ []
spelling_of (gen_with size) =
    codes "gen" ∷ decimal size.number ∷ decimal size.nodes ∷ decimal size.channels ∷ decimal size.asks ∷ []
spelling_of (serve_with service map local) =
    codes "serve" ∷ codes "--socket" ∷ service.socket ∷ codes "--connections" ∷ decimal service.connections
    ∷ option_words (codes "--workers") (option_map decimal service.workers)
    ++ (option_words (codes "--map") map ++ option_words (codes "--local") local)
