-- The words of `serve` as the help spells them are taken, and ask for the service that they spell.
use Rattle.std.proofs.Common.{rules as common_rules, ◌≡◌, ◌==◌, ◌<◌, ◌≤◌, ◌^◌, ◌∙◌, ℕ, List, [], ◌∷◌, ◌++◌, Option, Some, None, true, false, refl, ap, codes, arith, decimal, option_map}
use Rattle.std.specs.Prelude.{find, fold, IfSome}
use Rattle.clap.specs.ValueTests.{accepts}
use Rattle.clap.specs.Walk.{Held, Rule, Text, Walk, answers_to, finished, nothing_held, settled, settled_rows, walk, walk_from, walked}
use Rattle.clap.specs.Simple.{Shape, built, built_leaf, inherited, label_of, marked_built, names_of, subcommand_of, with_leaf_noted}
use Rattle.clap.specs.Kinds.{Kinds}
use Rattle.clap.specs.Faults.{check_fault, defaults_fault, fault_of, level_fault, settle_fault, walk_fault}
use Rattle.clap.specs.declared.builder.value_parser.ValueParser.TheVariants as vp
use Rattle.clap.proofs.OnLiterals.{clap_on_literals}
use Rattle.server.specs.declared.limits.TheConstants.{CONNECTIONS_MAX, WORKERS_MAX}
use Rattle.askrened.specs.Form.{Invocation, Service, Bytes, form, serve_form, invocation_in, invocation_of, number_in, number_if_said, serve_with, service_from, service_of}
use Rattle.askrened.specs.Words.{IsPlainName, IsPlainOption, IsService, option_words, spelling_of}
use Rattle.askrened.proofs.PlainWords.{no_dash, no_long, no_short, no_dashes}
use Rattle.askrened.proofs.Numbers.{decimal_is_plain, decimal_taken, number_of_decimal}
use Rattle.askrened.proofs.Asking.{taken_asks}
use Rattle.askrened.proofs.GenWords.{standing, level_taken, top_taken, top_defaults, entered_at, no_words, taken_value}

abbrev shape : Shape
shape = built_leaf (inherited (with_leaf_noted (marked_built form.top)) serve_form.top)

abbrev rules : List Rule
rules = shape.rules

-- ---- one option and its value

-- what is held after an option, if it is said
abbrev with_option : Text → Option Text → Held → Held
with_option name None held = held
with_option name (Some value) held = record { rows = settled_rows rules held.pending held.rows; pending = Some (name, value ∷ []); skip = held.skip }

-- no fault comes of what is held
abbrev IsClean : Held → Type 0
IsClean held = settle_fault rules shape.args_override_self held ≡ []

abbrev walk_on : Held → List Text → Walk
walk_on held words = fold (walked rules []) (standing held 1) words

abbrev fault_on : Held → List Text → Kinds
fault_on held words = walk_fault shape [] (standing held 1) words

-- the flag takes the word after it as the value of its option
record TakesValue (flag name : Text) : Type 0 where
  walks : (held : Held) (x : ℕ) (xs : Text) (rest : List Text) → (x == 45) ≡ false → walk_on held (flag ∷ (x ∷ xs) ∷ rest) ≡ walk_on (with_option name (Some (x ∷ xs)) held) rest
  faults : (held : Held) (x : ℕ) (xs : Text) (rest : List Text) → (x == 45) ≡ false → IsClean held → fault_on held (flag ∷ (x ∷ xs) ∷ rest) ≡ fault_on (with_option name (Some (x ∷ xs)) held) rest

takes_socket : TakesValue (codes "--socket") (codes "socket")
unfolding clap_on_literals
takes_socket = record {
  walks = λ held x xs rest e. simp (no_long x xs e, no_short x xs e, no_dashes x xs e);
  faults = λ held x xs rest e clean. simp (no_long x xs e, no_short x xs e, no_dashes x xs e, clean);
}

takes_connections : TakesValue (codes "--connections") (codes "connections")
unfolding clap_on_literals
takes_connections = record {
  walks = λ held x xs rest e. simp (no_long x xs e, no_short x xs e, no_dashes x xs e);
  faults = λ held x xs rest e clean. simp (no_long x xs e, no_short x xs e, no_dashes x xs e, clean);
}

takes_workers : TakesValue (codes "--workers") (codes "workers")
unfolding clap_on_literals
takes_workers = record {
  walks = λ held x xs rest e. simp (no_long x xs e, no_short x xs e, no_dashes x xs e);
  faults = λ held x xs rest e clean. simp (no_long x xs e, no_short x xs e, no_dashes x xs e, clean);
}

takes_map : TakesValue (codes "--map") (codes "map")
unfolding clap_on_literals
takes_map = record {
  walks = λ held x xs rest e. simp (no_long x xs e, no_short x xs e, no_dashes x xs e);
  faults = λ held x xs rest e clean. simp (no_long x xs e, no_short x xs e, no_dashes x xs e, clean);
}

takes_local : TakesValue (codes "--local") (codes "local")
unfolding clap_on_literals
takes_local = record {
  walks = λ held x xs rest e. simp (no_long x xs e, no_short x xs e, no_dashes x xs e);
  faults = λ held x xs rest e clean. simp (no_long x xs e, no_short x xs e, no_dashes x xs e, clean);
}

-- an option that may be said
said_walks : (flag name : Text) → TakesValue flag name → (value : Option Text) → IsPlainOption value → (held : Held) (rest : List Text) → walk_on held (option_words flag value ++ rest) ≡ walk_on (with_option name value held) rest
said_walks flag name takes None plain held rest = refl
said_walks flag name takes (Some []) plain held rest = absurd plain
said_walks flag name takes (Some (x ∷ xs)) plain held rest = takes.walks held x xs rest (no_dash x plain)

said_faults : (flag name : Text) → TakesValue flag name → (value : Option Text) → IsPlainOption value → (held : Held) (rest : List Text) → IsClean held → fault_on held (option_words flag value ++ rest) ≡ fault_on (with_option name value held) rest
said_faults flag name takes None plain held rest clean = refl
said_faults flag name takes (Some []) plain held rest clean = absurd plain
said_faults flag name takes (Some (x ∷ xs)) plain held rest clean = takes.faults held x xs rest (no_dash x plain) clean

-- ---- all options

-- the texts of the options, which may be absent from the third on
record Texts : Type 0 where
  socket : Text
  connections : Text
  workers : Option Text
  map : Option Text
  local : Option Text

abbrev held1 : Texts → Held
held1 t = with_option (codes "socket") (Some t.socket) nothing_held

abbrev held2 : Texts → Held
held2 t = with_option (codes "connections") (Some t.connections) (held1 t)

abbrev held3 : Texts → Held
held3 t = with_option (codes "workers") t.workers (held2 t)

abbrev held4 : Texts → Held
held4 t = with_option (codes "map") t.map (held3 t)

abbrev held5 : Texts → Held
held5 t = with_option (codes "local") t.local (held4 t)

abbrev words1 : Texts → List Text
words1 t = option_words (codes "--local") t.local

abbrev words2 : Texts → List Text
words2 t = option_words (codes "--map") t.map ++ words1 t

abbrev words3 : Texts → List Text
words3 t = option_words (codes "--workers") t.workers ++ words2 t

abbrev words4 : Texts → List Text
words4 t = option_words (codes "--connections") (Some t.connections) ++ words3 t

abbrev words5 : Texts → List Text
words5 t = option_words (codes "--socket") (Some t.socket) ++ words4 t

-- each text is plain, and numbers are in their ranges
record AreTaken (t : Texts) : Type 0 where
  plain_socket : IsPlainName t.socket
  plain_connections : IsPlainName t.connections
  plain_workers : IsPlainOption t.workers
  plain_map : IsPlainOption t.map
  plain_local : IsPlainOption t.local
  connections : accepts false (vp.Unsigned 1 CONNECTIONS_MAX) t.connections ≡ true
  workers : IfSome t.workers (λ text. accepts false (vp.Unsigned 1 WORKERS_MAX) text ≡ true)

no_more : (words : List Text) → words ≡ words ++ []
no_more [] = refl
no_more (word ∷ words) = ap (λ rest. word ∷ rest) (no_more words)

one_more : (before : List Text) (word : Text) (words : List Text) → (before ++ word ∷ []) ++ words ≡ before ++ word ∷ words
one_more [] word words = refl
one_more (other ∷ before) word words = ap (λ rest. other ∷ rest) (one_more before word words)

serve_walk : (t : Texts) → AreTaken t → walk rules [] nothing_held (words5 t) ≡ standing (held5 t) 1
serve_walk t k =
    said_walks (codes "--socket") (codes "socket") takes_socket (Some t.socket) k.plain_socket nothing_held (words4 t)
    ∙ said_walks (codes "--connections") (codes "connections") takes_connections (Some t.connections) k.plain_connections (held1 t) (words3 t)
    ∙ said_walks (codes "--workers") (codes "workers") takes_workers t.workers k.plain_workers (held2 t) (words2 t)
    ∙ said_walks (codes "--map") (codes "map") takes_map t.map k.plain_map (held3 t) (words1 t)
    ∙ ap (walk_on (held4 t)) (no_more (words1 t))
    ∙ said_walks (codes "--local") (codes "local") takes_local t.local k.plain_local (held4 t) []

-- ---- no fault

clean1 : (t : Texts) → IsClean (held1 t)
clean1 t = refl

clean2 : (t : Texts) → AreTaken t → IsClean (held2 t)
clean2 t k = taken_value false (vp.Unsigned 1 CONNECTIONS_MAX) t.connections k.connections

workers_clean : (s c : Text) (w : Option Text) → IsPlainOption w → accepts false (vp.Unsigned 1 CONNECTIONS_MAX) c ≡ true → IfSome w (λ text. accepts false (vp.Unsigned 1 WORKERS_MAX) text ≡ true)
    → IsClean (with_option (codes "workers") w (with_option (codes "connections") (Some c) (with_option (codes "socket") (Some s) nothing_held)))
workers_clean s c None plain taken more = taken_value false (vp.Unsigned 1 CONNECTIONS_MAX) c taken
workers_clean s c (Some w) plain taken more = taken_value false (vp.Unsigned 1 WORKERS_MAX) w more

clean3 : (t : Texts) → AreTaken t → IsClean (held3 t)
clean3 t k = workers_clean t.socket t.connections t.workers k.plain_workers k.connections k.workers

map_clean : (s c : Text) (w m : Option Text) → IsClean (held3 (record { socket = s; connections = c; workers = w; map = m; local = None })) → IsClean (held4 (record { socket = s; connections = c; workers = w; map = m; local = None }))
map_clean s c w None clean = clean
map_clean s c None (Some m) clean = refl
map_clean s c (Some w) (Some m) clean = refl

clean4 : (t : Texts) → AreTaken t → IsClean (held4 t)
clean4 t k = map_clean t.socket t.connections t.workers t.map (clean3 t k)

local_clean : (s c : Text) (w m l : Option Text) → IsClean (held4 (record { socket = s; connections = c; workers = w; map = m; local = l })) → IsClean (held5 (record { socket = s; connections = c; workers = w; map = m; local = l }))
local_clean s c w m None clean = clean
local_clean s c None None (Some l) clean = refl
local_clean s c None (Some m) (Some l) clean = refl
local_clean s c (Some w) None (Some l) clean = refl
local_clean s c (Some w) (Some m) (Some l) clean = refl

clean5 : (t : Texts) → AreTaken t → IsClean (held5 t)
clean5 t k = local_clean t.socket t.connections t.workers t.map t.local (clean4 t k)

serve_fault : (t : Texts) → AreTaken t → walk_fault shape [] (walk_from nothing_held) (words5 t) ≡ []
serve_fault t k =
    said_faults (codes "--socket") (codes "socket") takes_socket (Some t.socket) k.plain_socket nothing_held (words4 t) refl
    ∙ said_faults (codes "--connections") (codes "connections") takes_connections (Some t.connections) k.plain_connections (held1 t) (words3 t) (clean1 t)
    ∙ said_faults (codes "--workers") (codes "workers") takes_workers t.workers k.plain_workers (held2 t) (words2 t) (clean2 t k)
    ∙ said_faults (codes "--map") (codes "map") takes_map t.map k.plain_map (held3 t) (words1 t) (clean3 t k)
    ∙ ap (fault_on (held4 t)) (no_more (words1 t))
    ∙ said_faults (codes "--local") (codes "local") takes_local t.local k.plain_local (held4 t) [] (clean4 t k)
    ∙ no_words shape [] (standing (held5 t) 1)

-- each choice of options, after the walk
abbrev texts_of : Text → Text → Option Text → Option Text → Option Text → Texts
texts_of s c w m l = record { socket = s; connections = c; workers = w; map = m; local = l }

serve_defaults : (s c : Text) (w m l : Option Text) → defaults_fault (settled rules (held5 (texts_of s c w m l))).rows rules ≡ []
unfolding defaults_fault
serve_defaults s c None None None = refl
serve_defaults s c None None (Some l) = refl
serve_defaults s c None (Some m) None = refl
serve_defaults s c None (Some m) (Some l) = refl
serve_defaults s c (Some w) None None = refl
serve_defaults s c (Some w) None (Some l) = refl
serve_defaults s c (Some w) (Some m) None = refl
serve_defaults s c (Some w) (Some m) (Some l) = refl

serve_checks : (s c : Text) (w m l : Option Text) → check_fault shape (finished rules (held5 (texts_of s c w m l))) false ≡ []
serve_checks s c None None None = refl
serve_checks s c None None (Some l) = refl
serve_checks s c None (Some m) None = refl
serve_checks s c None (Some m) (Some l) = refl
serve_checks s c (Some w) None None = refl
serve_checks s c (Some w) None (Some l) = refl
serve_checks s c (Some w) (Some m) None = refl
serve_checks s c (Some w) (Some m) (Some l) = refl

-- what is asked for
abbrev asked_by : Texts → Option Invocation
asked_by t = option_map (λ service. serve_with service t.map t.local) (service_from (Some t.socket) (number_in t.connections) (number_if_said t.workers))

serve_rows : (s c : Text) (w m l : Option Text) → invocation_in (Some (codes "serve", finished rules (held5 (texts_of s c w m l)))) ≡ asked_by (texts_of s c w m l)
serve_rows s c None None None = refl
serve_rows s c None None (Some l) = refl
serve_rows s c None (Some m) None = refl
serve_rows s c None (Some m) (Some l) = refl
serve_rows s c (Some w) None None = refl
serve_rows s c (Some w) None (Some l) = refl
serve_rows s c (Some w) (Some m) None = refl
serve_rows s c (Some w) (Some m) (Some l) = refl

serve_level : (t : Texts) → AreTaken t → level_fault shape [] nothing_held (words5 t) false [] ≡ []
serve_level t k = level_taken shape (words5 t) (held5 t) (ap (λ w. w.held) (serve_walk t k)) (serve_fault t k) (clean5 t k)
    (serve_defaults t.socket t.connections t.workers t.map t.local) (serve_checks t.socket t.connections t.workers t.map t.local)

-- ---- the words before them

-- the walk has met the command `serve`, and these words after it
abbrev stopped_at : List Text → Walk
stopped_at words = record (walk_from nothing_held) { stopped = Some (codes "serve", words) }

abbrev top_walk : Walk → List Text → Walk
top_walk = fold (walked (built form).top.rules (names_of (built form)))

abbrev top_fault : Walk → List Text → Kinds
top_fault = walk_fault (built form).top (names_of (built form))

one_after : (before : List Text) (word : Text) → walked (built form).top.rules (names_of (built form)) (stopped_at before) word ≡ stopped_at (before ++ word ∷ [])
unfolding walked
one_after before word = refl

all_after : (before words : List Text) → top_walk (stopped_at before) words ≡ stopped_at (before ++ words)
all_after before [] = ap stopped_at (no_more before)
all_after before (word ∷ words) = ap (λ w. top_walk w words) (one_after before word) ∙ all_after (before ++ word ∷ []) words ∙ ap stopped_at (one_more before word words)

one_faultless : (before : List Text) (word : Text) (words : List Text) → top_fault (stopped_at before) (word ∷ words) ≡ top_fault (stopped_at (before ++ word ∷ [])) words
unfolding walk_fault walked
one_faultless before word words = refl

none_after : (before words : List Text) → top_fault (stopped_at before) words ≡ []
none_after before [] = no_words (built form).top (names_of (built form)) (stopped_at before)
none_after before (word ∷ words) = one_faultless before word words ∙ none_after (before ++ word ∷ []) words

meets_serve : walked (built form).top.rules (names_of (built form)) (walk_from nothing_held) (codes "serve") ≡ stopped_at []
unfolding clap_on_literals
meets_serve = refl

serve_stop : (words : List Text) → walk (built form).top.rules (names_of (built form)) nothing_held (codes "serve" ∷ words) ≡ stopped_at words
serve_stop words = ap (λ w. top_walk w words) meets_serve ∙ all_after [] words

meets_faultless : (words : List Text) → top_fault (walk_from nothing_held) (codes "serve" ∷ words) ≡ top_fault (stopped_at []) words
unfolding clap_on_literals
meets_faultless words = refl

serve_top : (words : List Text) → top_fault (walk_from nothing_held) (codes "serve" ∷ words) ≡ []
serve_top words = meets_faultless words ∙ none_after [] words

serve_found : find (λ sub. answers_to (codes "serve") (label_of sub)) (built form).subs ≡ Some shape
serve_found = refl

serve_taken : (t : Texts) → AreTaken t → fault_of form (codes "serve" ∷ words5 t) ≡ []
serve_taken t k = top_taken (built form) (codes "serve" ∷ words5 t) (codes "serve") (words5 t) shape (serve_stop (words5 t)) (serve_top (words5 t)) top_defaults refl serve_found (serve_level t k)

serve_entered : (t : Texts) → AreTaken t → subcommand_of form (codes "serve" ∷ words5 t) ≡ Some (codes "serve", finished rules (held5 t))
serve_entered t k = entered_at (built form) _ (codes "serve") (words5 t) shape (standing (held5 t) 1) (ap (λ (w : Walk). w.stopped) (serve_stop (words5 t))) serve_found (serve_walk t k)

serve_asked : (t : Texts) → AreTaken t → invocation_of (codes "serve" ∷ words5 t) ≡ asked_by t
serve_asked t k = taken_asks (codes "serve" ∷ words5 t) (serve_taken t k) ∙ ap invocation_in (serve_entered t k) ∙ serve_rows t.socket t.connections t.workers t.map t.local

-- ---- a service

-- workers, if that is said
workers_plain : (workers : Option ℕ) → IfSome workers (λ number. number ≤ WORKERS_MAX) → IsPlainOption (option_map decimal workers)
workers_plain None few = tt
workers_plain (Some number) few = decimal_is_plain number (omega (arith, few))

workers_taken : (workers : Option ℕ) → IfSome workers (λ number. 1 ≤ number) → IfSome workers (λ number. number ≤ WORKERS_MAX)
    → IfSome (option_map decimal workers) (λ text. accepts false (vp.Unsigned 1 WORKERS_MAX) text ≡ true)
workers_taken None some few = tt
workers_taken (Some number) some few = decimal_taken 1 WORKERS_MAX number (omega (arith, few)) some few

workers_read : (workers : Option ℕ) → IfSome workers (λ number. number ≤ WORKERS_MAX) → number_if_said (option_map decimal workers) ≡ Some workers
workers_read None few = refl
workers_read (Some number) few = ap (option_map (λ n. Some n)) (number_of_decimal number (omega (arith, few)))

again : (socket : Bytes) (connections : ℕ) (workers : Option ℕ) → 1 ≤ connections → connections ≤ CONNECTIONS_MAX → IfSome workers (λ number. 1 ≤ number) → IfSome workers (λ number. number ≤ WORKERS_MAX)
    → service_of socket connections workers ≡ Some (record { socket = socket; connections = connections; workers = workers })
unfolding service_of
again socket connections None some few some_workers few_workers = search (common_rules, some, few)
again socket connections (Some workers) some few some_workers few_workers = search (common_rules, some, few, some_workers, few_workers)

service_again : (service : Service) → IsService service → service_of service.socket service.connections service.workers ≡ Some service
service_again service is = again service.socket service.connections service.workers is.some_connections is.few_connections is.some_workers is.few_workers

abbrev texts_in : Service → Option Bytes → Option Bytes → Texts
texts_in service map local = texts_of service.socket (decimal service.connections) (option_map decimal service.workers) map local

pub spelled_serve : (service : Service) (map local : Option Bytes) → IsPlainName service.socket → IsService service → IsPlainOption map → IsPlainOption local
    → invocation_of (spelling_of (serve_with service map local)) ≡ Some (serve_with service map local)
spelled_serve service map local plain is plain_map plain_local =
    let few : service.connections < 2 ^ 64 = omega (arith, is.few_connections) in
    serve_asked (texts_in service map local) (record {
      plain_socket = plain;
      plain_connections = decimal_is_plain service.connections few;
      plain_workers = workers_plain service.workers is.few_workers;
      plain_map = plain_map;
      plain_local = plain_local;
      connections = decimal_taken 1 CONNECTIONS_MAX service.connections few is.some_connections is.few_connections;
      workers = workers_taken service.workers is.some_workers is.few_workers;
    })
    ∙ rw (number_of_decimal service.connections few, workers_read service.workers is.few_workers)
    (ap (option_map (λ service. serve_with service map local)) (service_again service is))
