-- The words of `gen` as the help spells them are taken, and ask for the workload that they spell.
use Rattle.std.proofs.Common.{◌≡◌, ◌<◌, ◌∙◌, ◌^◌, ◌-◌, ℕ, List, [], ◌∷◌, Option, Some, None, Bool, true, false, refl, ap, codes, rules, arith, option_map, decimal}
use Rattle.std.specs.Prelude.{find}
use Rattle.clap.specs.ValueTests.{accepts}
use Rattle.clap.specs.Walk.{Held, Names, Row, Rule, Text, Walk, answers_to, arg_by_index, finished, idle, nothing_held, settled, to_positional, value, walk, walk_from, walked, reading_by}
use Rattle.clap.specs.Simple.{App, Shape, built, built_leaf, entered, inherited, label_of, marked_built, names_of, subcommand_of, with_leaf_noted, filled}
use Rattle.clap.specs.Kinds.{Kinds, or_else, values_kinds}
use Rattle.clap.specs.Faults.{built_fault, check_fault, defaults_fault, fault_of, level_fault, settle_fault, step_fault, walk_fault}
use Rattle.clap.specs.declared.builder.value_parser.ValueParser.{ValueParser}
use Rattle.clap.specs.declared.builder.value_parser.ValueParser.TheVariants as vp
use Rattle.clap.specs.declared.parser.matches.ValueSource.TheVariants.{CommandLine}
use Rattle.clap.proofs.OnLiterals.{clap_on_literals}
use Rattle.workload.specs.declared.limits.TheConstants.{NODES_MIN, NODES_MAX, CHANNELS_MAX, ASKS_MAX}
use Rattle.gen_command.specs.declared.size.Size.{Size}
use Rattle.gen_command.specs.Size.{IsSize, size_of}
use Rattle.askrened.specs.Form.{form, gen_form, invocation_in, invocation_of, gen_with, number_argument, number_in, size_from}
use Rattle.askrened.specs.Words.{IsPlainName, spelling_of}
use Rattle.askrened.proofs.PlainWords.{no_dash, no_long, no_short, no_dashes}
use Rattle.askrened.proofs.Numbers.{decimal_is_plain, decimal_taken, number_of_decimal}
use Rattle.askrened.proofs.Asking.{taken_asks}

-- ---- one word

-- between two words, before the argument at a place
abbrev pub standing : Held → ℕ → Walk
standing held place = record { held = held; waiting = idle; position = place; is_trailing = false; stopped = None }

-- a plain word goes to the argument at its place
to_place : (args : List Rule) (held : Held) (place : ℕ) (word : Text) → IsPlainName word
    → walked args [] (standing held place) word ≡ to_positional args (arg_by_index args place) word (standing held place) held
unfolding walked
to_place args held place [] plain = absurd plain
to_place args held place (x ∷ xs) plain = let e = no_dash x plain in simp (no_long x xs e, no_short x xs e, no_dashes x xs e)

to_place_fault : (s : Shape) (held : Held) (place : ℕ) (word : Text) (words : List Text) → IsPlainName word
    → walk_fault s [] (standing held place) (word ∷ words)
    ≡ or_else (step_fault s place held value) (walk_fault s [] (to_positional s.rules (arg_by_index s.rules place) word (standing held place) held) words)
unfolding walk_fault walked
to_place_fault s held place [] words plain = absurd plain
to_place_fault s held place (x ∷ xs) words plain = let e = no_dash x plain in simp (no_long x xs e, no_short x xs e, no_dashes x xs e)

-- a value that its argument takes
pub taken_value : (ignore_case : Bool) (parser : ValueParser) (text : Text) → accepts ignore_case parser text ≡ true → values_kinds ignore_case parser (text ∷ []) ≡ []
taken_value ignore_case parser text taken = rw taken refl

-- ---- one level of words

pub level_taken : (s : Shape) (words : List Text) (end : Held) → (walk s.rules [] nothing_held words).held ≡ end → walk_fault s [] (walk_from nothing_held) words ≡ []
    → settle_fault s.rules s.args_override_self end ≡ [] → defaults_fault (settled s.rules end).rows s.rules ≡ [] → check_fault s (finished s.rules end) false ≡ []
    → level_fault s [] nothing_held words false [] ≡ []
level_taken s words end is walks settles defaults checks = rw (is, walks, settles, defaults, checks) refl

-- the words before a command, and the command that they name
pub top_taken : (a : App) (words : List Text) (name : Text) (rest : List Text) (s : Shape) → walk a.top.rules (names_of a) nothing_held words ≡ record (walk_from nothing_held) { stopped = Some (name, rest) }
    → walk_fault a.top (names_of a) (walk_from nothing_held) words ≡ [] → defaults_fault [] a.top.rules ≡ [] → check_fault a.top (finished a.top.rules nothing_held) true ≡ []
    → find (λ sub. answers_to name (label_of sub)) a.subs ≡ Some s → level_fault s [] nothing_held rest false [] ≡ [] → built_fault a nothing_held words ≡ []
top_taken a words name rest s is walks defaults checks found below = rw (is, walks, found, below, defaults, checks) refl

-- ---- the words of `gen`

abbrev gen_shape : Shape
gen_shape = built_leaf (inherited (with_leaf_noted (marked_built form.top)) gen_form.top)

abbrev four : Text → Text → Text → Text → List Text
four a b c d = a ∷ b ∷ c ∷ d ∷ []

gen_stop : (a b c d : Text) → walk (built form).top.rules (names_of (built form)) nothing_held (codes "gen" ∷ four a b c d) ≡ record (walk_from nothing_held) { stopped = Some (codes "gen", four a b c d) }
unfolding clap_on_literals
gen_stop a b c d = refl

gen_top : (a b c d : Text) → walk_fault (built form).top (names_of (built form)) (walk_from nothing_held) (codes "gen" ∷ four a b c d) ≡ []
unfolding clap_on_literals
gen_top a b c d = refl

gen_found : find (λ sub. answers_to (codes "gen") (label_of sub)) (built form).subs ≡ Some gen_shape
gen_found = refl

-- what is found for an argument
abbrev row : Text → ℕ → ℕ → Text → Row
row name low high text = record { id = name; values = text ∷ []; count = None; source = Some CommandLine; reading = reading_by (filled (number_argument name low high)) }

abbrev held1 : Text → Held
held1 a = record { rows = []; pending = Some (codes "NUMBER", a ∷ []); skip = 0 }

abbrev held2 : Text → Text → Held
held2 a b = record { rows = row (codes "NUMBER") 0 (2 ^ 64 - 1) a ∷ []; pending = Some (codes "NODES", b ∷ []); skip = 0 }

abbrev held3 : Text → Text → Text → Held
held3 a b c = record { rows = row (codes "NUMBER") 0 (2 ^ 64 - 1) a ∷ row (codes "NODES") NODES_MIN NODES_MAX b ∷ []; pending = Some (codes "CHANNELS", c ∷ []); skip = 0 }

abbrev held4 : Text → Text → Text → Text → Held
held4 a b c d = record {
  rows = row (codes "NUMBER") 0 (2 ^ 64 - 1) a ∷ row (codes "NODES") NODES_MIN NODES_MAX b ∷ row (codes "CHANNELS") 0 CHANNELS_MAX c ∷ [];
  pending = Some (codes "ASKS", d ∷ []);
  skip = 0;
}

abbrev gen_step : Walk → Text → Walk
gen_step = walked gen_shape.rules []

walked1 : (a : Text) → IsPlainName a → gen_step (walk_from nothing_held) a ≡ standing (held1 a) 2
walked1 a plain = to_place gen_shape.rules nothing_held 1 a plain

walked2 : (a b : Text) → IsPlainName b → gen_step (standing (held1 a) 2) b ≡ standing (held2 a b) 3
walked2 a b plain = to_place gen_shape.rules (held1 a) 2 b plain

walked3 : (a b c : Text) → IsPlainName c → gen_step (standing (held2 a b) 3) c ≡ standing (held3 a b c) 4
walked3 a b c plain = to_place gen_shape.rules (held2 a b) 3 c plain

walked4 : (a b c d : Text) → IsPlainName d → gen_step (standing (held3 a b c) 4) d ≡ standing (held4 a b c d) 5
walked4 a b c d plain = to_place gen_shape.rules (held3 a b c) 4 d plain

gen_walk : (a b c d : Text) → IsPlainName a → IsPlainName b → IsPlainName c → IsPlainName d → walk gen_shape.rules [] nothing_held (four a b c d) ≡ standing (held4 a b c d) 5
gen_walk a b c d pa pb pc pd =
    ap (λ w. gen_step (gen_step (gen_step w b) c) d) (walked1 a pa) ∙ ap (λ w. gen_step (gen_step w c) d) (walked2 a b pb)
    ∙ ap (λ w. gen_step w d) (walked3 a b c pc) ∙ walked4 a b c d pd

-- their faults
abbrev gen_fault : Walk → List Text → Kinds
gen_fault = walk_fault gen_shape []

then_no_fault : (first next : Kinds) → first ≡ [] → next ≡ [] → or_else first next ≡ []
then_no_fault first next none none_next = rw (none, none_next) refl

pub no_words : (s : Shape) (names : Names) (w : Walk) → walk_fault s names w [] ≡ []
unfolding walk_fault
no_words s names w = refl

fault5 : (a b c d : Text) → gen_fault (standing (held4 a b c d) 5) [] ≡ []
fault5 a b c d = no_words gen_shape [] (standing (held4 a b c d) 5)

fault4 : (a b c d : Text) → IsPlainName d → accepts false (vp.Unsigned 0 CHANNELS_MAX) c ≡ true → gen_fault (standing (held3 a b c) 4) (d ∷ []) ≡ []
fault4 a b c d plain taken = to_place_fault gen_shape (held3 a b c) 4 d [] plain ∙ then_no_fault (step_fault gen_shape 4 (held3 a b c) value) _ (taken_value false (vp.Unsigned 0 CHANNELS_MAX) c taken) (fault5 a b c d)

fault3 : (a b c d : Text) → IsPlainName c → accepts false (vp.Unsigned NODES_MIN NODES_MAX) b ≡ true → gen_fault (standing (held3 a b c) 4) (d ∷ []) ≡ [] → gen_fault (standing (held2 a b) 3) (c ∷ d ∷ []) ≡ []
fault3 a b c d plain taken more = to_place_fault gen_shape (held2 a b) 3 c (d ∷ []) plain ∙ then_no_fault (step_fault gen_shape 3 (held2 a b) value) _ (taken_value false (vp.Unsigned NODES_MIN NODES_MAX) b taken) more

fault2 : (a b c d : Text) → IsPlainName b → accepts false (vp.Unsigned 0 (2 ^ 64 - 1)) a ≡ true → gen_fault (standing (held2 a b) 3) (c ∷ d ∷ []) ≡ [] → gen_fault (standing (held1 a) 2) (b ∷ c ∷ d ∷ []) ≡ []
fault2 a b c d plain taken more = to_place_fault gen_shape (held1 a) 2 b (c ∷ d ∷ []) plain ∙ then_no_fault (step_fault gen_shape 2 (held1 a) value) _ (taken_value false (vp.Unsigned 0 (2 ^ 64 - 1)) a taken) more

fault1 : (a b c d : Text) → IsPlainName a → gen_fault (standing (held1 a) 2) (b ∷ c ∷ d ∷ []) ≡ [] → gen_fault (walk_from nothing_held) (four a b c d) ≡ []
fault1 a b c d plain more = to_place_fault gen_shape nothing_held 1 a (b ∷ c ∷ d ∷ []) plain ∙ then_no_fault (step_fault gen_shape 1 nothing_held value) _ refl more

-- four plain words, each in the range of its argument
record AreTaken (a b c d : Text) : Type 0 where
  plain_a : IsPlainName a
  plain_b : IsPlainName b
  plain_c : IsPlainName c
  plain_d : IsPlainName d
  number : accepts false (vp.Unsigned 0 (2 ^ 64 - 1)) a ≡ true
  nodes : accepts false (vp.Unsigned NODES_MIN NODES_MAX) b ≡ true
  channels : accepts false (vp.Unsigned 0 CHANNELS_MAX) c ≡ true
  asks : accepts false (vp.Unsigned 0 ASKS_MAX) d ≡ true

gen_walk_taken : (a b c d : Text) → AreTaken a b c d → gen_fault (walk_from nothing_held) (four a b c d) ≡ []
gen_walk_taken a b c d t = fault1 a b c d t.plain_a (fault2 a b c d t.plain_b t.number (fault3 a b c d t.plain_c t.nodes (fault4 a b c d t.plain_d t.channels)))

gen_defaults : (a b c d : Text) → defaults_fault (settled gen_shape.rules (held4 a b c d)).rows gen_shape.rules ≡ []
unfolding defaults_fault
gen_defaults a b c d = refl

gen_checks : (a b c d : Text) → check_fault gen_shape (finished gen_shape.rules (held4 a b c d)) false ≡ []
gen_checks a b c d = refl

gen_level : (a b c d : Text) → AreTaken a b c d → level_fault gen_shape [] nothing_held (four a b c d) false [] ≡ []
gen_level a b c d t = level_taken gen_shape (four a b c d) (held4 a b c d) (ap (λ w. w.held) (gen_walk a b c d t.plain_a t.plain_b t.plain_c t.plain_d))
    (gen_walk_taken a b c d t) (taken_value false (vp.Unsigned 0 ASKS_MAX) d t.asks) (gen_defaults a b c d) (gen_checks a b c d)

pub top_defaults : defaults_fault [] (built form).top.rules ≡ []
unfolding defaults_fault
top_defaults = refl

gen_taken : (a b c d : Text) → AreTaken a b c d → fault_of form (codes "gen" ∷ four a b c d) ≡ []
gen_taken a b c d t = top_taken (built form) (codes "gen" ∷ four a b c d) (codes "gen") (four a b c d) gen_shape (gen_stop a b c d) (gen_top a b c d) top_defaults refl gen_found (gen_level a b c d t)

-- what is found
pub entered_at : (a : App) (stop : Option (Text × List Text)) (name : Text) (words : List Text) (s : Shape) (end : Walk) → stop ≡ Some (name, words) → find (λ sub. answers_to name (label_of sub)) a.subs ≡ Some s
    → walk s.rules [] nothing_held words ≡ end → entered a stop ≡ Some (s.name, finished s.rules end.held)
entered_at a stop name words s end is found walks = rw (is, found, walks) refl

gen_entered : (a b c d : Text) → AreTaken a b c d → subcommand_of form (codes "gen" ∷ four a b c d) ≡ Some (codes "gen", finished gen_shape.rules (held4 a b c d))
gen_entered a b c d t = entered_at (built form) _ (codes "gen") (four a b c d) gen_shape (standing (held4 a b c d) 5) (ap (λ (w : Walk). w.stopped) (gen_stop a b c d)) gen_found
    (gen_walk a b c d t.plain_a t.plain_b t.plain_c t.plain_d)

gen_asked : (a b c d : Text) → AreTaken a b c d → invocation_of (codes "gen" ∷ four a b c d) ≡ option_map gen_with (size_from (number_in a) (number_in b) (number_in c) (number_in d))
gen_asked a b c d t = taken_asks (codes "gen" ∷ four a b c d) (gen_taken a b c d t) ∙ ap invocation_in (gen_entered a b c d t)

-- ---- a size

size_again : (size : Size) → IsSize size → size_of size.number size.nodes size.channels size.asks ≡ Some size
unfolding size_of
size_again size is = search (rules, is.some_nodes, is.few_nodes, is.few_channels, is.few_asks)

pub spelled_gen : (size : Size) → size.number < 2 ^ 64 → IsSize size → invocation_of (spelling_of (gen_with size)) ≡ Some (gen_with size)
spelled_gen size small is =
    let few_nodes : size.nodes < 2 ^ 64 = omega (arith, is.few_nodes) in
    let few_channels : size.channels < 2 ^ 64 = omega (arith, is.few_channels) in
    let few_asks : size.asks < 2 ^ 64 = omega (arith, is.few_asks) in
    gen_asked (decimal size.number) (decimal size.nodes) (decimal size.channels) (decimal size.asks) (record {
      plain_a = decimal_is_plain size.number small;
      plain_b = decimal_is_plain size.nodes few_nodes;
      plain_c = decimal_is_plain size.channels few_channels;
      plain_d = decimal_is_plain size.asks few_asks;
      number = decimal_taken 0 (2 ^ 64 - 1) size.number small (omega arith) (omega (arith, small));
      nodes = decimal_taken NODES_MIN NODES_MAX size.nodes few_nodes is.some_nodes is.few_nodes;
      channels = decimal_taken 0 CHANNELS_MAX size.channels few_channels (omega arith) is.few_channels;
      asks = decimal_taken 0 ASKS_MAX size.asks few_asks (omega arith) is.few_asks;
    })
    ∙ rw (number_of_decimal size.number small, number_of_decimal size.nodes few_nodes, number_of_decimal size.channels few_channels, number_of_decimal size.asks few_asks)
    (ap (option_map gen_with) (size_again size is))
