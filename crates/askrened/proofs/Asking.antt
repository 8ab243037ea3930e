-- Words that the form takes ask for something, and words that it refuses ask for nothing.
use Rattle.std.proofs.Common.{◌≡◌, ◌≢◌, List, [], ◌∷◌, Some, None, Option, true, refl, sym, subst, ap}
use Rattle.std.specs.Prelude.{option_map, Box}
use Rattle.std.specs.Box.{box_value}
use Rattle.clap.specs.Walk.{Row}
use Rattle.clap.specs.Simple.{is_simple, subcommand_of, subcommand_rows}
use Rattle.clap.specs.Kinds.{Kinds}
use Rattle.clap.specs.Faults.{fault_of}
use Rattle.clap.specs.declared.parser.matches.ArgMatches.TheViews.{out-SubCommand}
use Rattle.clap.specs.declared.parser.matches.SubCommand.{SubCommand}
use Rattle.clap.proofs.OnLiterals.{clap_on_literals}
use Rattle.askrened.specs.Form.{Invocation, Bytes, form, invocation_in, invocation_of, unless_refused, Service, IfAsks, IfChecks, IfGenerates, IfServes, AsksForOther, AsksToServe, AreRefused, ask_with, check_alone, gen_with, serve_with}
use Rattle.gen_command.specs.declared.size.Size.{Size}

pub form_is_simple : is_simple form ≡ true
unfolding clap_on_literals
form_is_simple = refl

-- nothing is asked for
refused_none : (kinds : Kinds) (asked : Option Invocation) → kinds ≢ [] → unless_refused kinds asked ≡ None
refused_none [] asked some = absurd (some refl)
refused_none (kind ∷ kinds) asked some = refl

pub refused_asks_none : (words : List Bytes) → AreRefused words → invocation_of words ≡ None
refused_asks_none words refused = refused_none (fault_of form words) (invocation_in (subcommand_of form words)) refused

taken_same : (kinds : Kinds) (asked : Option Invocation) → kinds ≡ [] → unless_refused kinds asked ≡ asked
taken_same kinds asked none = ap (λ k. unless_refused k asked) none

pub taken_asks : (words : List Bytes) → fault_of form words ≡ [] → invocation_of words ≡ invocation_in (subcommand_of form words)
taken_asks words none = taken_same (fault_of form words) (invocation_in (subcommand_of form words)) none

-- the command that a parse met, with what it found
pub met_command : {Z : Type 0} (met : Option (Box SubCommand Z)) (name : Bytes) (rows : List Row) → Some name ≡ option_map (λ b. (out-SubCommand (box_value b)).name.now) met
    → Some rows ≡ option_map (λ p. p.1) (subcommand_rows met) → subcommand_rows met ≡ Some (name, rows)
met_command None name rows is_name is_rows = let e = is_name in cc
met_command (Some found) name rows is_name is_rows = let e = is_name in let f = is_rows in cc

-- what holds if words ask for one command
pub if_asks : (asked : Option Invocation) (map local : Option Bytes) (Holds : Option Bytes → Option Bytes → Type 0) → asked ≡ Some (ask_with map local) → Holds map local → IfAsks asked Holds
if_asks asked map local Holds is holds = subst (λ a. IfAsks a Holds) (sym is) holds

pub if_checks : (asked : Option Invocation) (Holds : Type 0) → asked ≡ Some check_alone → Holds → IfChecks asked Holds
if_checks asked Holds is holds = subst (λ a. IfChecks a Holds) (sym is) holds

pub asks_checks : (asked : Option Invocation) (map local : Option Bytes) (Holds : Type 0) → asked ≡ Some (ask_with map local) → IfChecks asked Holds
asks_checks asked map local Holds is = subst (λ a. IfChecks a Holds) (sym is) tt

pub if_generates : (asked : Option Invocation) (size : Size) (Holds : Size → Type 0) → asked ≡ Some (gen_with size) → Holds size → IfGenerates asked Holds
if_generates asked size Holds is holds = subst (λ a. IfGenerates a Holds) (sym is) holds

pub asks_generates : (asked : Option Invocation) (map local : Option Bytes) (Holds : Size → Type 0) → asked ≡ Some (ask_with map local) → IfGenerates asked Holds
asks_generates asked map local Holds is = subst (λ a. IfGenerates a Holds) (sym is) tt

pub checks_generates : (asked : Option Invocation) (Holds : Size → Type 0) → asked ≡ Some check_alone → IfGenerates asked Holds
checks_generates asked Holds is = subst (λ a. IfGenerates a Holds) (sym is) tt

pub generates_asks : (asked : Option Invocation) (size : Size) (Holds : Option Bytes → Option Bytes → Type 0) → asked ≡ Some (gen_with size) → IfAsks asked Holds
generates_asks asked size Holds is = subst (λ a. IfAsks a Holds) (sym is) tt

pub generates_checks : (asked : Option Invocation) (size : Size) (Holds : Type 0) → asked ≡ Some (gen_with size) → IfChecks asked Holds
generates_checks asked size Holds is = subst (λ a. IfChecks a Holds) (sym is) tt

pub checks_asks : (asked : Option Invocation) (Holds : Option Bytes → Option Bytes → Type 0) → asked ≡ Some check_alone → IfAsks asked Holds
checks_asks asked Holds is = subst (λ a. IfAsks a Holds) (sym is) tt

-- in either case
pub if_asks_all : (asked : Option Invocation) (Holds : Option Bytes → Option Bytes → Type 0) → ((map local : Option Bytes) → Holds map local) → IfAsks asked Holds
if_asks_all None Holds all = tt
if_asks_all (Some (ask_with map local)) Holds all = all map local
if_asks_all (Some check_alone) Holds all = tt
if_asks_all (Some (gen_with size)) Holds all = tt
if_asks_all (Some (serve_with service map local)) Holds all = tt

pub if_checks_all : (asked : Option Invocation) (Holds : Type 0) → Holds → IfChecks asked Holds
if_checks_all None Holds all = tt
if_checks_all (Some (ask_with map local)) Holds all = tt
if_checks_all (Some check_alone) Holds all = all
if_checks_all (Some (gen_with size)) Holds all = tt
if_checks_all (Some (serve_with service map local)) Holds all = tt

pub if_generates_all : (asked : Option Invocation) (Holds : Size → Type 0) → ((size : Size) → Holds size) → IfGenerates asked Holds
if_generates_all None Holds all = tt
if_generates_all (Some (ask_with map local)) Holds all = tt
if_generates_all (Some check_alone) Holds all = tt
if_generates_all (Some (gen_with size)) Holds all = all size
if_generates_all (Some (serve_with service map local)) Holds all = tt

pub if_serves_all : (asked : Option Invocation) (Holds : Service → Option Bytes → Option Bytes → Type 0) → ((service : Service) (map local : Option Bytes) → Holds service map local) → IfServes asked Holds
if_serves_all None Holds all = tt
if_serves_all (Some (ask_with map local)) Holds all = tt
if_serves_all (Some check_alone) Holds all = tt
if_serves_all (Some (gen_with size)) Holds all = tt
if_serves_all (Some (serve_with service map local)) Holds all = all service map local

-- what holds if words ask to serve connections, and no other command
pub if_serves : (asked : Option Invocation) (service : Service) (map local : Option Bytes) (Holds : Service → Option Bytes → Option Bytes → Type 0) → asked ≡ Some (serve_with service map local) → Holds service map local → IfServes asked Holds
if_serves asked service map local Holds is holds = subst (λ a. IfServes a Holds) (sym is) holds

pub serves_asks : (asked : Option Invocation) (service : Service) (map local : Option Bytes) (Holds : Option Bytes → Option Bytes → Type 0) → asked ≡ Some (serve_with service map local) → IfAsks asked Holds
serves_asks asked service map local Holds is = subst (λ a. IfAsks a Holds) (sym is) tt

pub serves_checks : (asked : Option Invocation) (service : Service) (map local : Option Bytes) (Holds : Type 0) → asked ≡ Some (serve_with service map local) → IfChecks asked Holds
serves_checks asked service map local Holds is = subst (λ a. IfChecks a Holds) (sym is) tt

pub serves_generates : (asked : Option Invocation) (service : Service) (map local : Option Bytes) (Holds : Size → Type 0) → asked ≡ Some (serve_with service map local) → IfGenerates asked Holds
serves_generates asked service map local Holds is = subst (λ a. IfGenerates a Holds) (sym is) tt

pub serves_asked : (asked : Option Invocation) (service : Service) (map local : Option Bytes) → asked ≡ Some (serve_with service map local) → AsksToServe asked
serves_asked asked service map local is = subst AsksToServe (sym is) tt

pub serves_no_other : (asked : Option Invocation) (service : Service) (map local : Option Bytes) → asked ≡ Some (serve_with service map local) → AsksForOther asked → ⊥
serves_no_other asked service map local is other = subst AsksForOther is other

-- and what holds if they ask for another command
pub other_serves : (asked : Option Invocation) (Holds : Service → Option Bytes → Option Bytes → Type 0) → AsksForOther asked → IfServes asked Holds
other_serves None Holds other = tt
other_serves (Some (ask_with map local)) Holds other = tt
other_serves (Some check_alone) Holds other = tt
other_serves (Some (gen_with size)) Holds other = tt
other_serves (Some (serve_with service map local)) Holds other = absurd other

pub ask_is_other : (asked : Option Invocation) (map local : Option Bytes) → asked ≡ Some (ask_with map local) → AsksForOther asked
ask_is_other asked map local is = subst AsksForOther (sym is) tt

pub check_is_other : (asked : Option Invocation) → asked ≡ Some check_alone → AsksForOther asked
check_is_other asked is = subst AsksForOther (sym is) tt

pub gen_is_other : (asked : Option Invocation) (size : Size) → asked ≡ Some (gen_with size) → AsksForOther asked
gen_is_other asked size is = subst AsksForOther (sym is) tt

pub other_is_not_to_serve : (asked : Option Invocation) → AsksForOther asked → AsksToServe asked → ⊥
other_is_not_to_serve None other serves = other
other_is_not_to_serve (Some (ask_with map local)) other serves = serves
other_is_not_to_serve (Some check_alone) other serves = serves
other_is_not_to_serve (Some (gen_with size)) other serves = serves
other_is_not_to_serve (Some (serve_with service map local)) other serves = other
