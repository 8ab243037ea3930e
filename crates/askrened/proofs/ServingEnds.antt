-- What the end of served connections says, and what a load says before it.
use Rattle.std.proofs.Common.{◌≡◌, ◌≢◌, ◌<◌, ◌+◌, ◌∙◌, ap, drop, get_or, ℕ, List, [], ◌∷◌, length, Option, Some, None, Bool, true, false, All, refl, sym, subst, arith, suc}
use Rattle.std.specs.Prelude.{slice_index_or, IfSome}
use Rattle.std.specs.Option.{option_or}
use Rattle.std.proofs.lemmas.List.{at_drop_more}
use Rattle.port_io.specs.Faults.{Rose}
use Rattle.channel_map.specs.Reading.{map_reading, local_reading}
use Rattle.channel_map.specs.declared.edge.Edge.{Edge}
use Rattle.channel_map.specs.declared.fault.MapFault.{MapFault}
use Rattle.server.specs.declared.worker.Worker.{Worker}
use Rattle.server.specs.declared.worker.WorkFault.{WorkFault}
use Rattle.server.specs.declared.worker.WorkFault.TheVariants as Work
use Rattle.serve_command.specs.Served.{AllHaveAnswered, IsOutOfMemory, NoneRose}
use Rattle.serve_command.specs.declared.served.Served.{Served}
use Rattle.askrened.specs.declared.status.Status.{Status}
use Rattle.askrened.specs.declared.status.Status.TheVariants.{Ok, Usage, MapRefused, ReadFault, WriteFault, NoMemory, CheckNo, SessionFull, Long, BindFault, AcceptFault}
use Rattle.askrened.specs.Form.{Bytes}
use Rattle.askrened.specs.Load.{Files, IsGood, IsKnownGood, IsLoadedAs, IsLoadFault, TellsFiles}
use Rattle.askrened.specs.Serving.{HaveAnsweredOver, IsUnserved, NoneFailed}
use Rattle.askrened.specs.ServingSteps.{LoadsNothing}
use Rattle.askrened.specs.Status.{IsGoodEnd, accept_of, accept_status, first_accept, served_status}
use Rattle.askrened.proofs.Loads.{loaded_is_good}

-- ---- the status of faults

status_loads_nothing : (first : Option ℕ) (faults : List WorkFault) → LoadsNothing (accept_status first faults)
status_loads_nothing (Some worker) faults = tt
status_loads_nothing None [] = tt
status_loads_nothing None (fault ∷ faults) = tt

pub served_loads_nothing : (faults : List WorkFault) → LoadsNothing (served_status faults)
served_loads_nothing faults = status_loads_nothing (first_accept faults) faults

status_not_bound : (first : Option ℕ) (faults : List WorkFault) → accept_status first faults ≢ BindFault
status_not_bound (Some worker) faults = λ same. cc
status_not_bound None [] = λ same. cc
status_not_bound None (fault ∷ faults) = λ same. cc

pub served_not_bound : (faults : List WorkFault) → served_status faults ≢ BindFault
served_not_bound faults = status_not_bound (first_accept faults) faults

no_accept : (faults : List WorkFault) → All IsOutOfMemory faults → first_accept faults ≡ None
no_accept [] all = refl
no_accept (Work.Accept worker ∷ faults) all = absurd (all 0 (Work.Accept worker) (omega arith))
no_accept (Work.NoMemory worker ∷ faults) all = no_accept faults (λ k d within. all (suc k) d (omega (arith, within)))

-- one turn of the loop over faults
module _ (faults : List WorkFault) (i : ℕ) (d : WorkFault) (within : i < length faults) (going : first_accept (drop i faults) ≡ first_accept faults) where
  at_fault : option_or (accept_of (get_or faults i d)) (first_accept (drop (i + 1) faults)) ≡ first_accept faults
  at_fault = sym (at_drop_more first_accept faults i d within) ∙ going

  pub accept_found : (worker : ℕ) → accept_of (get_or faults i d) ≡ Some worker → Some worker ≡ first_accept faults
  accept_found worker same = ap (λ first. option_or first (first_accept (drop (i + 1) faults))) (sym same) ∙ at_fault

  pub accept_later : accept_of (get_or faults i d) ≡ None → first_accept (drop (i + 1) faults) ≡ first_accept faults
  accept_later same = ap (λ first. option_or first (first_accept (drop (i + 1) faults))) (sym same) ∙ at_fault

status_ends_well : (faults : List WorkFault) → IsGoodEnd (accept_status None faults)
status_ends_well [] = tt
status_ends_well (fault ∷ faults) = tt

pub served_ends_well : (faults : List WorkFault) → All IsOutOfMemory faults → IsGoodEnd (served_status faults)
served_ends_well faults all = subst (λ first. IsGoodEnd (accept_status first faults)) (sym (no_accept faults all)) (status_ends_well faults)

-- no count rose from 0
module _ {A C : Type 0} (count : A → ℕ) where
  pub none_rose : (before after : List (Worker A C)) → All (λ w. count w.acceptor ≡ 0) before → length after ≡ length before → NoneFailed count after → NoneRose count before after
  none_rose before after fresh same none = λ k d within rose.
      none k d (omega (arith, same, within)) (subst (λ n. Rose n (count (slice_index_or after k d).acceptor)) (fresh k d within) rose)

-- ---- the files before it

tells_good : (files : Files) (map local : Option Bytes) (status : Status) → LoadsNothing status → IsGood map_reading files map → IsGood local_reading files local → TellsFiles files map local status
tells_good files map local Ok nothing one two = (one, two)
tells_good files map local NoMemory nothing one two = tt
tells_good files map local BindFault nothing one two = (one, two)
tells_good files map local (AcceptFault worker) nothing one two = (one, two)
tells_good files map local Usage nothing one two = absurd nothing
tells_good files map local (MapRefused is_local fault) nothing one two = absurd nothing
tells_good files map local ReadFault nothing one two = absurd nothing
tells_good files map local WriteFault nothing one two = absurd nothing
tells_good files map local (CheckNo line readable) nothing one two = absurd nothing
tells_good files map local SessionFull nothing one two = absurd nothing
tells_good files map local Long nothing one two = absurd nothing

pub bound_tells : (files : Files) (map local : Option Bytes) (channels locals : List Edge) (status : Status) → LoadsNothing status
    → IsLoadedAs map_reading files map channels → IsLoadedAs local_reading files local locals → TellsFiles files map local status
bound_tells files map local channels locals status nothing one two =
    tells_good files map local status nothing (loaded_is_good map_reading files map channels one) (loaded_is_good local_reading files local locals two)

pub nothing_is_no_usage : (status : Status) → LoadsNothing status → status ≢ Usage
nothing_is_no_usage status nothing same = subst LoadsNothing same nothing

pub nothing_reads_nothing : (status : Status) → LoadsNothing status → status ≢ ReadFault
nothing_reads_nothing status nothing same = subst LoadsNothing same nothing

pub nothing_refuses_nothing : (status : Status) (local : Bool) (fault : MapFault) → LoadsNothing status → status ≢ MapRefused local fault
nothing_refuses_nothing status local fault nothing same = subst LoadsNothing same nothing

-- a load that fails
pub load_fault_is_unserved : (status : Status) → IsLoadFault status → IsUnserved status
load_fault_is_unserved (MapRefused local fault) is = tt
load_fault_is_unserved ReadFault is = tt
load_fault_is_unserved NoMemory is = tt
load_fault_is_unserved Ok is = absurd is
load_fault_is_unserved Usage is = absurd is
load_fault_is_unserved WriteFault is = absurd is
load_fault_is_unserved (CheckNo line readable) is = absurd is
load_fault_is_unserved SessionFull is = absurd is
load_fault_is_unserved Long is = absurd is
load_fault_is_unserved BindFault is = absurd is
load_fault_is_unserved (AcceptFault worker) is = absurd is

pub load_fault_is_no_usage : (status : Status) → IsLoadFault status → status ≢ Usage
load_fault_is_no_usage status is same = subst IsLoadFault same is

pub load_fault_is_not_bound : (status : Status) → IsLoadFault status → status ≢ BindFault
load_fault_is_not_bound status is same = subst IsLoadFault same is

-- what the sessions have answered with, if any were served
module _ {L C : Type 0} (left written : L → Option (List ℕ)) (moments : C → Option (List ℕ)) where
  pub answered_over : {A D : Type 0} (files : Files) (map local : Option Bytes) (channels locals : List Edge) (served : Option (Served A D))
      → IsLoadedAs map_reading files map channels → IsLoadedAs local_reading files local locals
      → IfSome served (λ s. AllHaveAnswered left written moments channels locals s.journal s.sessions.items) → IfSome served (λ s. HaveAnsweredOver left written moments files map local s.journal s.sessions.items)
  answered_over files map local channels locals None one two all = tt
  answered_over files map local channels locals (Some s) one two all = record { channels = channels; locals = locals; map_loaded = one; local_loaded = two; answered = all }
