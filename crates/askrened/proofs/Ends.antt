-- When a run ends well, and a session that could not begin.
use Rattle.std.proofs.Common.{◌≡◌, ◌≢◌, ◌≤◌, ℕ, List, [], length, Some, None, Option, Bool, true, false, refl, subst, inl, inr, arith}
use Rattle.std.specs.Prelude.{IfSome, IsSomeAnd}
use Rattle.port_io.specs.declared.session_end.SessionEnd.{SessionEnd}
use Rattle.port_io.specs.declared.session_end.SessionEnd.TheVariants as Session
use Rattle.check_command.specs.declared.end.CheckEnd.{CheckEnd}
use Rattle.check_command.specs.declared.end.CheckEnd.TheVariants as Checks
use Rattle.check_command.specs.declared.command.TheConstants.{TEXT_MAX}
use Rattle.gen_command.specs.declared.end.GenEnd.{GenEnd}
use Rattle.gen_command.specs.declared.end.GenEnd.TheVariants as Gen
use Rattle.gen_command.specs.declared.size.Size.{Size}
use Rattle.session.specs.Answers.{Answers}
use Rattle.session.specs.Caller.{only_caller}
use Rattle.session.specs.Outcome.{SessionState}
use Rattle.session.specs.Session.{IsServable, EndsWell}
use Rattle.channel_map.specs.declared.edge.Edge.{Edge}
use Rattle.session.proofs.Going.{told_none}
use Rattle.askrened.specs.declared.status.Status.{Status}
use Rattle.askrened.specs.declared.status.Status.TheVariants.{Ok, Usage, MapRefused, ReadFault, WriteFault, NoMemory, CheckNo, SessionFull, Long, BindFault, AcceptFault}
use Rattle.channel_map.specs.declared.fault.MapFault.{MapFault}
use Rattle.channel_map.specs.declared.fault.MapFault.TheVariants as Fault
use Rattle.channel_map.specs.Reading.{Reading, map_reading, local_reading, IsMapFault}
use Rattle.askrened.specs.Form.{Bytes}
use Rattle.askrened.specs.Load.{Files, Reader, IsAccepted, IsGood, IsGoodFile, IsKnownGood, IsLoadedAs, IsFaultOf, IsRefusedFor, IsLoadFault, TellsFiles}
use Rattle.askrened.specs.Run.{RunSpan, IsServing, IsServed, IsAsking, IsAsk, CheckEndsWell, IsCheckable, IsGenOf, IsGenerating}
use Rattle.askrened.proofs.Loads.{loaded_is_good}
use Rattle.askrened.specs.Status.{IsGoodEnd, session_status, check_status, gen_status}

-- no memory for the journal
pub no_session : (channels locals : List Edge) (input output clock : Option (List ℕ))
    → IsServing channels locals Session.NoMemory (record { input = input; rest = input; output = output; written = output; clock = clock; ticked = clock })
no_session channels locals input output clock =
    let start : SessionState = record { log = []; clock = clock } in
    record { log = []; session = told_none (Answers channels locals) only_caller input start output }

-- no memory before a session
pub no_memory_is_ask : (files : Files) (map local : Option Bytes) (input output clock : Option (List ℕ))
    → IsAsk files map local NoMemory (record { input = input; rest = input; output = output; written = output; clock = clock; ticked = clock })
no_memory_is_ask files map local input output clock = inl (refl, refl, refl)

status_ends_well : (end : SessionEnd) → EndsWell end → IsGoodEnd (session_status end)
status_ends_well Session.Done well = tt
status_ends_well Session.NoMemory well = tt
status_ends_well Session.ReadFault well = absurd well
status_ends_well Session.WriteFault well = absurd well
status_ends_well Session.Full well = absurd well
status_ends_well Session.Long well = absurd well

pub ask_ends_well : (told : Option (List ℕ)) (Reads Writes : Type 0) (end : SessionEnd)
    → IfSome told (λ bytes. IsServable bytes → (Reads → ⊥) → (Writes → ⊥) → EndsWell end)
    → IfSome told (λ bytes. IsServable bytes → (Reads → ⊥) → (Writes → ⊥) → IsGoodEnd (session_status end))
ask_ends_well None Reads Writes end well = tt
ask_ends_well (Some bytes) Reads Writes end well = λ servable reads writes. status_ends_well end (well servable reads writes)

check_end_well : (end : CheckEnd) (Reads Writes : Type 0) → (end ≡ Checks.ReadFault → Reads) → (end ≡ Checks.WriteFault → Writes) → end ≢ Checks.Long
    → (Reads → ⊥) → (Writes → ⊥) → CheckEndsWell (check_status end)
check_end_well Checks.Shown Reads Writes reads writes short no_read no_write = tt
check_end_well (Checks.NotShown line readable) Reads Writes reads writes short no_read no_write = tt
check_end_well Checks.NoMemory Reads Writes reads writes short no_read no_write = tt
check_end_well Checks.ReadFault Reads Writes reads writes short no_read no_write = no_read (reads refl)
check_end_well Checks.WriteFault Reads Writes reads writes short no_read no_write = no_write (writes refl)
check_end_well Checks.Long Reads Writes reads writes short no_read no_write = short refl

pub check_ends_well : (told : Option (List ℕ)) (Reads Writes : Type 0) (end : CheckEnd) → (end ≡ Checks.ReadFault → Reads) → (end ≡ Checks.WriteFault → Writes)
    → (IsSomeAnd told (λ bytes. length bytes ≤ TEXT_MAX) → end ≢ Checks.Long)
    → IfSome told (λ bytes. IsCheckable bytes → (Reads → ⊥) → (Writes → ⊥) → CheckEndsWell (check_status end))
check_ends_well None Reads Writes end reads writes short = tt
check_ends_well (Some bytes) Reads Writes end reads writes short = λ few no_read no_write.
    check_end_well end Reads Writes reads writes (short few) no_read no_write

pub check_is_no_usage : (end : CheckEnd) → check_status end ≢ Usage
check_is_no_usage Checks.Shown = λ same. cc
check_is_no_usage (Checks.NotShown line readable) = λ same. cc
check_is_no_usage Checks.NoMemory = λ same. cc
check_is_no_usage Checks.ReadFault = λ same. cc
check_is_no_usage Checks.WriteFault = λ same. cc
check_is_no_usage Checks.Long = λ same. cc

pub check_is_never_bound : (end : CheckEnd) → (check_status end ≢ BindFault) × ((worker : ℕ) → check_status end ≢ AcceptFault worker)
check_is_never_bound Checks.Shown = (λ same. cc, λ worker same. cc)
check_is_never_bound (Checks.NotShown line readable) = (λ same. cc, λ worker same. cc)
check_is_never_bound Checks.NoMemory = (λ same. cc, λ worker same. cc)
check_is_never_bound Checks.ReadFault = (λ same. cc, λ worker same. cc)
check_is_never_bound Checks.WriteFault = (λ same. cc, λ worker same. cc)
check_is_never_bound Checks.Long = (λ same. cc, λ worker same. cc)

-- no memory is a good end
pub no_session_ends_well : (told : Option (List ℕ)) (Reads Writes : Type 0) → IfSome told (λ bytes. IsServable bytes → (Reads → ⊥) → (Writes → ⊥) → IsGoodEnd NoMemory)
no_session_ends_well None Reads Writes = tt
no_session_ends_well (Some bytes) Reads Writes = λ servable reads writes. tt

pub check_loads_nothing : (end : CheckEnd) (local : Bool) (fault : MapFault) → check_status end ≢ MapRefused local fault
check_loads_nothing Checks.Shown local fault = λ same. cc
check_loads_nothing (Checks.NotShown line readable) local fault = λ same. cc
check_loads_nothing Checks.NoMemory local fault = λ same. cc
check_loads_nothing Checks.ReadFault local fault = λ same. cc
check_loads_nothing Checks.WriteFault local fault = λ same. cc
check_loads_nothing Checks.Long local fault = λ same. cc

-- the status of a workload
pub gen_is_generating : (end : GenEnd) (span : RunSpan) (size : Size) → IsGenOf end size span → IsGenerating (gen_status end) span size
gen_is_generating Gen.Done span size is = is
gen_is_generating Gen.WriteFault span size is = is
gen_is_generating Gen.NoMemory span size is = is

pub gen_ends_well : (end : GenEnd) (Writes : Type 0) → (end ≡ Gen.WriteFault → Writes) → (Writes → ⊥) → IsGoodEnd (gen_status end)
gen_ends_well Gen.Done Writes writes no_write = tt
gen_ends_well Gen.NoMemory Writes writes no_write = tt
gen_ends_well Gen.WriteFault Writes writes no_write = no_write (writes refl)

pub gen_is_no_usage : (end : GenEnd) → gen_status end ≢ Usage
gen_is_no_usage Gen.Done = λ same. cc
gen_is_no_usage Gen.WriteFault = λ same. cc
gen_is_no_usage Gen.NoMemory = λ same. cc

pub gen_is_never_bound : (end : GenEnd) → (gen_status end ≢ BindFault) × ((worker : ℕ) → gen_status end ≢ AcceptFault worker)
gen_is_never_bound Gen.Done = (λ same. cc, λ worker same. cc)
gen_is_never_bound Gen.WriteFault = (λ same. cc, λ worker same. cc)
gen_is_never_bound Gen.NoMemory = (λ same. cc, λ worker same. cc)

pub gen_reads_nothing : (end : GenEnd) → gen_status end ≢ ReadFault
gen_reads_nothing Gen.Done = λ same. cc
gen_reads_nothing Gen.WriteFault = λ same. cc
gen_reads_nothing Gen.NoMemory = λ same. cc

pub gen_loads_nothing : (end : GenEnd) (local : Bool) (fault : MapFault) → gen_status end ≢ MapRefused local fault
gen_loads_nothing Gen.Done local fault = λ same. cc
gen_loads_nothing Gen.WriteFault local fault = λ same. cc
gen_loads_nothing Gen.NoMemory local fault = λ same. cc

-- a session over the files that were loaded
served_asks : (files : Files) (map local : Option Bytes) (channels locals : List Edge) (status : Status) (span : RunSpan) → IsServed channels locals status span
    → IsAsking files map local status span → IsAsk files map local status span × (status ≢ Usage)
served_asks files map local channels locals Ok span served asking = (asking, λ same. cc)
served_asks files map local channels locals ReadFault span served asking = (inr asking, λ same. cc)
served_asks files map local channels locals WriteFault span served asking = (asking, λ same. cc)
served_asks files map local channels locals NoMemory span served asking = (inr asking, λ same. cc)
served_asks files map local channels locals SessionFull span served asking = (asking, λ same. cc)
served_asks files map local channels locals Long span served asking = (asking, λ same. cc)
served_asks files map local channels locals Usage span served asking = absurd served
served_asks files map local channels locals (MapRefused is_local fault) span served asking = absurd served
served_asks files map local channels locals (CheckNo line readable) span served asking = absurd served
served_asks files map local channels locals BindFault span served asking = absurd served
served_asks files map local channels locals (AcceptFault worker) span served asking = absurd served

pub served_is_ask : (files : Files) (map local : Option Bytes) (channels locals : List Edge) (status : Status) (span : RunSpan) → IsServed channels locals status span
    → IsLoadedAs map_reading files map channels → IsLoadedAs local_reading files local locals → IsAsk files map local status span × (status ≢ Usage)
served_is_ask files map local channels locals status span served one two = served_asks files map local channels locals status span served
    (record { channels = channels; locals = locals; map_loaded = one; local_loaded = two; served = served })

good_tells : (files : Files) (map local : Option Bytes) (channels locals : List Edge) (status : Status) (span : RunSpan) → IsServed channels locals status span → IsGood map_reading files map → IsGood local_reading files local
    → TellsFiles files map local status
good_tells files map local channels locals Ok span served one two = (one, two)
good_tells files map local channels locals ReadFault span served one two = tt
good_tells files map local channels locals WriteFault span served one two = (one, two)
good_tells files map local channels locals NoMemory span served one two = tt
good_tells files map local channels locals SessionFull span served one two = (one, two)
good_tells files map local channels locals Long span served one two = (one, two)
good_tells files map local channels locals Usage span served one two = absurd served
good_tells files map local channels locals (MapRefused is_local fault) span served one two = absurd served
good_tells files map local channels locals (CheckNo line readable) span served one two = absurd served
good_tells files map local channels locals BindFault span served one two = absurd served
good_tells files map local channels locals (AcceptFault worker) span served one two = absurd served

pub served_tells : (files : Files) (map local : Option Bytes) (channels locals : List Edge) (status : Status) (span : RunSpan) → IsServed channels locals status span
    → IsLoadedAs map_reading files map channels → IsLoadedAs local_reading files local locals → TellsFiles files map local status
served_tells files map local channels locals status span served one two =
    good_tells files map local channels locals status span served (loaded_is_good map_reading files map channels one) (loaded_is_good local_reading files local locals two)

pub served_ends_well : (told : Option (List ℕ)) (Opens Reads Writes Well : Type 0) → IfSome told (λ bytes. IsServable bytes → (Reads → ⊥) → (Writes → ⊥) → Well)
    → IfSome told (λ bytes. IsServable bytes → (Opens → ⊥) → (Reads → ⊥) → (Writes → ⊥) → Well)
served_ends_well None Opens Reads Writes Well well = tt
served_ends_well (Some bytes) Opens Reads Writes Well well = λ servable opens reads writes. well servable reads writes

-- a load that fails
pub load_fault_is_ask : (files : Files) (map local : Option Bytes) (status : Status) (input output clock : Option (List ℕ)) → IsLoadFault status
    → IsAsk files map local status (record { input = input; rest = input; output = output; written = output; clock = clock; ticked = clock }) × (status ≢ Usage)
load_fault_is_ask files map local (MapRefused is_local fault) input output clock is = ((refl, refl, refl), λ same. cc)
load_fault_is_ask files map local ReadFault input output clock is = (inl (refl, refl, refl), λ same. cc)
load_fault_is_ask files map local NoMemory input output clock is = (inl (refl, refl, refl), λ same. cc)
load_fault_is_ask files map local Ok input output clock is = absurd is
load_fault_is_ask files map local Usage input output clock is = absurd is
load_fault_is_ask files map local WriteFault input output clock is = absurd is
load_fault_is_ask files map local (CheckNo line readable) input output clock is = absurd is
load_fault_is_ask files map local SessionFull input output clock is = absurd is
load_fault_is_ask files map local Long input output clock is = absurd is
load_fault_is_ask files map local BindFault input output clock is = absurd is
load_fault_is_ask files map local (AcceptFault worker) input output clock is = absurd is

-- a file that is known to be good is not refused
fits_not : (reading : Reading) (fault : MapFault) → IsAccepted reading → IsMapFault fault reading → fault ≢ Fault.NoMemory → ⊥
fits_not reading Fault.NotJson good fits known = let bad = subst IsAccepted fits good in absurd bad
fits_not reading Fault.NoChannels good fits known = let bad = subst IsAccepted fits good in absurd bad
fits_not reading (Fault.Entry index field) good fits known = let bad = subst IsAccepted fits good in absurd bad
fits_not reading (Fault.Twice dir) good fits known = let bad = subst IsAccepted fits good in absurd bad
fits_not reading (Fault.TooMany directions nodes) good fits known = let bad = subst IsAccepted fits good in absurd bad
fits_not reading Fault.Long good fits known = absurd fits
fits_not reading Fault.NoMemory good fits known = absurd (known refl)

fault_not : (reader : Reader) (bytes : Bytes) (fault : MapFault) → IsGoodFile reader bytes → IsFaultOf reader fault bytes → fault ≢ Fault.NoMemory → ⊥
fault_not reader bytes Fault.Long good fits known = let few = good.0 in omega (arith, few, fits)
fault_not reader bytes Fault.NotJson good fits known = fits_not (reader bytes) Fault.NotJson good.1 fits.1 known
fault_not reader bytes Fault.NoChannels good fits known = fits_not (reader bytes) Fault.NoChannels good.1 fits.1 known
fault_not reader bytes (Fault.Entry index field) good fits known = fits_not (reader bytes) (Fault.Entry index field) good.1 fits.1 known
fault_not reader bytes (Fault.Twice dir) good fits known = fits_not (reader bytes) (Fault.Twice dir) good.1 fits.1 known
fault_not reader bytes (Fault.TooMany directions nodes) good fits known = fits_not (reader bytes) (Fault.TooMany directions nodes) good.1 fits.1 known
fault_not reader bytes Fault.NoMemory good fits known = absurd (known refl)

known_not : (reader : Reader) (known : Option Bytes) (fault : MapFault) → IsSomeAnd known (IsGoodFile reader) → fault ≢ Fault.NoMemory → IfSome known (IsFaultOf reader fault) → ⊥
known_not reader None fault good other refused = good
known_not reader (Some bytes) fault good other refused = fault_not reader bytes fault good refused other

good_is_not_refused : (reader : Reader) (files : Files) (name : Option Bytes) (fault : MapFault) → IsKnownGood reader files name → IsRefusedFor reader files name fault → ⊥
good_is_not_refused reader files None fault good refused = refused
good_is_not_refused reader files (Some name) fault good refused = known_not reader (files name) fault good refused.0 refused.1

pub load_ends_well : (files : Files) (map local : Option Bytes) (status : Status) (Opens : Type 0) → IsLoadFault status → TellsFiles files map local status → (status ≡ ReadFault → Opens)
    → IsKnownGood map_reading files map → IsKnownGood local_reading files local → (Opens → ⊥) → IsGoodEnd status
load_ends_well files map local (MapRefused false fault) Opens is tells opens one two closed = absurd (good_is_not_refused map_reading files map fault one tells)
load_ends_well files map local (MapRefused true fault) Opens is tells opens one two closed = absurd (good_is_not_refused local_reading files local fault two tells.1)
load_ends_well files map local ReadFault Opens is tells opens one two closed = absurd (closed (opens refl))
load_ends_well files map local NoMemory Opens is tells opens one two closed = tt
load_ends_well files map local Ok Opens is tells opens one two closed = absurd is
load_ends_well files map local Usage Opens is tells opens one two closed = absurd is
load_ends_well files map local WriteFault Opens is tells opens one two closed = absurd is
load_ends_well files map local (CheckNo line readable) Opens is tells opens one two closed = absurd is
load_ends_well files map local SessionFull Opens is tells opens one two closed = absurd is
load_ends_well files map local Long Opens is tells opens one two closed = absurd is
load_ends_well files map local BindFault Opens is tells opens one two closed = absurd is
load_ends_well files map local (AcceptFault worker) Opens is tells opens one two closed = absurd is

pub load_fault_ends_well : (files : Files) (map local : Option Bytes) (status : Status) (told : Option (List ℕ)) (Opens Reads Writes : Type 0) → IsLoadFault status
    → TellsFiles files map local status → (status ≡ ReadFault → Opens) → IsKnownGood map_reading files map → IsKnownGood local_reading files local
    → IfSome told (λ bytes. IsServable bytes → (Opens → ⊥) → (Reads → ⊥) → (Writes → ⊥) → IsGoodEnd status)
load_fault_ends_well files map local status None Opens Reads Writes is tells opens one two = tt
load_fault_ends_well files map local status (Some bytes) Opens Reads Writes is tells opens one two = λ servable no_open no_read no_write.
    load_ends_well files map local status Opens is tells opens one two no_open
