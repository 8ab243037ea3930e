-- A refused command changes nothing.
use Rattle.std.proofs.Common.{◌≡◌, ℕ, List, Bool, true, false, Some, None, Option, Result, Ok, Err, refl, ap}
use Rattle.std.specs.Prelude.{length, nat_lt, if◌then◌else◌}
use Rattle.std.specs.Option.{is_some}
use Rattle.std.proofs.lemmas.Map.Steps.{set_value_same}
use Rattle.plan_base.specs.declared.held.Reservation.{Reservation}
use Rattle.reservations.specs.Reservations.{are_too_many, with_reserved, set_free}
use Rattle.layer.specs.Layer.{LayerLists}
use Rattle.layer.specs.declared.records.Constraint.{Constraint}
use Rattle.askrene_command.specs.declared.command.Command.{Command}
use Rattle.askrene_command.specs.declared.command.Command.TheVariants.{CreateLayer, RemoveLayer, ListLayers, CreateChannel, UpdateChannel, InformChannel, BiasChannel, DisableNode, Age, Reserve, Unreserve, ListReservations, GetRoutes}
use Rattle.askrene_command.specs.declared.reply.Refusal.{Refusal}
use Rattle.askrene_command.specs.declared.reply.Refusal.TheVariants.{LayerExists, LayerUnknown, LayersFull, ReservationsFull}
use Rattle.askrene_command.specs.declared.reply.EventReply.{EventReply}
use Rattle.askrene_command.specs.declared.reply.EventReply.TheVariants.{Done, Refused}
use Rattle.askrene_state.specs.declared.layers.TheConstants.{LAYERS_MAX}
use Rattle.askrene_state.specs.Layers.{NamedLayers, has_name, layer_in, with_lists, with_new_layer, without_layer}
use Rattle.askrene_state.specs.LayerSteps.{Outcome, applied_unless, change_found, change_step, inform_outcome, constraint_of}
use Rattle.askrene_state.specs.ReservationSteps.{freed_or}
use Rattle.askrene_state.specs.Step.{Service, next_of, reply_of}

-- a choice between a step that succeeds and a refusal
abbrev chosen : {A : Type 0} → Bool → A → A × EventReply → Refusal → A × EventReply
chosen refuses old done refusal = if refuses then (old, Refused refusal) else done

chosen_keeps : {A : Type 0} → (refuses : Bool) (old : A) (done : A × EventReply) (x refusal : Refusal) → (done.1 ≡ Refused refusal → done.0 ≡ old)
    → (chosen refuses old done x).1 ≡ Refused refusal → (chosen refuses old done x).0 ≡ old
chosen_keeps true old done x refusal rest is = refl
chosen_keeps false old done x refusal rest is = rest is

-- a choice between a refusal and a step that succeeds
abbrev allowed : {A : Type 0} → Bool → A → A → Refusal → A × EventReply
allowed allows old new refusal = if allows then (new, Done) else (old, Refused refusal)

allowed_keeps : {A : Type 0} → (allows : Bool) (old new : A) (x refusal : Refusal) → (allowed allows old new x).1 ≡ Refused refusal → (allowed allows old new x).0 ≡ old
allowed_keeps true old new x refusal is = cc
allowed_keeps false old new x refusal is = refl

-- a change whose own reply is no refusal
change_keeps : (layers : NamedLayers) (name : List ℕ) (change : LayerLists → Outcome) (refusal : Refusal) → ((lists : LayerLists) → (change lists).reply ≡ Refused refusal → ⊥)
    → (change_step layers name change).1 ≡ Refused refusal → (change_step layers name change).0 ≡ layers
unfolding change_step
change_keeps layers name change refusal never is = by (layer_in layers name) refl is
  where
    unless : (lists : LayerLists) (refuses : Option Refusal) → layer_in layers name ≡ Some lists → (applied_unless refuses (change lists) lists).1 ≡ Refused refusal
        → with_lists layers name (applied_unless refuses (change lists) lists).0 ≡ layers
    unless lists None at is = absurd (never lists is)
    unless lists (Some r) at is = set_value_same (has_name name) layers lists at

    by : (found : Option LayerLists) → layer_in layers name ≡ found → (change_found layers name change found).1 ≡ Refused refusal → (change_found layers name change found).0 ≡ layers
    by None at is = refl
    by (Some lists) at is = unless lists (change lists).refusal at is

informs : (learned : Option Constraint) (name : List ℕ) (refusal : Refusal) (lists : LayerLists) → (inform_outcome learned name lists).reply ≡ Refused refusal → ⊥
informs None name refusal lists is = cc
informs (Some constraint) name refusal lists is = cc

freed_keeps : (list : List Reservation) (freed : Result (List Reservation) ℕ) (refusal : Refusal) → (freed_or list freed).1 ≡ Refused refusal → (freed_or list freed).0 ≡ list
freed_keeps list (Ok left) refusal is = cc
freed_keeps list (Err index) refusal is = refl

abbrev with_layers : Service → NamedLayers → Service
with_layers service layers = record { layers = layers; reservations = service.reservations }

abbrev with_reservations : Service → List Reservation → Service
with_reservations service list = record { layers = service.layers; reservations = list }

pub refused_keeps : (service : Service) (caller moment : ℕ) (command : Command) (refusal : Refusal) → reply_of service caller moment command ≡ Refused refusal
    → next_of service caller moment command ≡ service
refused_keeps service caller moment (CreateLayer layer) refusal is =
    let new = with_new_layer service.layers layer in
    let few = nat_lt (length service.layers) LAYERS_MAX in
    ap (with_layers service) (chosen_keeps (is_some (layer_in service.layers layer)) service.layers (allowed few service.layers new (LayersFull (length service.layers))) (LayerExists layer) refusal
    (allowed_keeps few service.layers new (LayersFull (length service.layers)) refusal) is)
refused_keeps service caller moment (RemoveLayer layer) refusal is =
    ap (with_layers service) (allowed_keeps (is_some (layer_in service.layers layer)) service.layers (without_layer service.layers layer) (LayerUnknown layer) refusal is)
refused_keeps service caller moment (ListLayers layer) refusal is = refl
refused_keeps service caller moment (CreateChannel layer channel) refusal is = ap (with_layers service) (change_keeps service.layers layer _ refusal (λ lists r. cc) is)
refused_keeps service caller moment (UpdateChannel layer change) refusal is = ap (with_layers service) (change_keeps service.layers layer _ refusal (λ lists r. cc) is)
refused_keeps service caller moment (InformChannel layer dir amount kind) refusal is =
    ap (with_layers service) (change_keeps service.layers layer _ refusal (informs (constraint_of dir amount moment kind) layer refusal) is)
refused_keeps service caller moment (BiasChannel layer bias) refusal is = ap (with_layers service) (change_keeps service.layers layer _ refusal (λ lists r. cc) is)
refused_keeps service caller moment (DisableNode layer node) refusal is = ap (with_layers service) (change_keeps service.layers layer _ refusal (λ lists r. cc) is)
refused_keeps service caller moment (Age layer cutoff) refusal is = ap (with_layers service) (change_keeps service.layers layer _ refusal (λ lists r. cc) is)
refused_keeps service caller moment (Reserve path) refusal is =
    ap (with_reservations service) (chosen_keeps (are_too_many service.reservations path) service.reservations (with_reserved service.reservations path moment caller, Done)
    (ReservationsFull (length service.reservations)) refusal (λ done. cc) is)
refused_keeps service caller moment (Unreserve path) refusal is = ap (with_reservations service) (freed_keeps service.reservations (set_free path 0 service.reservations) refusal is)
refused_keeps service caller moment ListReservations refusal is = refl
refused_keeps service caller moment (GetRoutes ask) refusal is = refl
