-- Routes are the reply to an ask for routes alone.
use Rattle.std.proofs.Common.{◌≡◌, ℕ, List, Bool, true, false, Some, None, Option, Result, Ok, Err, refl, sym, ◌∙◌}
use Rattle.std.specs.Prelude.{length, nat_lt, if◌then◌else◌}
use Rattle.std.specs.Option.{is_some}
use Rattle.std.proofs.lemmas.Bool.{false≢true}
use Rattle.plan_base.specs.declared.held.Reservation.{Reservation}
use Rattle.reservations.specs.Reservations.{are_too_many, with_reserved, set_free}
use Rattle.layer.specs.Layer.{LayerLists}
use Rattle.layer.specs.declared.records.Constraint.{Constraint}
use Rattle.askrene_command.specs.Reply.{is_routes}
use Rattle.askrene_command.specs.declared.command.Command.{Command}
use Rattle.askrene_command.specs.declared.command.Command.TheVariants.{CreateLayer, RemoveLayer, ListLayers, CreateChannel, UpdateChannel, InformChannel, BiasChannel, DisableNode, Age, Reserve, Unreserve, ListReservations, GetRoutes}
use Rattle.askrene_command.specs.declared.reply.Refusal.{Refusal}
use Rattle.askrene_command.specs.declared.reply.Refusal.TheVariants.{LayerExists, LayerUnknown, LayersFull, ReservationsFull}
use Rattle.askrene_command.specs.declared.reply.EventReply.{EventReply}
use Rattle.askrene_command.specs.declared.reply.EventReply.TheVariants.{Done, Refused}
use Rattle.askrene_state.specs.declared.layers.TheConstants.{LAYERS_MAX}
use Rattle.askrene_state.specs.Layers.{NamedLayers, layer_in, with_new_layer, without_layer}
use Rattle.askrene_state.specs.LayerSteps.{Outcome, applied_unless, change_found, change_step, inform_outcome, constraint_of, list_found, list_reply}
use Rattle.askrene_state.specs.ReservationSteps.{freed_or}
use Rattle.askrene_state.specs.RoutesStep.{AsksForRoutes}
use Rattle.askrene_state.specs.Step.{Service, reply_of}

-- one of two replies
either : {A : Type 0} (b : Bool) (x y : A × EventReply) → is_routes x.1 ≡ false → is_routes y.1 ≡ false → is_routes (if b then x else y).1 ≡ false
either true x y first second = first
either false x y first second = second

-- a change whose own reply is no routes
changes : (layers : NamedLayers) (name : List ℕ) (change : LayerLists → Outcome) → ((lists : LayerLists) → is_routes (change lists).reply ≡ false)
    → is_routes (change_step layers name change).1 ≡ false
unfolding change_step
changes layers name change none = by (layer_in layers name)
  where
    unless : (lists : LayerLists) (refuses : Option Refusal) → is_routes (applied_unless refuses (change lists) lists).1 ≡ false
    unless lists None = none lists
    unless lists (Some refusal) = refl

    by : (found : Option LayerLists) → is_routes (change_found layers name change found).1 ≡ false
    by None = refl
    by (Some lists) = unless lists (change lists).refusal

informs : (learned : Option Constraint) (name : List ℕ) (lists : LayerLists) → is_routes (inform_outcome learned name lists).reply ≡ false
informs None name lists = refl
informs (Some constraint) name lists = refl

lists_one : (name : List ℕ) (found : Option LayerLists) → is_routes (list_found name found) ≡ false
lists_one name None = refl
lists_one name (Some lists) = refl

lists : (layers : NamedLayers) (name : Option (List ℕ)) → is_routes (list_reply layers name) ≡ false
lists layers None = refl
lists layers (Some name) = lists_one name (layer_in layers name)

frees : (list : List Reservation) (freed : Result (List Reservation) ℕ) → is_routes (freed_or list freed).1 ≡ false
frees list (Ok left) = refl
frees list (Err index) = refl

never : (command : Command) (reply : EventReply) → is_routes reply ≡ false → is_routes reply ≡ true → AsksForRoutes command
never command reply none is = absurd (false≢true (sym none ∙ is))

pub only_asks : (service : Service) (caller moment : ℕ) (command : Command) → is_routes (reply_of service caller moment command) ≡ true → AsksForRoutes command
only_asks service caller moment (CreateLayer layer) is =
    let few = nat_lt (length service.layers) LAYERS_MAX in
    let made = either few (with_new_layer service.layers layer, Done) (service.layers, Refused (LayersFull (length service.layers))) refl refl in
    never _ _ (either (is_some (layer_in service.layers layer)) (service.layers, Refused (LayerExists layer)) (if few then (with_new_layer service.layers layer, Done) else (service.layers, Refused (LayersFull (length service.layers)))) refl made) is
only_asks service caller moment (RemoveLayer layer) is =
    never _ _ (either (is_some (layer_in service.layers layer)) (without_layer service.layers layer, Done) (service.layers, Refused (LayerUnknown layer)) refl refl) is
only_asks service caller moment (ListLayers layer) is = never _ _ (lists service.layers layer) is
only_asks service caller moment (CreateChannel layer channel) is = never _ _ (changes service.layers layer _ (λ lists. refl)) is
only_asks service caller moment (UpdateChannel layer change) is = never _ _ (changes service.layers layer _ (λ lists. refl)) is
only_asks service caller moment (InformChannel layer dir amount kind) is = never _ _ (changes service.layers layer _ (informs (constraint_of dir amount moment kind) layer)) is
only_asks service caller moment (BiasChannel layer bias) is = never _ _ (changes service.layers layer _ (λ lists. refl)) is
only_asks service caller moment (DisableNode layer node) is = never _ _ (changes service.layers layer _ (λ lists. refl)) is
only_asks service caller moment (Age layer cutoff) is = never _ _ (changes service.layers layer _ (λ lists. refl)) is
only_asks service caller moment (Reserve path) is =
    never _ _ (either (are_too_many service.reservations path) (service.reservations, Refused (ReservationsFull (length service.reservations))) (with_reserved service.reservations path moment caller, Done) refl refl) is
only_asks service caller moment (Unreserve path) is = never _ _ (frees service.reservations (set_free path 0 service.reservations)) is
only_asks service caller moment ListReservations is = absurd (false≢true is)
only_asks service caller moment (GetRoutes ask) is = record { ask = ask; is = refl }
