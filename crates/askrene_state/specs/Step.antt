-- One command on the state: the state after it, and the reply to its caller. A refused command changes nothing.
use Rattle.std.specs.Prelude.{ℕ, List, []}
use Rattle.plan_base.specs.declared.held.Reservation.{Reservation}
use Rattle.askrene_command.specs.declared.command.Command.{Command}
use Rattle.askrene_command.specs.declared.command.Command.TheVariants.{CreateLayer, RemoveLayer, ListLayers, CreateChannel, UpdateChannel, InformChannel, BiasChannel, DisableNode, Age, Reserve, Unreserve, ListReservations, GetRoutes}
use Rattle.askrene_command.specs.declared.reply.EventReply.{EventReply}
use Rattle.askrene_command.specs.declared.reply.EventReply.TheVariants.{Reservations}
use Rattle.askrene_state.specs.Layers.{NamedLayers}
use Rattle.askrene_state.specs.LayerSteps.{no_layers, create_step, remove_step, list_reply, change_step, create_channel_outcome, update_outcome, inform_outcome, bias_outcome, disable_outcome, age_outcome, constraint_of}
use Rattle.askrene_state.specs.ReservationSteps.{reserve_step, unreserve_step}
use Rattle.askrene_state.specs.RoutesStep.{routes_reply}

-- the layers, by name, in order of creation, and the reservations, in the order in which they were made
pub record Service : Type 0 where
  pub layers : NamedLayers
  pub reservations : List Reservation

-- before any command
abbrev pub no_service : Service
no_service = record { layers = no_layers; reservations = [] }

-- a step of the layers leaves the reservations, and a step of the reservations leaves the layers
abbrev pub on_layers : Service → NamedLayers × EventReply → Service × EventReply
on_layers service changed = (record { layers = changed.0; reservations = service.reservations }, changed.1)

abbrev pub on_reservations : Service → List Reservation × EventReply → Service × EventReply
on_reservations service changed = (record { layers = service.layers; reservations = changed.0 }, changed.1)

abbrev pub step_of : Service → ℕ → ℕ → Command → Service × EventReply
step_of service caller moment (CreateLayer layer) = on_layers service (create_step service.layers layer)
step_of service caller moment (RemoveLayer layer) = on_layers service (remove_step service.layers layer)
step_of service caller moment (ListLayers layer) = (service, list_reply service.layers layer)
step_of service caller moment (CreateChannel layer channel) = on_layers service (change_step service.layers layer (create_channel_outcome channel layer))
step_of service caller moment (UpdateChannel layer change) = on_layers service (change_step service.layers layer (update_outcome change layer))
step_of service caller moment (InformChannel layer dir amount kind) = on_layers service (change_step service.layers layer (inform_outcome (constraint_of dir amount moment kind) layer))
step_of service caller moment (BiasChannel layer bias) = on_layers service (change_step service.layers layer (bias_outcome bias layer))
step_of service caller moment (DisableNode layer node) = on_layers service (change_step service.layers layer (disable_outcome node layer))
step_of service caller moment (Age layer cutoff) = on_layers service (change_step service.layers layer (age_outcome cutoff layer))
step_of service caller moment (Reserve path) = on_reservations service (reserve_step service.reservations caller moment path)
step_of service caller moment (Unreserve path) = on_reservations service (unreserve_step service.reservations path)
step_of service caller moment ListReservations = (service, Reservations moment service.reservations)
step_of service caller moment (GetRoutes ask) = (service, routes_reply service.layers service.reservations ask)

abbrev pub next_of : Service → ℕ → ℕ → Command → Service
next_of service caller moment command = (step_of service caller moment command).0

abbrev pub reply_of : Service → ℕ → ℕ → Command → EventReply
reply_of service caller moment command = (step_of service caller moment command).1
