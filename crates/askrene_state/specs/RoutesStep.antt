-- The reply to an ask for routes: what they are computed from.
use Rattle.std.specs.Prelude.{◌≡◌, ℕ, List, [], ◌∷◌, Option, Some, None, Result, Ok, Err}
use Rattle.plan_base.specs.declared.held.Reservation.{Reservation}
use Rattle.layer.specs.Layer.{LayerLists}
use Rattle.layer.specs.Ask.{named_layers}
use Rattle.layer.specs.declared.ask.Ask.{Ask}
use Rattle.askrene_command.specs.declared.command.Command.{Command}
use Rattle.askrene_command.specs.declared.command.Command.TheVariants.{GetRoutes}
use Rattle.askrene_command.specs.declared.reply.Refusal.TheVariants.{LayerUnknown}
use Rattle.askrene_command.specs.declared.reply.EventReply.{EventReply}
use Rattle.askrene_command.specs.declared.reply.EventReply.TheVariants.{Routes, Refused}
use Rattle.askrene_state.specs.Layers.{NamedLayers, layer_in}

-- a layer before later ones, or the first missing name
abbrev pub before_later : List ℕ → Option LayerLists → Result (List LayerLists) (List ℕ) → Result (List LayerLists) (List ℕ)
before_later name None later = Err name
before_later name (Some lists) (Ok layers) = Ok (lists ∷ layers)
before_later name (Some lists) (Err missing) = Err missing

-- the layers with these names, in this order, or the first name that no layer has
abbrev pub asked_layers : NamedLayers → List (List ℕ) → Result (List LayerLists) (List ℕ)
asked_layers layers [] = Ok []
asked_layers layers (name ∷ names) = before_later name (layer_in layers name) (asked_layers layers names)

abbrev pub routes_or : Ask → List Reservation → Result (List LayerLists) (List ℕ) → EventReply
routes_or ask held (Ok layers) = Routes (record { ask = ask; layers = layers; held = held })
routes_or ask held (Err missing) = Refused (LayerUnknown missing)

-- the ask, the layers that it names and all reservations; the first name that no layer has is refused
abbrev pub routes_reply : NamedLayers → List Reservation → Ask → EventReply
routes_reply layers held ask = routes_or ask held (asked_layers layers (named_layers ask.layers))

-- the command is an ask for routes
pub record AsksForRoutes (command : Command) : Type 0 where
  pub ask : Ask
  pub is : command ≡ GetRoutes ask
