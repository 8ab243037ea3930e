-- The content of the reply to the entry at a position of the history: its result, or its refusal.
use Rattle.std.specs.Prelude.{ℕ, ℤ, List, [], ◌∷◌, pos, Option, Some, None, codes}
use Rattle.serde_json.specs.Data.{Data, Members, string, object, member, no_members}
use Rattle.rpc_lines.specs.Reply.{Content, with_result, with_error}
use Rattle.layer.specs.declared.records.Constraint.{Constraint}
use Rattle.askrene_command.specs.declared.reply.Listed.{Listed}
use Rattle.askrene_command.specs.declared.reply.Refusal.{Refusal}
use Rattle.askrene_command.specs.declared.reply.Refusal.TheVariants.{LayerExists, LayerUnknown, LayersFull, ChannelExists, LayerFull, NotReserved, ReservationsFull}
use Rattle.askrene_command.specs.declared.reply.EventReply.{EventReply}
use Rattle.askrene_command.specs.declared.reply.EventReply.TheVariants.{Done, Removed, Informed, Layers, Reservations, Routes, Refused}
use Rattle.rpc_lines.specs.Json.{whole, scid_data}
use Rattle.plan_answer.specs.Records.{list_data, constraint_data, reservation_data, layer_data}

-- an object whose first key is `at`
abbrev pub at_place : ℕ → Members → Data
at_place at rest = object (member (codes "at") (whole at) rest)

abbrev pub constraint_list : Option Constraint → List Constraint
constraint_list None = []
constraint_list (Some constraint) = constraint ∷ []

unfoldable pub listed_data : Listed → Data
listed_data listed = layer_data listed.name listed.layer

-- an error with the name of a layer
abbrev pub layer_error : ℤ → List ℕ → ℕ → List ℕ → Content
layer_error code message at layer = with_error code message (at_place at (member (codes "layer") (string layer) no_members))

-- an error with a number
abbrev pub number_error : ℤ → List ℕ → ℕ → List ℕ → ℕ → Content
number_error code message at key n = with_error code message (at_place at (member key (whole n) no_members))

-- the layer has created the channel
abbrev pub channel_error : ℕ → List ℕ → ℕ → Content
channel_error at layer scid =
    with_error (pos 303) (codes "channel exists") (at_place at (member (codes "layer") (string layer)
    (member (codes "short_channel_id") (scid_data scid) no_members)))

unfoldable pub refusal_content : ℕ → Refusal → Content
refusal_content at (LayerExists layer) = layer_error (pos 301) (codes "layer exists") at layer
refusal_content at (LayerUnknown layer) = layer_error (pos 302) (codes "unknown layer") at layer
refusal_content at (LayersFull count) = number_error (pos 304) (codes "too many layers") at (codes "count") count
refusal_content at (ChannelExists layer scid) = channel_error at layer scid
refusal_content at (LayerFull layer) = layer_error (pos 304) (codes "layer full") at layer
refusal_content at (NotReserved index) = number_error (pos 305) (codes "not reserved") at (codes "index") index
refusal_content at (ReservationsFull length) = number_error (pos 307) (codes "too many reservations") at (codes "length") length

-- None: routes are computed from the reply, and several contents may be right
unfoldable pub event_content : ℕ → EventReply → Option Content
event_content at Done = Some (with_result (at_place at no_members))
event_content at (Removed count) = Some (with_result (at_place at (member (codes "num_removed") (whole count) no_members)))
event_content at (Informed constraint) =
    Some (with_result (at_place at (member (codes "constraints") (list_data constraint_data (constraint_list constraint)) no_members)))
event_content at (Layers layers) = Some (with_result (at_place at (member (codes "layers") (list_data listed_data layers) no_members)))
event_content at (Reservations now list) =
    Some (with_result (at_place at (member (codes "reservations") (list_data (reservation_data now) list) no_members)))
event_content at (Routes snapshot) = None
event_content at (Refused refusal) = Some (refusal_content at refusal)
