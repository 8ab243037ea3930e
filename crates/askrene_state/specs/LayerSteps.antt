-- The layers after each command, and the reply to its caller. Refusals are listed in the order of the tests.
use Rattle.std.specs.Prelude.{ℕ, ◌-◌, List, ◌∷◌, [], length, map, Bool, true, Option, Some, None, nat_lt, if◌then◌else◌}
use Rattle.std.specs.Option.{is_some}
use Rattle.plan_base.specs.Dir.{Direction}
use Rattle.layer.specs.Layer.{LayerLists}
use Rattle.layer.specs.declared.records.Bound.TheVariants.{Max, Min}
use Rattle.layer.specs.declared.records.Created.{Created}
use Rattle.layer.specs.declared.records.Update.{Update}
use Rattle.layer.specs.declared.records.Constraint.{Constraint}
use Rattle.layer.specs.declared.records.Bias.{Bias}
use Rattle.layer_ops.specs.Changes.{has_created, with_created, with_update, with_constraint, with_bias, with_disabled, aged}
use Rattle.layer_ops.specs.LayerRefusal.{lacks_room, adds_update, adds_bias, adds_disabled}
use Rattle.askrene_command.specs.declared.command.Inform.{Inform}
use Rattle.askrene_command.specs.declared.command.Inform.TheVariants.{Constrained, Unconstrained, Succeeded}
use Rattle.askrene_command.specs.declared.reply.Listed.{Listed}
use Rattle.askrene_command.specs.declared.reply.Refusal.{Refusal}
use Rattle.askrene_command.specs.declared.reply.Refusal.TheVariants.{LayerExists, LayerUnknown, LayersFull, ChannelExists, LayerFull}
use Rattle.askrene_command.specs.declared.reply.EventReply.{EventReply}
use Rattle.askrene_command.specs.declared.reply.EventReply.TheVariants.{Done, Removed, Informed, Layers, Refused}
use Rattle.askrene_state.specs.declared.layers.TheConstants.{LAYERS_MAX}
use Rattle.askrene_state.specs.Layers.{NamedLayers, layer_in, with_new_layer, without_layer, with_lists}

-- before any command
abbrev pub no_layers : NamedLayers
no_layers = []

-- a new layer; an existing name is refused before one layer too many
abbrev pub create_step : NamedLayers → List ℕ → NamedLayers × EventReply
create_step layers name =
    if is_some (layer_in layers name) then (layers, Refused (LayerExists name))
    else if nat_lt (length layers) LAYERS_MAX then (with_new_layer layers name, Done)
    else (layers, Refused (LayersFull (length layers)))

abbrev pub remove_step : NamedLayers → List ℕ → NamedLayers × EventReply
remove_step layers name =
    if is_some (layer_in layers name) then (without_layer layers name, Done) else (layers, Refused (LayerUnknown name))

abbrev pub listed_of : List ℕ × LayerLists → Listed
listed_of layer = record { name = layer.0; layer = layer.1 }

-- the one layer with the name, if it exists
abbrev pub list_found : List ℕ → Option LayerLists → EventReply
list_found name None = Refused (LayerUnknown name)
list_found name (Some lists) = Layers (listed_of (name, lists) ∷ [])

-- all layers in order of creation, or the named one
abbrev pub list_reply : NamedLayers → Option (List ℕ) → EventReply
list_reply layers None = Layers (map listed_of layers)
list_reply layers (Some name) = list_found name (layer_in layers name)

-- ---- changes of one layer

-- the outcome of a change for the lists of one layer: a refusal, or the new lists and the reply
pub record Outcome : Type 0 where
  pub refusal : Option Refusal
  pub lists : LayerLists
  pub reply : EventReply

-- a refused change keeps the old lists
abbrev pub applied_unless : Option Refusal → Outcome → LayerLists → LayerLists × EventReply
applied_unless (Some refusal) outcome old = (old, Refused refusal)
applied_unless None outcome old = (outcome.lists, outcome.reply)

-- the lists after a change, and the reply
abbrev pub applied : Outcome → LayerLists → LayerLists × EventReply
applied outcome old = applied_unless outcome.refusal outcome old

-- the layer that was found has the lists after the change; the others stay
abbrev pub change_found : NamedLayers → List ℕ → (LayerLists → Outcome) → Option LayerLists → NamedLayers × EventReply
change_found layers name change None = (layers, Refused (LayerUnknown name))
change_found layers name change (Some lists) =
    let changed = applied (change lists) lists in (with_lists layers name changed.0, changed.1)

-- a change of the layer with this name
unfoldable pub change_step : NamedLayers → List ℕ → (LayerLists → Outcome) → NamedLayers × EventReply
change_step layers name change = change_found layers name change (layer_in layers name)

-- a change that needs room which the named layer lacks
abbrev pub full_if : List ℕ → Bool → Option Refusal
full_if name lacks = if lacks then Some (LayerFull name) else None

-- the table of changes

-- a channel that the layer has created already is refused before one entry too many
abbrev pub create_channel_outcome : Created → List ℕ → LayerLists → Outcome
create_channel_outcome channel name lists = record {
  refusal = if has_created lists channel.scid then Some (ChannelExists name channel.scid) else full_if name (lacks_room true lists);
  lists = with_created lists channel;
  reply = Done;
}

abbrev pub update_outcome : Update → List ℕ → LayerLists → Outcome
update_outcome change name lists = record { refusal = full_if name (lacks_room (adds_update lists change.dir) lists); lists = with_update lists change; reply = Done }

abbrev pub inform_outcome : Option Constraint → List ℕ → LayerLists → Outcome
inform_outcome None name lists = record { refusal = None; lists = lists; reply = Informed None }
inform_outcome (Some constraint) name lists = record { refusal = full_if name (lacks_room true lists); lists = with_constraint lists constraint; reply = Informed (Some constraint) }

abbrev pub bias_outcome : Bias → List ℕ → LayerLists → Outcome
bias_outcome bias name lists = record { refusal = full_if name (lacks_room (adds_bias lists bias.dir) lists); lists = with_bias lists bias; reply = Done }

abbrev pub disable_outcome : List ℕ → List ℕ → LayerLists → Outcome
disable_outcome node name lists = record { refusal = full_if name (lacks_room (adds_disabled lists node) lists); lists = with_disabled lists node; reply = Done }

abbrev pub age_outcome : ℕ → List ℕ → LayerLists → Outcome
age_outcome cutoff name lists = record { refusal = None; lists = aged lists cutoff; reply = Removed (length lists.constraints - length (aged lists cutoff).constraints) }

-- the bound that an amount shows for a direction at a moment: less than an amount that failed, at least one that passed
abbrev pub constraint_of : Direction → ℕ → ℕ → Inform → Option Constraint
constraint_of dir amount moment Constrained = Some (record { dir = dir; bound = Max; amount = amount - 1; moment = moment })
constraint_of dir amount moment Unconstrained = Some (record { dir = dir; bound = Min; amount = amount; moment = moment })
constraint_of dir amount moment Succeeded = None
