-- Serves private clauses only: the reply for the result of a layer's change.
use Rattle.std.specs.Prelude.{◌≡◌, ℕ, List, Result, Ok, Err}
use Rattle.askrene_state.specs.declared.routing.Found.{Found}
use Rattle.askrene_state.specs.declared.routing.Found.TheVariants.{Layers, Missing}
use Rattle.indexmap.specs.IndexMap.{set_value_at}
use Rattle.layer.specs.Layer.{LayerLists}
use Rattle.layer_ops.specs.declared.refusal.LayerRefusal.{LayerRefusal}
use Rattle.layer_ops.specs.declared.refusal.LayerRefusal.TheVariants.{ChannelExists, LayerFull, NoMemory}
use Rattle.askrene_command.specs.declared.reply.Refusal.TheVariants.{ChannelExists as channel_exists, LayerFull as layer_full}
use Rattle.askrene_command.specs.declared.reply.EventReply.{EventReply}
use Rattle.askrene_command.specs.declared.reply.EventReply.TheVariants.{Refused}
use Rattle.askrene_state.specs.Layers.{NamedLayers}

-- the reply for a result of a change of the named layer
abbrev pub IsReplyAfter : {A : Type 0} → List ℕ → EventReply → Result A LayerRefusal → EventReply → Type 0
IsReplyAfter name reply (Ok _) told = told ≡ reply
IsReplyAfter name reply (Err (ChannelExists scid)) told = told ≡ Refused (channel_exists name scid)
IsReplyAfter name reply (Err (LayerFull entries)) told = told ≡ Refused (layer_full name)
IsReplyAfter name reply (Err NoMemory) told = ⊥

-- the layers with these lists at a position, and the reply
abbrev pub changed_at : NamedLayers → ℕ → LayerLists × EventReply → NamedLayers × EventReply
changed_at layers place changed = (set_value_at layers place changed.0, changed.1)

-- what a search for the layers of an ask found
abbrev pub is_found : Found → Result (List LayerLists) (List ℕ)
is_found (Layers layers) = Ok layers.items
is_found (Missing name) = Err name
