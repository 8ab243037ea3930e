-- A change of the entries of the map as a step of the layers.
use Rattle.std.proofs.Common.{◌≡◌, ◌<◌, ℕ, List, [], ◌∷◌, ◌++◌, length, true, false, nat_eq, nat_lt, Some, None, Option, refl, IfSome, IfOk, Result, Ok, Err}
use Rattle.std.specs.List.{position, slice_get}
use Rattle.std.specs.Option.{is_some}
use Rattle.std.specs.Map.{keys_of, values_of}
use Rattle.std.specs.Cmp.Lexicographic.{pointwise}
use Rattle.std.proofs.lemmas.Bool.{lt-ltb}
use Rattle.indexmap.specs.IndexMap.{IndexMap, insert_entry}
use Rattle.indexmap.proofs.CallerLemmas.{insert_entry-new}
use Rattle.layer.specs.Layer.{LayerLists, no_lists}
use Rattle.askrene_command.specs.declared.reply.EventReply.{EventReply}
use Rattle.askrene_command.specs.declared.reply.EventReply.TheVariants.{Done as EventDone, Layers, Refused}
use Rattle.askrene_command.specs.declared.reply.Refusal.TheVariants.{LayerUnknown}
use Rattle.askrene_state.specs.declared.layers.TheConstants.{LAYERS_MAX}
use Rattle.askrene_state.specs.Layers.{NamedLayers, has_name, layer_in}
use Rattle.askrene_state.specs.LayerSteps.{Outcome, applied, create_step, list_reply, listed_of, change_step}
use Rattle.askrene_state.specs.Replies.{changed_at}
use Rattle.askrene_state.proofs.Entries.{set_found, none_there}

pub change_unknown : (layers : NamedLayers) (name : List ℕ) (change : LayerLists → Outcome) → layer_in layers name ≡ None
    → (layers, Refused (LayerUnknown name)) ≡ change_step layers name change
unfolding change_step
change_unknown layers name change none = rw none refl

change_found_at : (layers new : NamedLayers) (name : List ℕ) (change : LayerLists → Outcome) (place : ℕ) (told : EventReply) (found : Option LayerLists)
    → layer_in layers name ≡ found → position (has_name name) (keys_of layers) ≡ Some place → is_some found ≡ true
    → IfSome found (λ lists. (new, told) ≡ changed_at layers place (applied (change lists) lists)) → (new, told) ≡ change_step layers name change
unfolding change_step
change_found_at layers new name change place told None is at some changed = cc
change_found_at layers new name change place told (Some lists) is at some changed =
    rw (is, ← set_found (has_name name) layers place (applied (change lists) lists).0 at) changed

-- a change at the position of the name is a change of the layer with this name
pub change_told : {E : Type 0} → (layers new : NamedLayers) (name : List ℕ) (change : LayerLists → Outcome) (place : ℕ) (result : Result EventReply E)
    → position (has_name name) (keys_of layers) ≡ Some place → slice_get (values_of layers) place ≡ layer_in layers name → is_some (layer_in layers name) ≡ true
    → IfOk result (λ told. IfSome (slice_get (values_of layers) place) (λ lists. (new, told) ≡ changed_at layers place (applied (change lists) lists)))
    → IfOk result (λ told. (new, told) ≡ change_step layers name change)
change_told layers new name change place (Err fault) at value some changed = tt
change_told layers new name change place (Ok told) at value some changed =
    change_found_at layers new name change place told (layer_in layers name) refl at some (rw value at changed)

-- an absent name is appended
pub create_done : {S : Type 0} → (map : IndexMap (List ℕ) LayerLists S) (new : NamedLayers) (name : List ℕ) → is_some (layer_in map.entries name) ≡ false → length map.entries < LAYERS_MAX
    → new ≡ insert_entry (pointwise nat_eq) map.entries name no_lists → (new, EventDone) ≡ create_step map.entries name
create_done map new name absent few made =
    let added : insert_entry (pointwise nat_eq) map.entries name no_lists ≡ map.entries ++ (name, no_lists) ∷ [] = insert_entry-new (pointwise nat_eq) map name no_lists (none_there _ absent) in
    let room : nat_lt (length map.entries) LAYERS_MAX ≡ true = lt-ltb _ _ few in
    rw (absent, room, made, added) refl

pub list_unknown : (layers : NamedLayers) (name : List ℕ) → layer_in layers name ≡ None → Refused (LayerUnknown name) ≡ list_reply layers (Some name)
list_unknown layers name none = rw none refl

pub list_one : (layers : NamedLayers) (name : List ℕ) (lists : LayerLists) → layer_in layers name ≡ Some lists
    → Layers (listed_of (name, lists) ∷ []) ≡ list_reply layers (Some name)
list_one layers name lists found = rw found refl
