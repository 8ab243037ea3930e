-- When a change is refused, apart from out of memory.
use Rattle.std.specs.Prelude.{◌≡◌, ◌==◌, ◌&&◌, not, true, is_none, Bool, List, ℕ, Option, Some, None, Result, Ok, Err, if◌then◌else◌}
use Rattle.plan_base.specs.Dir.{Direction}
use Rattle.layer.specs.declared.records.Created.{Created}
use Rattle.layer.specs.declared.records.TheConstants.{ENTRIES_MAX}
use Rattle.layer.specs.Layer.{LayerLists, count_entries, update_place, bias_place}
use Rattle.layer_ops.specs.Changes.{has_created, has_disabled}
use Rattle.layer_ops.specs.declared.refusal.LayerRefusal.{LayerRefusal}
use Rattle.layer_ops.specs.declared.refusal.LayerRefusal.TheVariants.{ChannelExists, LayerFull, NoMemory}

-- whether a change needs one more entry and the layer is full
abbrev pub lacks_room : Bool → LayerLists → Bool
lacks_room adds lists = adds && count_entries lists == ENTRIES_MAX

-- whether the change would add an update, a bias or a disabled node
abbrev pub adds_update : LayerLists → Direction → Bool
adds_update lists dir = is_none (update_place lists dir)

abbrev pub adds_bias : LayerLists → Direction → Bool
adds_bias lists dir = is_none (bias_place lists dir)

abbrev pub adds_disabled : LayerLists → List ℕ → Bool
adds_disabled lists node = not (has_disabled lists node)

-- a full layer refuses a change that would add an entry
abbrev pub refusal_of_adding : Bool → LayerLists → Option LayerRefusal
refusal_of_adding adds lists = if lacks_room adds lists then Some (LayerFull (count_entries lists)) else None

abbrev pub refusal_of_create : LayerLists → Created → Option LayerRefusal
refusal_of_create lists channel =
    if has_created lists channel.scid then Some (ChannelExists channel.scid) else refusal_of_adding true lists

abbrev pub refusal_of_update : LayerLists → Direction → Option LayerRefusal
refusal_of_update lists dir = refusal_of_adding (adds_update lists dir) lists

abbrev pub refusal_of_inform : LayerLists → Option LayerRefusal
refusal_of_inform lists = refusal_of_adding true lists

abbrev pub refusal_of_bias : LayerLists → Direction → Option LayerRefusal
refusal_of_bias lists dir = refusal_of_adding (adds_bias lists dir) lists

abbrev pub refusal_of_disable : LayerLists → List ℕ → Option LayerRefusal
refusal_of_disable lists node = refusal_of_adding (adds_disabled lists node) lists

-- the call succeeded without that cause, was refused for that cause, or was out of memory
abbrev pub IsLayerRefusal : {A : Type 0} → Option LayerRefusal → Result A LayerRefusal → Type 0
IsLayerRefusal cause (Ok _) = cause ≡ None
IsLayerRefusal cause (Err (ChannelExists scid)) = cause ≡ Some (ChannelExists scid)
IsLayerRefusal cause (Err (LayerFull entries)) = cause ≡ Some (LayerFull entries)
IsLayerRefusal cause (Err NoMemory) = Unit {0}
